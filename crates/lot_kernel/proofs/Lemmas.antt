-- The names and the lemmas that the proofs of this crate's functions cite, passed on from one place. Declares nothing.
pub use Rattle.lot_kernel.proofs.Common.{Action, Alive, All, BadAmount, BadName, BadProcessor, BadTicks, BaseFixed, Bool, Busy, CanChange, CanLend, CanTarget, Contains, CountsReads, Currency, Cycle, DeadThread, Effect, FreeStack, Full, Fund, Funded, Funding, HasFound, HasHolders, HasIdlePlace, HasNoCycle, IfNone, IfSome, InUse, IsBetween, IsCycle, IsFree, IsFunding, IsInOrder, IsIndexOf, IsLive, IsLiveIn, IsThere, IsTimely, IsTrue, KeepsStale, Kill, Killed, LimitedFunding, List, MakeCurrency, MakeFunded, MakeThread, MakeTicket, MakesStale, MakesStaleIn, Meter, Mutex, MutexTrap, NameTaken, NoCurrency, NoMutex, NoPort, NoScript, NoTarget, NoThread, NoTicket, Node, NodeLists, None, NotAsleep, NotFunding, NotOwner, NotRunning, NothingToReply, Option, Outcome, QueueLists, Reaches, Ready, Record, Refusal, RemoveCurrency, RemoveThread, RemoveTicket, Runner, Running, RunsAlone, RunsOn, SetTicket, Sizes, Snapshot, Some, SomeIff, State, Step, StopsIfLeaves, Target, Thread, Threaded, Ticket, Unfund, Unfunded, Waiting, YieldsList-from_filter, YieldsList-from_first, active_amount, after_trap, ap, ap₂, are_currencies_full, are_threads_full, are_tickets_full, arith, at_number, at_number-map, backing_currency, before_lock, bucket_of, bytes_eq, call, change_record, command_effect, command_refusal, command_step, compensation_for, cond, contains-nothing, counted_up, currency_meant, currency_name, drawn_in, drop, edges_into_all, effect_of, ends_quantum, eq-eqb, event_refusal, false, first_failing, free_currencies, free_threads, free_tickets, freed_in, funding_in, funding_of, hand-mutex, held, held_by, holders, if◌then◌else◌, inl, is_bad_processor, is_currency, is_cycle, is_dead_in, is_funding, is_in_use, is_name, is_no_mutex, is_no_script, is_none, is_none_free, is_some, is_taken, is_thread_in_use, is_thread_name, issued_in, killed, left_by, lend_of, lends_lead, lends_lead_within, length, length-map, length-reverse, length-set, live-status, live_in, lock, locks-off, map, map-set, meant-within, min_from_yields_List, mutex_at, names_of, nat_eq, nat_le, ne_eqb, newborn, next_thread, next_ticket, node_value, nodes_of, not, nowhere-running, of_mutexes, option_and_then, option_any, option_eq, option_flatten, option_map, option_map_id, owner_of, owners_of, owns, placed, port_holders, range_with_len, receive, record-of, refl, retargeted, reverse, rules, serve, served_at, set_number, settled, settled_in, sizes_of, slice_get, slice_get-get_or, slice_get-map, slice_get_within, slice_index_or, slice_set, started, status_of, stopped, subst, suc, sym, taker, target_meant, tests, the_view, thread_at, thread_meant, thread_on, threads_of, ticket_at, ticket_in, ticket_value, trap_refusal, true, unless_refused, unlock, unserved, unwrap_or, used_by, wake, weight, with_amount, with_currency, with_pushed, with_records, with_target, with_thread, with_ticket, with_ticket_read, with_ticks, without_servers, worth_in, ℕ, [], ◌&&◌, ◌*◌, ◌++◌, ◌+◌, ◌-◌, ◌<◌, ◌==◌, ◌^◌, ◌||◌, ◌↔◌, ◌∙◌, ◌∷◌, ◌≡◌, ◌≢◌, ◌≤◌}
pub use Rattle.lot_kernel.proofs.Commanding.{cycle-tested, funded-placed, good-amount, makes-funded, next-there, target-funded, thread-no-cycle, ticket-with}
pub use Rattle.lot_kernel.proofs.Counting.{count-failed, count-passed, count_after}
pub use Rattle.lot_kernel.proofs.Cutting.{AreFreed, DoFollow, cut-fails, cut-held, cut-passes, cut-queues, cut-runs, cut-state, cut-there, follow-freed, follow-other, follow-start, followed, freed-mine, freed-other, holders-unserved, makes-locked, owners-left}
pub use Rattle.lot_kernel.proofs.Drawing.{start-fresh, step-idle, step-won}
pub use Rattle.lot_kernel.proofs.Finishing.{can-finish, may-leave}
pub use Rattle.lot_kernel.proofs.Freeing.{gap-number, idle-place, no-first, ticket-gap}
pub use Rattle.lot_kernel.proofs.Holding.{IsHeld, held-mutexes, held-records, held-removed, held-stale, held-threads, held-tickets, makes-held, makes-none, settles-held, snapshot_of}
pub use Rattle.lot_kernel.proofs.Indexed.{bucket-of, gap-free, index-added, index-again, index-nameless, index-nameless_again, index-removed, index-unlisted, least-first, meant-named, meant-place, named-listed, next-free, no-bucket, none-meant, thread-named, when-none, when-some}
pub use Rattle.lot_kernel.proofs.Keeping.{keeps-both, keeps-settled, keeps-threads}
pub use Rattle.lot_kernel.proofs.Killing.{all-meter, all-queues, all-stale, all-threads, clients-count, end-there, held-killed, out-count, out-there, pass-count, pass-nowhere, pass-owners, records-count, state-killed}
pub use Rattle.lot_kernel.proofs.Leaving.{effect-leaves, waiters-queue}
pub use Rattle.lot_kernel.proofs.Looking.{entry-missing, entry-of, numbered}
pub use Rattle.lot_kernel.proofs.Metering.{trap-then, unlock-counts}
pub use Rattle.lot_kernel.proofs.Opening.{opening-held, opening-holders, opening-starts, opens-threads}
pub use Rattle.lot_kernel.proofs.PastPorts.{cycle-none, cycle-off, cycle-past, holder-free, mutex-kept, walk-ends, walk-goes, walk-stops}
pub use Rattle.lot_kernel.proofs.PortTraps.{call-idle, call-takes, port-leaves, port-shows, receive-queues, receive-takes, runner-nowhere, runs-still, serve-queues, serve-takes, served-shows, untied-still}
pub use Rattle.lot_kernel.proofs.Refusing.{busy-on, done, event-done, expires, le-of, missing, missing-of, mutex-zero, no-record, not-owner, over-overrun, over-preempted, over-trapped, overruns, preempts, present, present-of, refused-event-reply, refused-event-state, refused-reply, refused-shows, refused-state, second-full, tested-count, tested-mutex, tested-zero, three-fail, three-pass, traps, within-count}
pub use Rattle.lot_kernel.proofs.Reusing.{currency-fits, currency-last, currency-left, first-currency, first-currency_gap, first-thread, first-thread_gap, first-ticket, first-ticket_gap, given-threads, last-currency, last-thread, last-ticket, next-within, none-currencies, none-first, none-threads, none-tickets, popped-currencies, popped-threads, popped-tickets, room-currencies, room-on, room-threads, room-tickets, thread-fits, thread-last, thread-room, ticket-fits, ticket-last, ticket-left, ticket-some}
pub use Rattle.lot_kernel.proofs.Rooms.{rooms-are}
pub use Rattle.lot_kernel.proofs.Rows.{thread-row-of, ticket-row-of}
pub use Rattle.lot_kernel.proofs.Serving.{AreGone, gone-all, gone-count, gone-next, gone-ports, holders-all, holders-killed, holders-lock, holders-next, holders-none, holders-unlock, holders_from, may-own, mutexes-enough, options-differ, options-same, owner-seen, replaced, replaced-stale, served-back, served-kept, server-held, server-holders, server-same, server-state, unserved-count}
pub use Rattle.lot_kernel.proofs.SettledRows.{active-is, currency-row-of}
pub use Rattle.lot_kernel.proofs.Shown.{tables-shown, threads-shown}
pub use Rattle.lot_kernel.proofs.Stacks.{popped, popped-none, pushed-first}
pub use Rattle.lot_kernel.proofs.ThreadsAgain.{gap-unnamed, names-again, records-again, state-again, thread-gone, threads-again}
pub use Rattle.lot_kernel.proofs.TicketsAgain.{currency-number, currency-there, held-again, ticket-number, ticket-there}
pub use Rattle.lot_kernel.proofs.TrapEnds.{effect-limits, effect-runs, finished-reply, finished-state, lends-there, makes-trap}
pub use Rattle.lot_kernel.proofs.Trapping.{call-done, call-keeps, change-count, lead-nobody, lock-checked, lock-count, lock-there, mutexes-state, number-there, number-within, ports-state, reaches-lead, receive-done, receive-keeps, reply-done, reply-keeps, running-there, serve-done, serve-keeps, status-there, unlock-count, unlock-done, unlock-same}
