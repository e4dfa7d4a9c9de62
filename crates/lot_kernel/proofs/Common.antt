-- The names that this crate's proofs cite, passed on from one place. Declares nothing.
pub use Rattle.std.proofs.Common.{Bool, Contains, IfNone, IfSome, IsTrue, List, MatchOption, None, OnSome, Option, Some, SomeIff, ap, ap₂, arith, codes, cond, drop, eqb, false, filter, filter_map, fold, get_or, if◌then◌else◌, inl, inr, is_none, is_some, length, length-set, ltb-true, map, min, nat_eq, nat_le, nat_lt, ne_eqb, not, option_and_then, option_map, position, refl, remove, replicate, reverse, rules, slice_get, slice_index, slice_index_or, slice_set, subst, suc, sum_by, sym, take, tests, true, unwrap_or, zero, ℕ, [], ◌%◌, ◌&&◌, ◌*◌, ◌++◌, ◌+◌, ◌-◌, ◌<◌, ◌==◌, ◌^◌, ◌||◌, ◌↔◌, ◌∙◌, ◌∷◌, ◌≡◌, ◌≢◌, ◌≤◌, ◌⊎◌}
pub use Rattle.std.proofs.Math.Nat.{min-le_left, min-le_right}
pub use Rattle.std.proofs.Math.Seq.{drop-cons, set-append_seam}
pub use Rattle.std.proofs.lemmas.Bool.{cases_eq, cases_lt, eq-eqb, eqb-false, eqb-true, le-ltb, leb-false, lt-leb, lt-ltb, ltb-false}
pub use Rattle.std.proofs.lemmas.Bool.Decides.{nat_tests}
pub use Rattle.std.proofs.lemmas.Iterator.Adapters.{option_map_id}
pub use Rattle.std.proofs.lemmas.Iterator.Consumers.{YieldsList-from_filter, YieldsList-from_first, min_from_yields_List}
pub use Rattle.std.proofs.lemmas.List.{get_or_past, length-append, length-map, length-replicate, length-reverse, map-set, reverse-append}
pub use Rattle.std.proofs.lemmas.List.Sums.{position_or_len_is, sum_by-cons}
pub use Rattle.std.proofs.lemmas.Option.{get_or_from_slice_get, slice_get-get_or, slice_get-map, slice_get_cases, slice_get_past, slice_get_within}
pub use Rattle.std.specs.List.{All, cons_option, range_with_len, reduce}
pub use Rattle.std.specs.Option.{option_eq, option_flatten, option_to_list}
pub use Rattle.lot_machine.proofs.Changes.{number-kept, number-set, place-kept, place-set_other, place-set_same}
pub use Rattle.lot_machine.proofs.CommandsKept.{all-pass, named-there}
pub use Rattle.lot_machine.proofs.Common.{Funding, FundsThere, HasNoCycle, HasQueues, IsGap, IsInOrder, IsLendChain, IsLive, IsQueue, IsSound, LendsLead, LendsTo, PortTrap, WouldCycle, after_trap, backing_currency, before_lock, borrower, borrower_of, bytes_eq, bytes_eq-Decides, call, clients_of, compensation_for, ended, first_client, heir, held_by, is_currency, is_live, is_none_free, is_owned_by, issued_in, issuer_of, killed, leads_back, left_by, lend_node, lends_lead, lends_lead_within, lends_on_to, mutex_without, next_place, owner_of, passed_on, placed, port_at, port_holders, port_without, position-Some, receive, released, reply, retargeted, serve, served_at, target_node, target_of, ticket_at, ticket_in, unserved, unserved_at, weighed_of, weight, winner, with_amount, with_server, with_target, with_ticks, without, without_servers, without_ticket, would_cycle}
pub use Rattle.lot_machine.proofs.EachOnce.{apart-from, contains-at, contains-filter, contains-nothing, filter-contains, place-in, range-contains, sums-within}
pub use Rattle.lot_machine.proofs.Killed.{each-append, each-between, each-record_other, heir-of, mapped-from, record-other, without-absent, without-other}
pub use Rattle.lot_machine.proofs.LendDepth.{lends_lead-exact}
pub use Rattle.lot_machine.proofs.OrderKept.{meant-within, opening-order, order-sound, trap-order}
pub use Rattle.lot_machine.proofs.Places.{map-placed, number-next}
pub use Rattle.lot_machine.proofs.Queues.{IsAbsent, number-set_same, own-absent, queue-clients, queue-empty, record-of, status-now}
pub use Rattle.lot_machine.proofs.RecordsKept.{RunsAlone, StopsIfLeaves, runs-alone}
pub use Rattle.lot_machine.proofs.Servers.{lock-queues_then}
pub use Rattle.lot_machine.proofs.StepChanges.{free-dead}
pub use Rattle.lot_machine.proofs.StepSizes.{change-length, each-length}
pub use Rattle.lot_machine.proofs.StepsKept.{IsApart, effect-apart}
pub use Rattle.lot_machine.proofs.TicketDepth.{is_active-exact, would_cycle-exact}
pub use Rattle.lot_machine.proofs.TrapCycles.{at_number-map, cycle-unserved_each, lend-at}
pub use Rattle.lot_machine.proofs.TrapQueues.{replied-queues}
pub use Rattle.lot_machine.proofs.Unserved.{locks-off, refused-off, served-off}
pub use Rattle.lot_machine.specs.Commands.{Step, are_currencies_full, are_threads_full, are_tickets_full, command_effect, command_refusal, command_step, currency_meant, currency_named, drop_currency, drop_thread, drop_ticket, first_failing, is_bad_amount, is_cycle, is_dead_in, is_funding, is_in_use, is_meant_by, is_name, is_no_name, is_no_script, is_taken, is_thread_in_use, is_thread_name, is_unfunded, newborn, target_meant, target_named, thread_meant, thread_named, unless_refused, with_currency, with_thread, with_ticket}
pub use Rattle.lot_machine.specs.Rows.{currency_name, currency_row, row_of_thread, target_name, thread_name, thread_row, ticket_row}
pub use Rattle.lot_machine.specs.State.{Freed, Mutex, Port, QueuedCall, State, change_each, change_record, free_currencies, free_threads, free_tickets, funding_of, holder_of, holders, is_live_status, lend_of, live_in, live_of, next_currency, next_thread, next_ticket, opening, ready_threads, sizes_of, status_of, thread_at, thread_on, used_by, value_of, weight_of}
pub use Rattle.lot_machine.specs.Step.{Effect, at_port, checked_effect, draw, ends_quantum, event_effect, event_refusal, expire, finish_trap, is_bad_processor, is_no_mutex, of_mutexes, of_ports, overrun, owns, replies, started, state_after, step, stopped, thread_there, trap, trap_effect, trap_refusal, used_there, wake}
pub use Rattle.lot_machine.specs.Actions.{Action}
pub use Rattle.lot_machine.specs.declared.trap.Trap.TheVariants.{Call, Exit, Lock, Receive, Reply, Serve, Sleep, Unlock, Yield}
pub use Rattle.lot_machine.specs.declared.after.After.{After}
pub use Rattle.lot_machine.specs.declared.after.After.TheVariants.{Ends, GoesOn, Leaves}
pub use Rattle.lot_machine.specs.declared.command.Command.{Command}
pub use Rattle.lot_machine.specs.declared.command.Command.TheVariants.{Fund, Kill, MakeCurrency, MakeFunded, MakeThread, MakeTicket, RemoveCurrency, RemoveThread, RemoveTicket, SetTicket, Unfund}
pub use Rattle.lot_machine.specs.declared.event.Event.{Event}
pub use Rattle.lot_machine.specs.declared.record.Status.TheVariants.{Asleep, Dead, Queued, Ready, Receiving, Running, Served, Waiting}
pub use Rattle.lot_machine.specs.declared.reference.CurrencyRef.TheVariants.{Named}
pub use Rattle.lot_machine.specs.declared.reference.ThreadRef.{ThreadRef}
pub use Rattle.lot_machine.specs.declared.refusal.Refusal.{Refusal}
pub use Rattle.lot_machine.specs.declared.refusal.Refusal.TheVariants.{Alive, BadAmount, BadName, BadProcessor, BadTicks, BaseFixed, Busy, Cycle, DeadThread, Full, InUse, NameTaken, NoCurrency, NoScript, NoTarget, NoThread, NoTicket, NotAsleep, NotFunding, NotRunning}
pub use Rattle.lot_machine.specs.declared.refusal.TrapRefusal.{TrapRefusal}
pub use Rattle.lot_machine.specs.declared.refusal.TrapRefusal.TheVariants.{AlreadyOwner, LockCycle, NoMutex, NoPort, NotOwner, NothingToReply}
pub use Rattle.lot_machine.specs.declared.reply.Outcome.TheVariants.{Refused}
pub use Rattle.lot_machine.specs.declared.reply.Reply.TheVariants.{Funded, Killed, Trapped}
pub use Rattle.lot_machine.specs.declared.row.CurrencyRow.{CurrencyRow}
pub use Rattle.lot_machine.specs.declared.row.ThreadRow.{ThreadRow}
pub use Rattle.lot_machine.specs.declared.row.TicketRow.{TicketRow}
pub use Rattle.lot_queues.proofs.Callers.{nowhere-running, number-again}
pub use Rattle.lot_queues.specs.QueueLists.{IsNowhere, IsThere, QueueLists, empty_queues, queues_without, waiters_without, with_owner}
pub use Rattle.lot_graph.proofs.MirrorLemmas.{mirror-free, mirror-push, mirror-remove, mirror-same}
pub use Rattle.lot_graph.specs.Found.{HasFound}
pub use Rattle.lot_value.proofs.Applied.{target-may}
pub use Rattle.lot_value.proofs.Common.{Currency, Edge, HasEachOnce, HasSameSize, IsActive, IsBorrower, IsChangedEdge, IsChangedLife, IsChangedNode, IsConsistent, IsCycle, IsFree, IsFunding, IsMutex, IsTarget, IsTouched, Lend, LimitedFunding, Nobody, Node, NodeLists, OfLender, OfMutex, OfTicket, PathLeads, Reaches, Target, Ticket, ToMutex, ToThread, Unfunded, active_amount, at_number, at_number-suc, counted_up, currency_value, edges-between, flatten-some, is_active, live-between, node_at, node_value, nodes_of, option_any, set_number, some-injective, ticket_value, with_pushed, with_removed}
pub use Rattle.lot_value.specs.Caches.{HasNoneTwice, edges_into_all}
pub use Rattle.lot_value.specs.Changing.{CanLend, CanOwn, CanTarget}
pub use Rattle.lot_value.specs.declared.change.GraphChange.TheVariants.{ReuseCurrency, ReuseTicket}
pub use Rattle.lot_tree.specs.Visits.{CountsReads}
pub use Rattle.lot_draw.specs.declared.competing.Winner.{Winner}
pub use Rattle.lot_threads.proofs.Adding.{newborn-edges}
pub use Rattle.lot_threads.proofs.Common.{IsBelowQuantum, IsBetween, IsTimely, Sizes, Thread}
pub use Rattle.lot_threads.proofs.Ending.{may-lend}
pub use Rattle.lot_threads.proofs.Leads.{reaches-leads}
pub use Rattle.lot_threads.specs.Threaded.{CanChange, CanRun, IsLiveIn, IsStaleIn, IsThreadOf, MakesStaleIn, Threaded, applied_in, drawn_in, funding_in, settled_in, with_records, worth_in}
pub use Rattle.lot_threads.specs.declared.runners.Runner.{Runner}
pub use Rattle.lot_ports.proofs.Common.{makes-last, with_ports}
pub use Rattle.lot_mutex.proofs.Common.{Drawn, IsOwnerBetween, Meter, MutexTrap, Outcome, Record, Status, live-apart, live-status, live-there, lock, makes-both-in, makes-each, mutex_at, next_from, number-some, owners_of, passed_from, unlock, with_mutexes}
pub use Rattle.lot_mutex.proofs.Owners.{owners-after, owners-same}
pub use Rattle.lot_mutex.proofs.PassedOn.{hand-mutex, other-test, owned-test}
pub use Rattle.lot_kernel.specs.Counted.{AreDone, CountsNothing, CountsTrap, KeepsStale, settled, settled_meter, with_ticket_read}
pub use Rattle.lot_kernel.specs.FreePlaces.{HasIdlePlace, HasRoomFor, freed_in, none_free}
pub use Rattle.lot_kernel.specs.FreeStacks.{FreeStack}
pub use Rattle.lot_kernel.specs.Names.{IsIndexOf, bucket_at, bucket_of, hash_of, names_of}
pub use Rattle.lot_kernel.specs.Snapshots.{HasHolders, IsTargetThere, MakesStale, Snapshot, held, starting, threads_of}
pub use Rattle.lot_kernel.specs.Trapped.{IsRunning, RunsOn, effect_of, taker}
pub use Rattle.lot_kernel.specs.contracts.tables.Tables.{the_invariant, the_view}
pub use Rattle.lot_kernel.specs.declared.ending.Trap.{Trap}
pub use Rattle.lot_kernel.specs.declared.tables.Tables.TheInside.{Inside}
