-- The names that this crate's proofs cite, passed on from one place. Declares nothing.
pub use Rattle.std.proofs.Common.{All, Bool, Contains, List, None, Option, Some, [], ap, arith, codes, cond, count_by, drop, eq-eqb, false, filter, filter_map, get_or, if◌then◌else◌, inl, inr, is_none, is_some, length, map, max, min, nat_le, nat_lt, not, option_and_then, option_map, position, refl, remove, slice_get, slice_index, slice_set, subst, suc, sum, sum_by, sym, true, unwrap_or, zero, ℕ, ◌%◌, ◌&&◌, ◌*◌, ◌++◌, ◌+◌, ◌-◌, ◌/◌, ◌<◌, ◌==◌, ◌^◌, ◌||◌, ◌↔◌, ◌∙◌, ◌∷◌, ◌≡◌, ◌≢◌, ◌≤◌, ◌⊎◌}
pub use Rattle.std.proofs.Math.Nat.{add-mul, div-add-mod', div-le_self, lt-div-mul-add, mod-lt, mul-add, mul-div_cancel, mul-le-mul_right, mul_comm, pow-suc, pow-succ', pow-zero}
pub use Rattle.std.proofs.lemmas.Bool.{cases_eq, cases_lt, eqb-false, eqb-true, le-leb, le-ltb, lt-ltb, ltb-false, ne_eqb, or_cases, or_parts}
pub use Rattle.std.proofs.lemmas.List.{length-append, length-map, length-replicate, map-set, set-set}
pub use Rattle.std.proofs.lemmas.List.Elements.{All-contains, All-head, All-tail, Contains-append_cases, Contains-append_left, Contains-append_right, Contains-get_or}
pub use Rattle.std.proofs.lemmas.List.FromFn.{length-range_with_len}
pub use Rattle.std.proofs.lemmas.List.Sums.{count_by-le-length, length-filter, sum_by-append, sum_by-cons}
pub use Rattle.std.proofs.lemmas.Nat.{div_below, le-div}
pub use Rattle.std.specs.List.{flat_map, list_any, range_with_len}
pub use Rattle.lot_machine.proofs.Changes.{number-kept, number-push, number-set, number-there, place-set, place-set_other, place-set_same}
pub use Rattle.lot_machine.proofs.CommandsKept.{IsThere, all-pass, none-of, some-of, unrefused}
pub use Rattle.lot_machine.proofs.Common.{ChainLeads, DropCurrency, Funding, FundsThere, HasEachOnce, HasEquation, HasNoCycle, HasOneSidedPorts, HasQueues, IsActive, IsBacked, IsChain, IsChangedEdge, IsChangedLife, IsChangedNode, IsEdge, IsEdgeOfEither, IsInOrder, IsLendChain, IsLive, IsOneSided, IsPath, IsQueue, IsTouched, LeadsInto, LendsLead, LendsTo, NewCurrency, NewThread, PathLeads, PutClients, PutPort, PutRecord, Touches, activates_within, active_amount, after_trap, all_tickets, at_number, backing_currency, backing_thread, base_value, before_lock, borrower, borrower_of, compensation_for, currency_value, edge_count_into, edges_into, ended, ends_of, get_or_from_slice_get, heir, held_by, is_active, is_backed, is_currency, is_live, is_owned_by, is_ready, is_thread, is_to_mutex, is_won_by, issued_in, issuer_of, killed, leads_back, lend_node, lends_lead, lends_on_to, length-set, live_value, lock, mutex_at, mutex_without, next_place, node_value, numbers, option_any, option_flatten, option_or, own_value, owner_of, passed_on, placed, port_holders, port_without, position-Some, reissued, released, released_by, retargeted, served_at, set_number, share, shares_into, slice_get-get_or, slice_get-map, slice_get_cases, slice_get_within, target_node, target_of, thread_value, ticket_at, ticket_in, ticket_share, ticket_value, ticket_value_within, total_weight, unlock, unserved, unserved_at, waiters_for, weighed_of, weight, winner, with_amount, with_new_ticket, with_server, with_target, with_ticks, without, without_servers, without_ticket}
pub use Rattle.lot_machine.proofs.CountsOnce.{counts-once, live-thread}
pub use Rattle.lot_machine.proofs.CurrencyFlow.{sum-le_there, term-there}
pub use Rattle.lot_machine.proofs.EachOnce.{IsApart, apart-append, apart-filter, apart-from, apart-map, apart-range, contains-at, contains-filter, contains-later, contains-mapped, contains-nothing, filter-contains, mapped-contains, once-from, place-in, range-contains, same-sums}
pub use Rattle.lot_machine.proofs.EdgeSums.{edges-many, sum-mapped, sum-there}
pub use Rattle.lot_machine.proofs.Edges.{EndsAre, all-nodes, ends-are, pair}
pub use Rattle.lot_machine.proofs.EdgesOnce.{into-once, kept-shares}
pub use Rattle.lot_machine.proofs.Flow.{base_worth}
pub use Rattle.lot_machine.proofs.FullTables.{currencies-counted, threads-counted, tickets-counted}
pub use Rattle.lot_machine.proofs.FundingKept.{filtered-some}
pub use Rattle.lot_machine.proofs.Idle.{IsAlive, alive-of, filter-passes, is-dead, is-ready, receiver-alive, status-number, there-alive, there-runs, waiter-alive}
pub use Rattle.lot_machine.proofs.KillKept.{lends-by, lends-of, number-mapped}
pub use Rattle.lot_machine.proofs.Killed.{IsAmong, IsHeir, among-append_left, among-append_right, calls-absent, client-waits, each-now, each-other, each-record, each-record_either, each-record_other, heir-released, heir-waits, killed-dead, killed-either, owner-either, record-now, record-other, released-why, without-absent, without-other}
pub use Rattle.lot_machine.proofs.LendDepth.{is_backed-exact, lender_within, lends_lead-exact}
pub use Rattle.lot_machine.proofs.NamedThreads.{winner-within}
pub use Rattle.lot_machine.proofs.NamesKept.{AreOwn, after-own, name-means, name_at, opening-own}
pub use Rattle.lot_machine.proofs.NodeBounds.{issuer-amount}
pub use Rattle.lot_machine.proofs.NodeShares.{begins-there, solution, values-solve}
pub use Rattle.lot_machine.proofs.OneSided.{at-port, reached-one}
pub use Rattle.lot_machine.proofs.OrderKept.{meant-number, meant-within, opening-order, order-sound, reached-order, run-order, step-order}
pub use Rattle.lot_machine.proofs.Places.{number-next, number-placed, number-stays, place-placed}
pub use Rattle.lot_machine.proofs.Queues.{IsAbsent, number-set_same, queue-clients, record-of, status-now, status-other, status-set}
pub use Rattle.lot_machine.proofs.RecordsKept.{found-runs, nobody-runs, numbered, runs-used_by, status-changed}
pub use Rattle.lot_machine.proofs.RunsElsewhere.{kill-step}
pub use Rattle.lot_machine.proofs.Shares.{place-share, thread-share}
pub use Rattle.lot_machine.proofs.StepChanges.{By, Console, Keeps, by_event, currency-there, free-dead, kept, step-leads}
pub use Rattle.lot_machine.proofs.StepSizes.{change-length, checked-sizes, each-length, other-sizes, other-tickets, step-grown, step-limits}
pub use Rattle.lot_machine.proofs.Sums.{sum-at_most, sum-filter, sum-le, sum-le_from, sum-none, sum-nothing, sum-on, sum-one, sum-plus, sum-same, sum-swap, sum-times, sum-under}
pub use Rattle.lot_machine.proofs.TicketDepth.{is_active-exact}
pub use Rattle.lot_machine.proofs.Tickets.{any_from, at_number-suc, flatten-some, is_currency-is, issued-at, issued-found, issuer-of, place_of, some-injective, target-of, ticket-of, ticket_in-suc}
pub use Rattle.lot_machine.proofs.TrapCycles.{at_number-map, cycle-nobody, lend-at, lent-if, lent-to, owners-set}
pub use Rattle.lot_machine.proofs.Unlent.{is_thread-is}
pub use Rattle.lot_machine.proofs.Unserved.{counted, lends-off, locks-off, run-holders, served-off}
pub use Rattle.lot_machine.proofs.ValueDepth.{ticket_value-unfolds}
pub use Rattle.lot_machine.proofs.Weighed.{there-weighed, weighed-there}
pub use Rattle.lot_machine.specs.Commands.{Step, are_currencies_full, are_threads_full, are_tickets_full, command_effect, command_refusal, command_step, currency_meant, currency_named, currency_or_base, drop_thread, first_failing, is_bad_amount, is_cycle, is_dead_in, is_dead_thread, is_funding, is_in_use, is_meant_by, is_name, is_no_script, is_taken, is_thread_in_use, is_thread_name, is_unfunded, kill, newborn, target_meant, target_named, thread_meant, thread_named, unless_refused, with_thread, with_ticket}
pub use Rattle.lot_machine.specs.Named.{thread_given}
pub use Rattle.lot_machine.specs.Ports.{PortTrap, call, clients_of, first_client, port_at, receive, reply, serve, with_client}
pub use Rattle.lot_machine.specs.Rows.{target_name}
pub use Rattle.lot_machine.specs.State.{Mutex, Port, QueuedCall, State, change_each, change_record, free_currencies, free_threads, free_tickets, funding_of, holder_of, holders, is_asleep, is_live_status, lend_of, lends_at, live_in, live_of, next_thread, opening, ready_threads, status_of, thread_at, thread_on, used_by, value_of, weight_of}
pub use Rattle.lot_machine.specs.Step.{Effect, at_port, checked_effect, draw, event_effect, event_refusal, expire, finish_trap, is_bad_processor, is_no_mutex, of_mutexes, of_ports, owns, replies, started, state_after, step, stopped, thread_there, trap, trap_effect, trap_refusal, used_there, wake}
pub use Rattle.lot_machine.specs.Worked.{after, fundx, settkt}
pub use Rattle.lot_machine.specs.WorkedRuns.{two_to_one}
pub use Rattle.lot_machine.specs.Actions.{Action}
pub use Rattle.lot_machine.specs.declared.trap.Trap.TheVariants.{Call, Exit, Lock, Receive, Serve, Sleep, Unlock, Yield}
pub use Rattle.lot_machine.specs.declared.after.After.{After}
pub use Rattle.lot_machine.specs.declared.after.After.TheVariants.{Ends, GoesOn, Leaves}
pub use Rattle.lot_machine.specs.declared.command.Command.{Command}
pub use Rattle.lot_machine.specs.declared.command.Command.TheVariants.{Fund, Kill, MakeCurrency, MakeFunded, MakeThread, MakeTicket, RemoveCurrency, RemoveThread, RemoveTicket, SetTicket, Unfund}
pub use Rattle.lot_machine.specs.declared.drawn.Drawn.{Drawn}
pub use Rattle.lot_machine.specs.declared.event.Event.{Event}
pub use Rattle.lot_machine.specs.declared.event.Event.TheVariants.{Draw, Trap, Wake}
pub use Rattle.lot_machine.specs.declared.funding.Edge.{Edge}
pub use Rattle.lot_machine.specs.declared.funding.Edge.TheVariants.{OfLender, OfMutex, OfTicket}
pub use Rattle.lot_machine.specs.declared.funding.Lend.{Lend}
pub use Rattle.lot_machine.specs.declared.funding.Lend.TheVariants.{Nobody, ToMutex, ToThread}
pub use Rattle.lot_machine.specs.declared.funding.Node.{Node}
pub use Rattle.lot_machine.specs.declared.funding.Node.TheVariants.{Currency, Thread}
pub use Rattle.lot_machine.specs.declared.record.Record.{Record}
pub use Rattle.lot_machine.specs.declared.record.Status.{Status}
pub use Rattle.lot_machine.specs.declared.record.Status.TheVariants.{Asleep, Dead, Ready, Receiving, Running, Served, Waiting}
pub use Rattle.lot_machine.specs.declared.reference.CurrencyRef.{CurrencyRef}
pub use Rattle.lot_machine.specs.declared.reference.TargetRef.{TargetRef}
pub use Rattle.lot_machine.specs.declared.reference.ThreadRef.{ThreadRef}
pub use Rattle.lot_machine.specs.declared.refusal.Refusal.{Refusal}
pub use Rattle.lot_machine.specs.declared.refusal.Refusal.TheVariants.{Alive, BadAmount, BadName, BadProcessor, BadTicks, BaseFixed, Cycle, DeadThread, Full, InUse, NameTaken, NoCurrency, NoScript, NoTarget, NoThread, NoTicket, NotFunding, NotRunning}
pub use Rattle.lot_machine.specs.declared.refusal.TrapRefusal.{TrapRefusal}
pub use Rattle.lot_machine.specs.declared.refusal.TrapRefusal.TheVariants.{AlreadyOwner, LockCycle, NoMutex, NoPort, NothingToReply}
pub use Rattle.lot_machine.specs.declared.reply.Outcome.{Outcome}
pub use Rattle.lot_machine.specs.declared.reply.Outcome.TheVariants.{Queued, Received, Refused, Replied, RepliedThenReceived, RepliedThenWaits, ServedBy, Waits}
pub use Rattle.lot_machine.specs.declared.reply.Reply.{Reply}
pub use Rattle.lot_machine.specs.declared.reply.Reply.TheVariants.{Done, Trapped}
pub use Rattle.lot_machine.specs.declared.sizes.Sizes.{Sizes}
pub use Rattle.lot_machine.specs.declared.ticket.Target.{Target}
pub use Rattle.lot_machine.specs.declared.ticket.Target.TheVariants.{Unfunded}
pub use Rattle.lot_machine.specs.declared.ticket.Ticket.{Ticket}
pub use Rattle.lot_laws.specs.Conservation.{HasAmounts, active_issued, handed_out, lost_at, lost_value, rounded_tickets}
pub use Rattle.lot_laws.specs.Fairness.{all_draws, choose, draws_first_won_after, first_win, lists_of, place_wins, squared_distance, thread_wins, win_count, wins_in_all}
pub use Rattle.lot_laws.specs.Insulation.{Affects, ChangesInside, Encloses, FundsNoBase, IsAffected, IsChangeInside, IsMeantInside, KeepsAmount, RemovesTicket, SetsAmountOf, amount_in, is_active_in, ticket_worth_in, worth_in}
pub use Rattle.lot_laws.specs.Kills.{IsNextOwner, Kills, Owns, WaitsForThread, after_kill}
pub use Rattle.lot_laws.specs.Reachable.{IsReachable, IsWellFormed}
pub use Rattle.lot_laws.specs.Removed.{IsNotGiven, IsRemoved, NothingLeadsToRemoved, StandsNowhere}
pub use Rattle.lot_laws.specs.Rounds.{IsBetweenRounds, IsBetweenSlices, IsJustBelow, IsSameLottery, StaysReady, compensation_of, loses_all, replies_in_slices, rounds, ticks_by, ticks_in_all_parts, ticks_in_part, ticks_in_rounds, ticks_of, wins_in_rounds, wins_of}
pub use Rattle.lot_laws.specs.Runs.{first_threads, three_threads, two_currencies, waiting_server}
pub use Rattle.lot_laws.specs.Transfers.{LendsQueued, LendsServed, MayWait, OwnsNothing, QueuesAt, QueuesCall, RepliesThenReceives, RepliesThenWaits, RepliesTo, Serves, ServesNextAt, TakesCall, TakesCallAt, TakesQueuedCall, WaitsFor, callers_of, port_value, with_callers_ready, with_ready}
pub use Rattle.lot_laws.specs.Inside.{EnclosesAlone, NoneCompensated, compensation_in, is_won_inside, ready_inside, ticks_counted, value_inside, weighed_ticks, weight_inside, wins_inside}
pub use Rattle.lot_laws.specs.TwoRuns.{AgreeOutside, AllAlike, AreAlike, DifferInside, EndOutside, EndsTurn, SameOutside, SetOutside, WinOutside, first_runs, second_runs, weight_outside}
