-- The names that this crate's proofs cite, passed on from one place. Declares nothing.
pub use Rattle.std.proofs.Common.{All, Bool, Contains, IfSome, List, MatchOption, None, Option, Some, ap, append_assoc, arith, cond, count_by, drop, eqb, false, filter, filter_map, find, get_or, if◌then◌else◌, inl, inr, is_none, is_some, length, map, nat_le, nat_lt, ne_eqb, not, option_and_then, option_map, position, pred, refl, remove, replicate, set, slice_get, slice_index, slice_set, subst, suc, sum, sum_by, sym, take, true, unwrap_or, zero, ℕ, [], ◌%◌, ◌&&◌, ◌*◌, ◌++◌, ◌+◌, ◌-◌, ◌/◌, ◌<◌, ◌==◌, ◌^◌, ◌||◌, ◌↔◌, ◌∙◌, ◌∷◌, ◌≡◌, ◌≢◌, ◌≤◌, ◌⊎◌}
pub use Rattle.std.proofs.Math.Dec.{eqb-suc-zero}
pub use Rattle.std.proofs.Math.ListN.{length-set}
pub use Rattle.std.proofs.Math.Nat.{add-mul, div-le_self, div-mul-le_self, div-zero, eq-or-lt_of_le, le-div_iff_mul-le, mod-eq_of_lt, mod-lt, mul-add, mul-div_cancel, mul-le-mul_left, mul-le-mul_right, zero-div}
pub use Rattle.std.proofs.Math.Seq.{set-append_seam}
pub use Rattle.std.proofs.lemmas.Bool.{and_from, and_parts, cases_eq, cases_lt, eq-eqb, eqb-false, eqb-true, le-ltb, leb-false, leb-true, lt-ltb, ltb-false, ltb-true, or_cases, or_left, or_parts, or_right}
pub use Rattle.std.proofs.lemmas.List.{get_or_past, length-append, length-map, length-replicate, map-append, map-set}
pub use Rattle.std.proofs.lemmas.List.Elements.{All-contains, All-contains_itself, All-filter, All-head, All-nil, All-push, All-set, All-tail, Contains-append_cases, Contains-append_left, Contains-append_right, filter_passes}
pub use Rattle.std.proofs.lemmas.List.Quantifiers.{position-Some}
pub use Rattle.std.proofs.lemmas.List.Sums.{sum-map, sum_by-append, sum_by-cons, sum_by-set}
pub use Rattle.std.proofs.lemmas.Map.Steps.{length-le_from_distinct_below}
pub use Rattle.std.proofs.lemmas.Option.{get_or_from_slice_get, slice_get-get_or, slice_get-map, slice_get_cases, slice_get_read, slice_get_within}
pub use Rattle.std.proofs.lemmas.Slice.Eq.{bytes_eq-Decides}
pub use Rattle.std.specs.Bool.{then_some}
pub use Rattle.std.specs.List.{AllByRecursion, cons_option, list_any, position_or_len, range_with_len}
pub use Rattle.std.specs.Option.{option_flatten, option_or}
pub use Rattle.std.specs.Prelude.{⊤}
pub use Rattle.std.specs.Str.{bytes_eq}
pub use Rattle.lot_machine.specs.Activity.{IsActive, activates_within, active_amount, is_active}
pub use Rattle.lot_machine.specs.Bounds.{IsUnit, IsWithinBounds}
pub use Rattle.lot_machine.specs.Change.{Change, DropCurrency, DropThread, DropTicket, NewCurrency, NewThread, NewTicket, PutClients, PutMutex, PutPort, PutRecord, PutTicket, applied, applied_all}
pub use Rattle.lot_machine.specs.Commands.{Step, are_currencies_full, are_threads_full, are_tickets_full, command_effect, command_refusal, command_step, currency_meant, currency_named, currency_or_base, drop_currency, drop_thread, drop_ticket, first_failing, is_bad_amount, is_cycle, is_dead_in, is_dead_thread, is_funding, is_in_use, is_meant_by, is_name, is_no_name, is_no_script, is_taken, is_thread_in_use, is_thread_name, kill, newborn, target_meant, target_named, thread_meant, thread_named, unless_refused}
pub use Rattle.lot_machine.specs.Equations.{HasEachOnce, HasEquation, IsWay, LeadsInto, Reaches, Solves, all_edges, direct_lenders, edges_into, is_into, is_node, owned_by, share, shares_into, ticket_share}
pub use Rattle.lot_machine.specs.Facts.{CountsOnce, FundsThere, HasNoCycle, IsSound, RunsApart, base_value, is_won_by, live_value, total_weight}
pub use Rattle.lot_machine.specs.Funding.{ChainLeads, Funding, IsChain, IsEdge, WouldCycle, all_tickets, backing_currency, backing_thread, currencies_funded_by, currency_funded, edge_count_into, ends_of, is_currency, is_thread, is_to_mutex, is_to_thread, issued_in, issuer_of, lend_node, owner_of, reaches_within, reissued, retargeted, target_node, target_of, ticket_at, ticket_in, user_currency_count, weighed_of, with_amount, with_new_ticket, with_target, without_ticket, would_cycle}
pub use Rattle.lot_machine.specs.Kill.{ended, heir, is_owned_by, killed, mutex_without, passed_on, port_without, released, released_by, without}
pub use Rattle.lot_machine.specs.Lends.{IsBacked, IsLendChain, IsLive, LendsLead, LendsOnTo, LendsTo, borrower, borrower_of, is_backed, is_backed_within, is_live, lends_lead, lends_lead_within, lends_on_to}
pub use Rattle.lot_machine.specs.Lottery.{IsFirstAbove, first_above, running_sums, weight, winner}
pub use Rattle.lot_machine.specs.Mutexes.{lock, mutex_at, unlock}
pub use Rattle.lot_machine.specs.Named.{processor_of, thread_in}
pub use Rattle.lot_machine.specs.Numbered.{at_number, numbers, option_any, set_number}
pub use Rattle.lot_machine.specs.Order.{HasFreeGaps, HasOneSidedPorts, HasQueues, IsGap, IsInOrder, IsOneSided, IsQueue}
pub use Rattle.lot_machine.specs.Places.{is_none_free, next_place, placed}
pub use Rattle.lot_machine.specs.Ports.{PortTrap, call, clients_of, first_client, port_at, receive, reply, serve}
pub use Rattle.lot_machine.specs.Servers.{before_lock, held_by, leads_back, left_by, port_holders, served_at, unserved, unserved_at, with_server, without_servers}
pub use Rattle.lot_machine.specs.State.{Mutex, Port, QueuedCall, State, change_each, change_record, free_currencies, free_threads, free_tickets, funding_of, given_again, holder_of, holders, is_asleep, is_dead, is_live_status, is_ready, lend_of, lends_at, live_of, next_thread, opening, ready_threads, status_of, thread_at, thread_on, used_by, used_on, value_of, weight_of}
pub use Rattle.lot_machine.specs.Step.{Effect, at_port, checked_effect, draw, event_effect, event_refusal, is_bad_processor, is_no_mutex, of_mutexes, of_ports, owns, started, state_after, step, stopped, thread_there, trap, trap_effect, trap_refusal, used_there, wake}
pub use Rattle.lot_machine.specs.Touched.{IsChangedEdge, IsChangedLife, IsChangedNode, IsEdgeOfEither, IsPath, IsTouched, IsWeighedOnlyIn, LiveBetween, PathLeads, Touches, WeighedBetween}
pub use Rattle.lot_machine.specs.Traps.{after_trap, compensation_for, with_ticks}
pub use Rattle.lot_machine.specs.Value.{currency_value, lenders_to, mutex_value, node_value, own_value, thread_value, ticket_value, ticket_value_within, waiters_for}
pub use Rattle.lot_machine.specs.Worked.{after, settkt, unfund}
pub use Rattle.lot_machine.specs.WorkedRuns.{upstream}
pub use Rattle.lot_machine.specs.Actions.{Action}
pub use Rattle.lot_machine.specs.declared.trap.Trap.TheVariants.{Call, Exit, Lock, Receive, Serve, Sleep, Unlock, Yield}
pub use Rattle.lot_machine.specs.declared.after.After.{After}
pub use Rattle.lot_machine.specs.declared.after.After.TheVariants.{Ends, GoesOn, Leaves}
pub use Rattle.lot_machine.specs.declared.command.Command.{Command}
pub use Rattle.lot_machine.specs.declared.command.Command.TheVariants.{Fund, Kill, MakeCurrency, MakeFunded, MakeThread, MakeTicket, RemoveCurrency, RemoveThread, RemoveTicket, SetTicket, Unfund}
pub use Rattle.lot_machine.specs.declared.drawn.Drawn.{Drawn}
pub use Rattle.lot_machine.specs.declared.event.Event.{Event}
pub use Rattle.lot_machine.specs.declared.funding.Edge.{Edge}
pub use Rattle.lot_machine.specs.declared.funding.Edge.TheVariants.{OfLender, OfMutex, OfTicket}
pub use Rattle.lot_machine.specs.declared.funding.Lend.{Lend}
pub use Rattle.lot_machine.specs.declared.funding.Lend.TheVariants.{Nobody, ToMutex, ToThread}
pub use Rattle.lot_machine.specs.declared.funding.Node.{Node}
pub use Rattle.lot_machine.specs.declared.funding.Node.TheVariants.{Thread}
pub use Rattle.lot_machine.specs.declared.record.Record.{Record}
pub use Rattle.lot_machine.specs.declared.record.Status.{Status}
pub use Rattle.lot_machine.specs.declared.record.Status.TheVariants.{Asleep, Dead, Queued, Ready, Receiving, Running, Served, Waiting}
pub use Rattle.lot_machine.specs.declared.reference.CurrencyRef.{CurrencyRef}
pub use Rattle.lot_machine.specs.declared.reference.TargetRef.{TargetRef}
pub use Rattle.lot_machine.specs.declared.reference.ThreadRef.{ThreadRef}
pub use Rattle.lot_machine.specs.declared.refusal.Refusal.{Refusal}
pub use Rattle.lot_machine.specs.declared.refusal.Refusal.TheVariants.{Alive, BadAmount, BadName, BadProcessor, BadTicks, BaseFixed, Busy, Cycle, DeadThread, Full, InUse, NameTaken, NoCurrency, NoScript, NoTarget, NoThread, NoTicket, NotAsleep, NotFunding, NotRunning}
pub use Rattle.lot_machine.specs.declared.refusal.TrapRefusal.{TrapRefusal}
pub use Rattle.lot_machine.specs.declared.refusal.TrapRefusal.TheVariants.{AlreadyOwner, LockCycle, NoMutex, NoPort, NotOwner, NothingToReply}
pub use Rattle.lot_machine.specs.declared.reply.Outcome.{Outcome}
pub use Rattle.lot_machine.specs.declared.sizes.Sizes.{Sizes}
pub use Rattle.lot_machine.specs.declared.ticket.Target.{Target}
pub use Rattle.lot_machine.specs.declared.ticket.Target.TheVariants.{Currency, Unfunded}
pub use Rattle.lot_machine.specs.declared.ticket.Ticket.{Ticket}
