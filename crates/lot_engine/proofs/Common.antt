-- The names that this crate's proofs cite, passed on from one place. Declares nothing.
pub use Rattle.std.proofs.Common.{Bool, Contains, Err, IfOk, IfSome, List, None, Ok, Option, Result, Some, ap, ap₂, arith, cond, drop, eq-eqb, false, get_or, inl, inr, is_none, is_some, le-ltb, length, length-append, ltb, map, min, nat_le, nat_lt, ne_eqb, not, option_and_then, option_map, refl, replicate, rules, set, slice_get, subst, suc, sym, take, true, unwrap_or, zero, ℕ, [], ◌&&◌, ◌++◌, ◌+◌, ◌-◌, ◌<◌, ◌==◌, ◌||◌, ◌↔◌, ◌∙◌, ◌∷◌, ◌≡◌, ◌≢◌, ◌≤◌, ◌⊎◌}
pub use Rattle.std.proofs.Math.ListN.{drop_of_length-le, length-set}
pub use Rattle.std.proofs.Math.Nat.{min-eq_left, min-eq_right}
pub use Rattle.std.proofs.lemmas.Bool.{and_from, and_parts, cases_lt, cond-false, cond-true, eqb-false, eqb-true, le-leb, leb-false, leb-true, lt-leb, lt-ltb, ltb-false, ltb-true, or_cases, or_left, or_parts, or_right}
pub use Rattle.std.proofs.lemmas.List.{drop-drop, get_or-set_same, length-map, length-replicate, set-get_or, set-set}
pub use Rattle.std.proofs.lemmas.List.Edits.{map_over_more}
pub use Rattle.std.proofs.lemmas.List.Sums.{count_by-le-length, sum_by-cons, sum_by_push}
pub use Rattle.std.proofs.lemmas.Option.{get_or_from_slice_get, slice_get-get_or, slice_get_within, unwrap_or-slice_get}
pub use Rattle.std.proofs.lemmas.Result.{IfOk-weaker}
pub use Rattle.std.specs.List.{cons_option, list_any, prefix_len, slice_set}
pub use Rattle.std.specs.Prelude.{All, IsErr, count_by, if◌then◌else◌}
pub use Rattle.lot_machine.proofs.Common.{All-push, All-tail, Funding, FundsThere, HasNoCycle, IsWay, PutMutex, Reaches, WouldCycle, all_tickets, base_value, is_thread, issuer_of, lend_node, lenders_to, owner_of, reaches_within, target_node, target_of, ticket_at}
pub use Rattle.lot_machine.proofs.CurrencyFlow.{currency-bounded}
pub use Rattle.lot_machine.proofs.EachOnce.{contains-at, contains-later, place-in, range-contains}
pub use Rattle.lot_machine.proofs.LendDepth.{lender_within, lends_lead-exact}
pub use Rattle.lot_machine.proofs.OrderKept.{opening-order, order-sound, step-order}
pub use Rattle.lot_machine.proofs.StepChanges.{By, Keeps, by_event, kept, step-leads}
pub use Rattle.lot_machine.specs.Named.{processor_of, thread_given}
pub use Rattle.lot_machine.specs.declared.command.Kind.TheVariants.{Threads}
pub use Rattle.lot_simulation.proofs.Common.{Answered, IsBetween, IsWithinBounds, Reply, at_number, found-runs, killed-length, length-placed, number-within, numbered, numbers, option_any, other-sizes, set_number, step-sizes}
pub use Rattle.lot_simulation.proofs.DrawnThreads.{drawn-numbered, number-some}
pub use Rattle.lot_simulation.proofs.RecordCounts.{quanta-add_up, quanta-within, ticks-add_up, ticks-within}
pub use Rattle.lot_simulation.specs.Below.{funds_thread, stands_below, worth_of}
pub use Rattle.lot_simulation.specs.Report.{ActorTurn, beside, count_in, idles_in, quanta_in, report, ticks_in, turns_made, turns_of}
pub use Rattle.lot_simulation.specs.Script.{Context, Slice, is_mark, slice, start}
pub use Rattle.lot_simulation.specs.World.{IsLegal, IsLegalInTime, Program, TurnAnswer, TurnMade, World, action_of, actor_event, command_turn, console_turn, context_of, contexts_after, contexts_after_command, delivered_to, event_of_slice, generator_of, new_context, next_name, number_delivered, number_from, number_of, opening_world, processor_event, processor_turn, resolved, seed_from, sleeper_by, sleeper_on, slice_on, system_after, system_answers, system_run, system_turn, takes_number, tickets_after, without_ticket}
pub use Rattle.lot_graph.proofs.Common.{FoundNodes, any_at, any_from, at_number-suc, head_of, issuer-of, list_any-filter, some-injective, ticket-of, ticket_in-suc}
pub use Rattle.lot_graph.proofs.CycleLemmas.{cycle-reaches, head-target, lent-head, owned-head}
pub use Rattle.lot_graph.proofs.SpreadLemmas.{currency-edge, mutex-edge, thread-edge, ticket-edge}
pub use Rattle.lot_graph.proofs.WayLemmas.{edge-reaches, lead-reaches, reaches-then}
pub use Rattle.lot_graph.specs.declared.layout.Layout.{Layout}
pub use Rattle.lot_kernel.proofs.Common.{Action, BadAmount, BadName, Command, Currency, Dead, Drawn, Event, Full, Fund, IsInOrder, Kill, Lend, LendsLead, LendsTo, MakeCurrency, MakeFunded, MakeThread, MakeTicket, Mutex, NameTaken, NoCurrency, NoScript, Nobody, Node, OfTicket, Record, Refusal, RemoveCurrency, RemoveThread, RemoveTicket, SetTicket, Sizes, State, Status, Step, Target, Thread, Ticket, ToMutex, ToThread, Unfund, Waiting, all-pass, are_threads_full, are_tickets_full, at_number-map, borrower, command_effect, command_refusal, command_step, currency_meant, draw, drop-cons, event_effect, event_refusal, free_threads, funding_of, holders, is_bad_amount, is_live, is_live_status, is_no_script, is_none_free, is_taken, is_thread_name, lend_of, lends_lead, live_of, mutex_at, newborn, next_thread, opening, option_flatten, place-set_same, placed, ready_threads, row_of_thread, sizes_of, status_of, step, thread_at, thread_meant, thread_on, thread_row, thread_there, unless_refused, used_by, used_there, wake, weight_of, winner, with_thread, would_cycle-exact}
pub use Rattle.lot_kernel.specs.Searching.{HasLayoutOf, IsAboveThread}
pub use Rattle.lot_script.proofs.Common.{Fits, IsScript, Place, ScriptLine, ScriptTrap, context_at, first_place}
pub use Rattle.lot_script.proofs.OnePlace.{one-place}
pub use Rattle.lot_script.specs.Slices.{IsSlice, Parts}
pub use Rattle.lot_program.specs.Programs.{IsProgram}
pub use Rattle.lot_engine.specs.Counted.{AreCounts, IsCount, IsSmall, counted, counted_with}
pub use Rattle.lot_engine.specs.Held.{AreAt, IsAt, IsHeld, IsKept, script_lines}
pub use Rattle.lot_engine.specs.Histories.{HistorySize, KeptHistory, actors_from, woken_in}
pub use Rattle.lot_engine.specs.Playing.{HasPlayed, IsPlayed, turn_in}
pub use Rattle.lot_engine.specs.Searching.{HasLayoutFor, HasThoseAbove}
pub use Rattle.lot_engine.specs.Seen.{HasRow, Seen, Setting, after_turn, shown_history, timer_for, world_of}
pub use Rattle.lot_engine.specs.Steps.{IsNext, KeepsThreads, MakesIn, MakesNone, MakesThread, OfDraw, OfGiven, OfRun, OneMore, contexts_with, delivered_to_place, did, done_of, event_done, event_given, place_of, places_after, places_received, script_in, slice_between}
pub use Rattle.lot_engine.specs.Turns.{IsFresh, IsSliceOf, IsWork, IsWorkIn, IsWorkOf, Matches, work_at}
pub use Rattle.lot_engine.specs.declared.counts.Counts.{Counts}
pub use Rattle.lot_engine.specs.declared.turn.Done.{Done}
pub use Rattle.lot_engine.specs.declared.turn.Running.{Running}
pub use Rattle.lot_engine.specs.declared.turn.Work.{Work}
