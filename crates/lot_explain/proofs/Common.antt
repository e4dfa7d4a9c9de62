-- The names that this crate's proofs cite, passed on from one place. Declares nothing.
pub use Rattle.std.proofs.Common.{Bool, Contains, Err, List, None, Ok, Option, Result, Some, ap, append-nil, append_assoc, arith, codes, cond, drop, eqb, false, filter, get_or, is_none, is_some, le-ltb, length, length-append, map, max, nat_le, nat_lt, ne_eqb, not, option_and_then, option_map, refl, rules, slice_get, slice_index, subst, suc, sum, sum_by, sym, take, true, unwrap_or, zero, ℕ, [], ◌%◌, ◌&&◌, ◌*◌, ◌++◌, ◌+◌, ◌-◌, ◌/◌, ◌<◌, ◌==◌, ◌^◌, ◌||◌, ◌∙◌, ◌∷◌, ◌≡◌, ◌≤◌}
pub use Rattle.std.proofs.Math.Nat.{div-le_self, min-le_left, mul-le-mul_left, mul-le-mul_right}
pub use Rattle.std.proofs.lemmas.Fmt.{length-decimal-le_wide}
pub use Rattle.std.proofs.lemmas.List.{length-map, length-set, map-set, take-append-drop, take_more}
pub use Rattle.std.proofs.lemmas.List.Elements.{All-append, All-cons, All-head, All-nil, All-push, All-set, All-tail}
pub use Rattle.std.proofs.lemmas.Map.Keys.{IsDistinct-from_apart}
pub use Rattle.std.proofs.lemmas.Map.Views.{Contains-from_any}
pub use Rattle.std.proofs.lemmas.Nat.{le-div}
pub use Rattle.std.specs.Prelude.{All, IfOk, IfSome, if◌then◌else◌, vec_capacity, vec_len, ⊤}
pub use Rattle.lot_machine.proofs.CommandsKept.{all-pass, unrefused}
pub use Rattle.lot_machine.proofs.Common.{Funding, Mutex, Port, QueuedCall, State, active_amount, after_trap, backing_currency, before_lock, borrower, borrower_of, bytes_eq, call, change_each, change_record, compensation_for, ended, first_above, first_client, free_threads, funding_of, is_active, is_live, is_live_status, is_ready, issued_in, killed, lend_of, length-le_from_distinct_below, live_of, lock, mutex_at, node_value, owner_of, port_at, ready_threads, receive, released, released_by, reply, running_sums, status_of, sum-map, sum_by-append, sum_by-cons, thread_on, ticket_in, ticket_value, unlock, value_of, weight, weight_of, winner, with_ticks}
pub use Rattle.lot_machine.proofs.Draws.{winner-is}
pub use Rattle.lot_machine.proofs.NodeBounds.{thread-bounded}
pub use Rattle.lot_machine.proofs.StepChanges.{HasSizesOf}
pub use Rattle.lot_machine.proofs.TrapCycles.{at_number-map, lend-at}
pub use Rattle.lot_machine.proofs.Unlent.{lends-to-nobody, unlent-nothing}
pub use Rattle.lot_machine.proofs.WaitersWorth.{waiters-worth}
pub use Rattle.lot_machine.specs.Bounds.{IsBetween, IsUnit, IsWithinBounds}
pub use Rattle.lot_machine.specs.Commands.{Step, are_threads_full, are_tickets_full, command_effect, command_refusal, command_step, currency_meant, first_failing, is_bad_amount, is_good_name, is_no_script, is_taken, is_thread_name, newborn, thread_meant, unless_refused}
pub use Rattle.lot_machine.specs.Rows.{currency_name, currency_row, row_of_thread, row_of_ticket, target_name, thread_name, thread_row, ticket_row}
pub use Rattle.lot_machine.specs.Step.{checked_effect, draw, ends_quantum, event_effect, event_refusal, is_bad_processor, started, step, thread_there, trap_effect, trap_refusal, used_there}
pub use Rattle.lot_machine.specs.declared.trap.Trap.TheVariants.{Call, Exit, Lock, Receive, Serve, Sleep, Unlock, Yield}
pub use Rattle.lot_machine.specs.declared.refusal.Refusal.TheVariants.{BadAmount, BadName, BadProcessor, BadTicks, Busy, Full, NameTaken, NoCurrency, NoScript, NotRunning}
pub use Rattle.lot_machine.specs.declared.reply.Outcome.TheVariants.{Passed}
pub use Rattle.lot_machine.specs.declared.row.CurrencyRow.{CurrencyRow}
pub use Rattle.lot_machine.specs.declared.row.TicketRow.{TicketRow}
pub use Rattle.lot_machine.specs.declared.ticket.Target.TheVariants.{Currency, Unfunded}
pub use Rattle.lot_simulation.proofs.Common.{After, Ends, GoesOn, Leaves, Moment, TimedTurn, TrapRefusal, all_due, command-grown, due_first, earliest, end_of, moment_after, next_due, opening_moment, other-sizes, step-limits, step-sizes, timed_room, timed_turns, turn_due, turns_from, within}
pub use Rattle.lot_simulation.proofs.TimesRise.{next-follows}
pub use Rattle.lot_simulation.specs.Grammar.{ActorRun, Phrase, actors_of, add_line, add_made, add_named, add_naming, add_runs, body_after_header, body_line, body_words_of, closed_program, command_line, first_line, fitting_line, header_in_order, header_line, header_words_of, in_time, is_full, is_late, lacks_duration, later_line, line_inside, line_outside, name_at_end, name_in, numbered, phrase_inside, phrases_inside, phrases_of, program_in, program_of, read_line, read_lines, refused_on, run_of, script_line, script_names, separators_of, token_line, value_from, values_from, whole_program, with_header_word, with_line}
pub use Rattle.lot_simulation.specs.Output.{answer_text, output, played_output, printed_actor, scheduled_output, timed_output, timed_text, turn_text, turn_texts}
pub use Rattle.lot_simulation.specs.Reading.{OpenScript, Reading, actor_below, any_name, any_number, any_ticket, checked, each, each_pair, is_long_name, named_ticket, new_name, number_between, number_named, opening_reading, script_number, ◌>>=◌}
pub use Rattle.lot_simulation.specs.Texts.{behind_point, drawn_value, front, newline, quotient_text, refused, reply_text, value_text}
pub use Rattle.lot_simulation.specs.Words.{script_words, timed_script_words, word_in}
pub use Rattle.lot_simulation.specs.declared.input.BodyWord.{BodyWord}
pub use Rattle.lot_simulation.specs.declared.input.InputRefusal.TheVariants.{BadHeader, BadLine, BadNumber, TooDeep, TooLong, UnknownName}
pub use Rattle.lot_simulation.specs.declared.style.LineStyle.TheVariants.{Timed, Whole}
pub use Rattle.lot_text.proofs.Common.{HeaderWord, InputRefusal, ScriptWord, Separators, Slot, Value, Verb, command_from, form, is_ignored, lines_of, tokens_of, without_end}
pub use Rattle.lot_print.specs.Loans.{loan_line}
pub use Rattle.lot_print.specs.Lots.{lot_line, mark, part_word, weight_word, why_text}
pub use Rattle.lot_print.specs.declared.loans.Loan.{Loan}
pub use Rattle.lot_print.specs.declared.lots.Compensation.{Compensation}
pub use Rattle.lot_print.specs.declared.lots.Lot.{Lot}
pub use Rattle.lot_print.specs.declared.lots.Lottery.{Lottery}
pub use Rattle.lot_print.specs.declared.lots.Lottery.TheVariants.{OfMutex, OfProcessor}
pub use Rattle.lot_engine.proofs.Common.{Action, Command, Drawn, Event, Fund, HasRow, IsFresh, IsInOrder, IsSlice, Kill, MakeFunded, MakeThread, Parts, Program, Record, Refusal, RemoveThread, RemoveTicket, Reply, ScriptLine, ScriptTrap, Seen, SetTicket, Sizes, Slice, Status, Target, Thread, Ticket, TurnAnswer, TurnMade, Unfund, World, actor_event, at_number, at_number-suc, console_turn, done_of, eqb-false, eqb-true, event_given, event_of_slice, get_or_from_slice_get, is_none_free, leb-false, lt-ltb, ltb-false, ltb-true, next_name, number_of, numbers, opening-order, opening_world, option_any, option_flatten, or_parts, order-sound, placed, processor_event, processor_of, processor_turn, report, resolved, set_number, slice_get-get_or, slice_get_within, slice_on, some-injective, step-order, system_after, system_run, system_turn, turn_in, world_of}
pub use Rattle.lot_engine.proofs.TurnFacts.{event-is, system_turn-processor}
pub use Rattle.lot_playback.proofs.Common.{Answered, Ended, Ready, Running, Served, Waiting, filter-passes, index-holds, is-ready, length-range_with_len, number-kept}
pub use Rattle.lot_playback.specs.Stages.{HasJustMade, answer_in}
pub use Rattle.lot_system.proofs.Common.{Appends, Begins, Due, IoFault, IsPut, LineStyle, MadeTurn, Put, ThreadRow, appends-both, begins-after, begins-front, decimal, flat_map, flat_map-append, list_any, program_turns, puts-both, puts-stop, range-push, range_with_len, scheduled_turns, timed_report, turns_by, turns_in_time, world-one_more, writes-after}
pub use Rattle.lot_system.proofs.LineFacts.{pages-out, put-err, put-ok}
pub use Rattle.lot_system.proofs.PlayedFacts.{ends-well, err-is, fails-first, fails-last}
pub use Rattle.lot_system.proofs.WritingFacts.{put-written, range-more, range-stops}
pub use Rattle.lot_system.specs.Texts.{last_report, style_at}
pub use Rattle.lot_explain.specs.Explained.{detail_text, explained_in_time, explained_output, explained_program, explained_schedule, explained_text, explained_texts, explained_times, lots_text}
pub use Rattle.lot_explain.specs.Funding.{currency_funds, funding_at, funding_if_won, funding_in, funding_lines, funding_text, row_funds, row_shared, ticket_funds}
pub use Rattle.lot_explain.specs.Gathering.{Gathered, lot_if_ready}
pub use Rattle.lot_explain.specs.Loans.{IsLent, all_loans, lends_to, loan_in, loan_lines, loan_of, loan_to}
pub use Rattle.lot_explain.specs.Lots.{compensation_of, draw_lots, entrants_in, loans_among, loans_of, lot_diagnostics, lot_of, lots_among, lots_of, mutex_lots, ready_lot, total_of, waiter_lot, won_in, won_lines}
pub use Rattle.lot_explain.specs.MadeTurns.{HasLots, IsExplained, explained_made, explained_turns}
pub use Rattle.lot_explain.specs.Numbers.{HasNumber, number_in}
pub use Rattle.lot_explain.specs.Short.{HasShortName, line_bytes, turn_count}
pub use Rattle.lot_explain.specs.declared.detail.Detail.{Detail}
pub use Rattle.lot_explain.specs.declared.detail.Detail.TheVariants.{Lots}
pub use Rattle.lot_explain.specs.declared.entrants.Entrants.{Entrants}
pub use Rattle.lot_explain.specs.declared.entrants.Entrants.TheVariants.{Nobody, Waiters}
pub use Rattle.lot_explain.specs.declared.won.Won.{Won}
