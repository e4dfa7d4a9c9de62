-- The names that this crate's proofs cite, passed on from one place. Declares nothing.
pub use Rattle.std.proofs.Common.{All, Bool, List, None, Option, Some, ap, append-nil, arith, cond, count_by, drop, eq-eqb, false, filter, get_or, if◌then◌else◌, inl, inr, is_none, length, length-append, lit<, map, min, nat_le, nat_lt, ne_eqb, option_and_then, option_map, refl, replicate, set, slice_get, slice_index, slice_set, subst, suc, sum, sum_by, sym, take, true, unwrap_or, zero, ℕ, [], ◌*◌, ◌++◌, ◌+◌, ◌-◌, ◌<◌, ◌==◌, ◌^◌, ◌||◌, ◌∙◌, ◌∷◌, ◌≡◌, ◌≤◌, ◌⊎◌}
pub use Rattle.std.proofs.Math.Nat.{min-eq_left}
pub use Rattle.std.proofs.lemmas.Bool.{cases_eq, cases_lt, eqb-false, eqb-true, le-leb, le-ltb, leb-false, leb-true, ltb-false, ltb-true}
pub use Rattle.std.proofs.lemmas.List.{get_or-map, length-drop, length-map, length-replicate, map-set, set-get_or}
pub use Rattle.std.proofs.lemmas.List.Elements.{All-cons, All-head, All-nil, All-tail, All-weaker}
pub use Rattle.std.proofs.lemmas.List.FromFn.{get_or-map-range_with_len, length-map-range_with_len}
pub use Rattle.std.proofs.lemmas.List.Sums.{get_or-le-sum_by, sum-map, sum_by-cons, sum_by-set, sum_by_push}
pub use Rattle.std.specs.List.{flat_map, prefix_len, range_with_len}
pub use Rattle.std.specs.List.Sorted.{IsNonDecreasing}
pub use Rattle.std.specs.Option.{option_map_or}
pub use Rattle.lot_machine.proofs.Changes.{number-set}
pub use Rattle.lot_machine.proofs.CommandsKept.{all-pass, some-of}
pub use Rattle.lot_machine.proofs.Common.{IsInOrder, NewThread, PutRecord, Step, after_trap, at_number, command_effect, command_refusal, command_step, first_failing, get_or_from_slice_get, length-set, newborn, numbers, option_any, placed, processor_of, set_number, slice_get-get_or, slice_get-map, slice_get_cases, slice_get_within, thread_in, thread_meant, unless_refused, winner, with_ticks, ⊤}
pub use Rattle.lot_machine.proofs.LendSums.{number-within}
pub use Rattle.lot_machine.proofs.NamedThreads.{named-apart, winner-within}
pub use Rattle.lot_machine.proofs.OrderKept.{opening-order, step-order}
pub use Rattle.lot_machine.proofs.Places.{length-placed, number-stays}
pub use Rattle.lot_machine.proofs.Queues.{number-set_same}
pub use Rattle.lot_machine.proofs.RecordsKept.{found-runs, numbered}
pub use Rattle.lot_machine.proofs.RunsElsewhere.{event-kills, step-found, step-idle, step-used_there}
pub use Rattle.lot_machine.proofs.StepChanges.{By, Console, IsTallied, Keeps, Kills, Work, checked-leads, command-leads, free-dead, kept}
pub use Rattle.lot_machine.proofs.StepSizes.{checked-sizes, command-grown, killed-length, other-sizes, step-grown, step-limits, step-sizes}
pub use Rattle.lot_machine.proofs.Sums.{sum-at_most, sum-filter, sum-nothing, sum-one, sum-plus, sum-same, sum-swap}
pub use Rattle.lot_machine.proofs.Tickets.{at_number-suc, some-injective}
pub use Rattle.lot_machine.specs.Bounds.{IsBetween, IsWithinBounds}
pub use Rattle.lot_machine.specs.State.{State, change_record, free_threads, is_ready, opening, ready_threads, saturated, status_of, thread_on, weight_of}
pub use Rattle.lot_machine.specs.Step.{checked_effect, draw, event_effect, event_refusal, expire, is_bad_processor, started, step, thread_there, trap, trap_effect, trap_refusal, used_there, wake}
pub use Rattle.lot_machine.specs.Actions.{Action, ScriptTrap}
pub use Rattle.lot_machine.specs.declared.after.After.{After}
pub use Rattle.lot_machine.specs.declared.after.After.TheVariants.{Ends, GoesOn, Leaves}
pub use Rattle.lot_machine.specs.declared.command.Command.{Command}
pub use Rattle.lot_machine.specs.declared.command.Command.TheVariants.{Kill, MakeFunded, MakeThread}
pub use Rattle.lot_machine.specs.declared.drawn.Drawn.{Drawn}
pub use Rattle.lot_machine.specs.declared.event.Event.{Event}
pub use Rattle.lot_machine.specs.declared.record.Record.{Record}
pub use Rattle.lot_machine.specs.declared.record.Status.{Status}
pub use Rattle.lot_machine.specs.declared.reference.ThreadRef.{ThreadRef}
pub use Rattle.lot_machine.specs.declared.refusal.Refusal.{Refusal}
pub use Rattle.lot_machine.specs.declared.refusal.Refusal.TheVariants.{BadProcessor, BadTicks, NotRunning}
pub use Rattle.lot_machine.specs.declared.refusal.TrapRefusal.{TrapRefusal}
pub use Rattle.lot_machine.specs.declared.reply.Reply.{Reply}
pub use Rattle.lot_machine.specs.declared.sizes.Sizes.{Sizes}
pub use Rattle.lot_simulation.specs.Grammar.{ActorRun, actors_of}
pub use Rattle.lot_simulation.specs.Report.{ActorTurn, beside, count_in, idles_in, quanta_in, ticks_in, total_of, turns_made, turns_of}
pub use Rattle.lot_simulation.specs.Script.{Context, Slice, is_mark, slice}
pub use Rattle.lot_simulation.specs.Timed.{Moment, TimedTurn, alarm_due, alarms_after, alarms_asleep, all_due, clock_after_console, clock_of, clocks_after, clocks_after_console, clocks_after_processor, console_due, cost_of, due_first, earliest, end_of, ended_at, following, idle_to, is_idle_draw, is_refusal, is_stopped, last_moment, moment_after, moment_after_all, next_due, opening_moment, processor_due, processors_due, set_alarm, sooner, timed_room, timed_schedule, timed_turns, timer_due, turn_due, turns_from, within, woken}
pub use Rattle.lot_simulation.specs.TimedReport.{actor_turns, clock_at, early_text, idle_until, timed_report, timed_report_of}
pub use Rattle.lot_simulation.specs.Words.{word_in}
pub use Rattle.lot_simulation.specs.World.{IsLegal, IsLegalInTime, Program, TurnMade, World, action_of, actor_event, command_turn, console_turn, context_of, contexts_after, contexts_after_command, event_of_slice, new_context, next_name, number_of, opening_world, processor_event, processor_turn, resolved, sleeper_by, sleeper_on, slice_on, system_after, system_answers, system_run, system_turn}
pub use Rattle.lot_simulation.specs.World.TurnAnswer.{Answered}
pub use Rattle.lot_machine.specs.declared.trap.Trap.TheVariants.{Sleep}
pub use Rattle.lot_simulation.specs.declared.timed.Clock.{Clock}
pub use Rattle.lot_simulation.specs.declared.timed.Due.{Due}
pub use Rattle.lot_simulation.specs.declared.timed.Sleeper.{Sleeper}
