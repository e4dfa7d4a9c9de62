-- The names that this crate's proofs cite, passed on from one place. Declares nothing.
pub use Rattle.std.proofs.Common.{Bool, Contains, Err, List, None, Ok, Option, Result, Some, add-zero, ap, append-nil, append_assoc, arith, codes, cond, drop, false, filter, filter_map, fold, get_or, if◌then◌else◌, inl, inr, is_none, is_some, length, length-append, length-drop, lit<, map, max, min, nat_le, nat_lt, ne_eqb, option_map, refl, rules, set, slice_get, slice_index, slice_set, subst, suc, sum_by, sym, take, true, unwrap_or, vec_len, zero, zero-add, ℕ, [], ◌%◌, ◌&&◌, ◌*◌, ◌++◌, ◌+◌, ◌-◌, ◌/◌, ◌<◌, ◌==◌, ◌^◌, ◌||◌, ◌∙◌, ◌∷◌, ◌≡◌, ◌≢◌, ◌≤◌, ◌⊎◌}
pub use Rattle.std.proofs.Math.Nat.{div-eq_of_lt, div-le_of_le-mul, div-mul-le_self, min-eq_left, mul-div-le, mul-le-mul_left, mul-le-mul_right}
pub use Rattle.std.proofs.lemmas.Bool.{cases_eq, cases_lt, eq-eqb, eqb-false, eqb-true, le-leb, le-ltb, leb-true, lt-leb, lt-ltb, ltb-false, ltb-true}
pub use Rattle.std.proofs.lemmas.Fmt.{length-decimal-le}
pub use Rattle.std.proofs.lemmas.List.{drop_all, drop_more, ext_get_or, flat_map_more, get_or-map, get_or-set_other, get_or-set_same, get_or-take, get_or_append_left, get_or_default, get_or_push, length-map, length-set, length-take, length_push, map-append, map-set, map_push, take_all, take_at, take_more}
pub use Rattle.std.proofs.lemmas.List.Concat.{length-flat_map}
pub use Rattle.std.proofs.lemmas.List.Elements.{All-cons, All-nil, filter-append}
pub use Rattle.std.proofs.lemmas.List.FromFn.{get_or-map-range_with_len, length-map-range_with_len, length-range_with_len, map-range_with_len_more}
pub use Rattle.std.proofs.lemmas.List.Sums.{fold_more, sum_by-cons, sum_by-le, sum_by_more}
pub use Rattle.std.proofs.lemmas.Nat.{le-div, mod_below, mul-le}
pub use Rattle.std.proofs.lemmas.Option.{get_or_from_slice_get, same_Some, slice_get-get_or, slice_get_cases, slice_get_within}
pub use Rattle.std.proofs.lemmas.Result.{on_ok_weaker}
pub use Rattle.std.specs.Int.{div_ceil}
pub use Rattle.std.specs.List.{flat_map, list_all, range_with_len}
pub use Rattle.std.specs.Prelude.{All, AllPairs, IfOk, IsSome, IsTrue, MatchResult, OnOk, find, option_and_then, slice_index_or, ⊤, ◌↔◌}
pub use Rattle.std.specs.declared.alloc.AllocError.{AllocError}
pub use denote.Enum.Bare.{sameb}
pub use Rattle.lot_machine.specs.State.{State, change_record, free_threads, funding_of, live_of, opening, ready_threads, saturated, thread_on, value_of, weight_of}
pub use Rattle.lot_machine.specs.declared.event.Event.TheVariants.{Expire}
pub use Rattle.lot_machine.specs.declared.reply.Reply.TheVariants.{Idle}
pub use Rattle.lot_simulation.proofs.ActorCounts.{turns_made-length}
pub use Rattle.lot_simulation.proofs.Common.{Action, ActorTurn, BadProcessor, BadTicks, Console, IsInOrder, IsNonDecreasing, Keeps, Kill, Moment, NewThread, NotRunning, PutRecord, Step, TimedTurn, after_trap, beside, checked-sizes, checked_effect, command-leads, command_effect, command_refusal, command_step, count_in, draw, event_effect, event_refusal, expire, is_bad_processor, kept, last_moment, moment_after, moment_after_all, newborn, opening_moment, started, step, step-limits, thread_there, ticks_in, timed_schedule, timed_turns, total_of, trap, trap_effect, trap_refusal, turns_made, turns_of, unless_refused, used_there, wake, with_ticks}
pub use Rattle.lot_simulation.proofs.ProcessorCounts.{command-silent}
pub use Rattle.lot_simulation.proofs.RecordCounts.{Comes, IsMade, actor-made, after-even, as-much, change-leaves, checked-even, comes-same, comes-then, kill-even, there-has, there-numbered}
pub use Rattle.lot_simulation.proofs.TimedRuns.{timed-made, timed-world, turns-few}
pub use Rattle.lot_simulation.proofs.TimesRise.{times-rise}
pub use Rattle.lot_simulation.specs.Below.{currency_numbers, stands_below, worth_of}
pub use Rattle.lot_simulation.specs.TimedReport.{actor_turns, due_after, due_from, due_in, due_part, due_rate, live_part, live_ticks, live_time, makes, rate_in, tick_parts, time_from}
pub use Rattle.lot_io.specs.Watching.{Watch}
pub use Rattle.lot_io.specs.declared.fault.IoFault.TheVariants.{Memory}
pub use Rattle.lot_curves.proofs.Ends.{samples-few, ticks-at_last}
pub use Rattle.lot_curves.specs.Curves.{Curves, command_times, currency_stretches_from, curves_by, curves_of, ended_in_time, name_by, names_by, numbers_by, row_at, sample_count, sample_tick, sample_ticks, scheduled_curves, shown_at, stretches_made, timed_curves_by, timed_stretches, timed_stretches_by, total_at, windowed}
pub use Rattle.lot_curves.specs.Intervals.{curves_within}
pub use Rattle.lot_curves.specs.OwnTimes.{EndedTurn, ended_after}
pub use Rattle.lot_curves.specs.Stretches.{charged_thread, currencies_above, had_at, in_column, last_end, part_at, stretch_of, stretches_of, turn_stretches}
pub use Rattle.lot_curves.specs.Windows.{had_in, part_in, start_of}
pub use Rattle.lot_curves.specs.contracts.by.By.{the_type}
pub use Rattle.lot_curves.specs.declared.by.By.{By}
pub use Rattle.lot_curves.specs.declared.by.By.TheVariants.{Currency, Thread}
pub use Rattle.lot_curves.specs.declared.interval.Interval.{Interval}
pub use Rattle.lot_curves.specs.declared.stretch.Measure.{Measure}
pub use Rattle.lot_curves.specs.declared.stretch.Measure.TheVariants.{Draws, Ticks}
pub use Rattle.lot_curves.specs.declared.stretch.Stretch.{Stretch}
pub use Rattle.lot_engine.proofs.Common.{HasLayoutFor, HasThoseAbove, IsLegal, Program, TurnAnswer, TurnMade, World, action_of, actor_event, console_turn, event_of_slice, next_name, number-some, number_of, opening-order, opening_world, order-sound, processor_event, processor_turn, resolved, slice_on, step-order, system_after, system_answers, system_run, system_turn}
pub use Rattle.lot_playback.proofs.Common.{Answered, Answers, Command, Drawn, Ended, Event, FoundNodes, Funding, HasFound, IsBetween, IsDispatch, IsProgram, IsSound, IsWithinBounds, Layout, Record, Refusal, Reply, Running, ScriptTrap, Seen, Sizes, Slice, Status, Ticket, active_amount, all-pass, at_number, at_number-suc, currency-bounded, event-for, event_for, flat_map-append, found-runs, get_or-set_at, is_currency, is_currency-is, is_live, live_value, numbered, option_any, option_flatten, placed, run-in-order, set_number, some-injective, sum-filter, target-of, ticket_in, ticket_in-suc, time_after, winner, world_of}
pub use Rattle.lot_playback.proofs.DispatchFacts.{value-kept, whole-kept}
pub use Rattle.lot_playback.proofs.DueFacts.{time-more}
pub use Rattle.lot_playback.proofs.FollowFacts.{turn-answers}
pub use Rattle.lot_playback.proofs.WorthFacts.{value-within}
pub use Rattle.lot_playback.specs.Stages.{HasJustMade, HasMade, answer_in}
pub use Rattle.lot_playback.specs.Turns.{MadeTurn, counted_turn, counted_turns, program_turns, scheduled_turn, scheduled_turns, turn_in_time, turns_by, turns_in_time, world_after_turns}
pub use Rattle.lot_playback.specs.declared.sharers.Sharers.TheVariants.{Currencies, Threads}
pub use Rattle.lot_system.proofs.Common.{InputFault, IoFault, ThreadRow, decimal, ends_refused, newline, program_in, row_of_thread, thread_name, thread_row, world-one_more}
pub use Rattle.lot_system.proofs.ListingFacts.{numbers-push}
pub use Rattle.lot_system.proofs.RefusedFacts.{stopped-at-end}
pub use Rattle.lot_system.specs.Played.{Plays, came_of}
pub use Rattle.lot_system.specs.declared.inputs.Played.{Played}
pub use Rattle.lot_system.specs.declared.inputs.Played.TheVariants.{Done}
pub use Rattle.lot_chart.specs.Axes.{axis_step, lead, mark_count, marks, steps, time_mark_count, time_marks}
pub use Rattle.lot_chart.specs.Charts.{across, axes, chart, colour, column_mark, command_mark, command_marks, curve, drawn_of, due_curve, due_curves, due_point, due_points, frame, head, height_mark, heights_label, highest, label, leader, lines_in, lines_label, longest_name, measure_label, most_shown, name_of, name_text, point, point_at, points, sample_point, stroke, strokes, time_mark, top_at, tops, total, width_for}
pub use Rattle.lot_chart.specs.Dues.{Dues, due_height, due_share, due_ticks, due_to, dues_by, dues_in, grown_at, last_sample, line_parts, line_share, most_due, own_value, shared_ticks, sum_until, whole_value}
pub use Rattle.lot_chart.specs.Escapes.{escaped, escaped_byte}
pub use Rattle.lot_chart.specs.Gauges.{AreColumns, AreDues, AreLinesOf, AreRenewed, EachGauge, HasPassed, HasPassedAll, HasRenewed, HaveAllPassed, HaveDues, HaveRead, HaveReadAll, IsAscending, IsAwaiting, IsColumn, IsGauge, IsGaugeOf, IsLineOf, IsMeter, IsNew, IsNewMeter, IsNow, IsRead, IsRenewed, IsSampled, IsWithin, KeepThreads, amount_for, end_tick, flow_at, flow_of, grown, grown_in, most_of, start_tick, state_of, step_of, thread_of, timed_turn}
pub use Rattle.lot_chart.specs.Lines.{height_of, lines_after, lines_of, most_in, place_of}
pub use Rattle.lot_chart.specs.Marks.{column_of, first_in, first_of, is_within, marked, stands_in}
pub use Rattle.lot_chart.specs.Noted.{HasLooked, HasSearched, command_time, commands_in, curves_after, end_in, ended_at, has_run, own_end, stretches_in, stretches_of_turn}
pub use Rattle.lot_chart.specs.Ranking.{IsBefore}
pub use Rattle.lot_chart.specs.Shares.{figure_text, share_of, tenths, whole_at}
pub use Rattle.lot_chart.specs.Shown.{Shows, shown_of}
pub use Rattle.lot_chart.specs.Standings.{Selected, first_selected, other_stretches, ranked, ranked_after, selected, selection, with_others, with_standing}
pub use Rattle.lot_chart.specs.Tables.{header_line, next_field, row_line, sampled_line, table}
pub use Rattle.lot_chart.specs.declared.gauges.Gauge.{Gauge}
pub use Rattle.lot_chart.specs.declared.gauges.Growth.{Growth}
pub use Rattle.lot_chart.specs.declared.gauges.Growth.TheVariants.{Due, Live}
pub use Rattle.lot_chart.specs.declared.gauges.Marks.{Marks}
pub use Rattle.lot_chart.specs.declared.lines.PlotLine.{PlotLine}
pub use Rattle.lot_chart.specs.declared.metering.LineDues.{LineDues}
pub use Rattle.lot_chart.specs.declared.metering.Meter.{Meter}
pub use Rattle.lot_chart.specs.declared.standings.Standing.{Standing}
