-- The names that this crate's proofs cite, passed on from one place. Declares nothing.
pub use Rattle.std.proofs.Common.{Bool, Err, List, None, Ok, Option, Result, Some, [], ap, append-nil, append_assoc, arith, codes, drop, false, filter, inl, inr, length, length-append, min, ne_eqb, option_map, refl, replicate, rules, subst, suc, sym, take, true, zero, ℕ, ◌%◌, ◌*◌, ◌++◌, ◌+◌, ◌-◌, ◌/◌, ◌<◌, ◌^◌, ◌||◌, ◌∙◌, ◌∷◌, ◌≡◌, ◌≢◌, ◌≤◌, ◌⊎◌}
pub use Rattle.std.proofs.Math.Nat.{add-mul, add-mul-div_right, div-add-mod', mul_assoc, mul_comm}
pub use Rattle.std.proofs.lemmas.List.{get_or-set_other, get_or-set_same, length-drop, length-map, length-set}
pub use Rattle.std.proofs.lemmas.List.Elements.{filter-append}
pub use Rattle.std.specs.List.{flat_map, fold, list_any, range_with_len, slice_get}
pub use Rattle.std.specs.Prelude.{IfErr, IfOk, IsErrAnd, IsSome, OnOk, if◌then◌else◌, is_some, map, option_and_then, slice_index_or, slice_set, unwrap_or, ⊤, ◌&&◌}
pub use Rattle.lot_machine.specs.Rows.{currency_name, currency_row, row_of_thread, thread_name, thread_row, ticket_row}
pub use Rattle.lot_machine.specs.declared.command.Kind.{Kind}
pub use Rattle.lot_machine.specs.declared.command.Kind.TheVariants.{Currencies, Tickets}
pub use Rattle.lot_machine.specs.declared.row.ThreadRow.{ThreadRow}
pub use Rattle.lot_simulation.proofs.ClocksAddUp.{turn-limits}
pub use Rattle.lot_simulation.proofs.TimedRuns.{room-small, timed-made}
pub use Rattle.lot_simulation.specs.Columns.{all_subjects, header_row, if_any, mean, number, percent_of, quiet, share, span_cells, subject_of, told_text}
pub use Rattle.lot_simulation.specs.declared.columns.Cell.{Cell}
pub use Rattle.lot_simulation.specs.declared.columns.Layout.{Layout}
pub use Rattle.lot_simulation.specs.declared.columns.Subject.{Subject}
pub use Rattle.lot_simulation.specs.declared.columns.Subject.TheVariants.{Currency, Processor, Thread, Total}
pub use Rattle.lot_simulation.specs.declared.columns.Table.TheVariants.{Schedule}
pub use Rattle.lot_simulation.specs.Formats.{unit_of}
pub use Rattle.lot_simulation.specs.Output.{end_text, output_of, played_output, timed_text, turn_text, turn_texts}
pub use Rattle.lot_simulation.specs.Report.{ActorTurn, history_lines, processor_total, report, thread_total, ticks_in, total_of, turns_made, turns_of, whole_total}
pub use Rattle.lot_simulation.specs.Seeded.{with_seed}
pub use Rattle.lot_simulation.specs.Texts.{currency_line, fault_line, front, lines_for, listing_text, newline, plain_text, reply_text, thread_line, ticket_line}
pub use Rattle.lot_simulation.specs.Timed.{Moment, TimedTurn, clock_of, end_of, ended_at, following, is_stopped, last_moment, moment_after_all, opening_moment, timed_turns}
pub use Rattle.lot_simulation.specs.TimedReport.{actor_turns, base_time, currency_cells, currency_due_in, currency_ticks_in, due_in, early_end, early_text, ended_cell, idle_until, life_change, live_part, live_time, made_cell, mutex_change, no_lives, past_lives, processor_cells, ready_in, refusals_in, refused_traps_in, reply_change, report_at, spans_in, subject_text, subjects_text, thread_cells, tick_parts, timed_report, timed_report_of, total_cells, wait_cells, with_lives}
pub use Rattle.lot_simulation.specs.declared.style.LineStyle.{LineStyle}
pub use Rattle.lot_simulation.specs.declared.style.LineStyle.TheVariants.{Whole}
pub use Rattle.lot_simulation.specs.declared.timed.EarlyEnd.{EarlyEnd}
pub use Rattle.lot_simulation.specs.declared.timed.PastLives.{PastLives}
pub use Rattle.lot_io.proofs.WritingFacts.{appends-both, begins-after, begins-front, writes-after, writes-flushed}
pub use Rattle.lot_io.specs.Writing.{Begins, IsPut, Put, Written}
pub use Rattle.lot_io.specs.declared.fault.IoFault.{IoFault}
pub use Rattle.lot_io.specs.declared.fault.IoFault.TheVariants.{Write}
pub use Rattle.lot_text.proofs.Common.{InputFault, program_in, range_with_len-push}
pub use Rattle.lot_print.proofs.Common.{Appends, decimal}
pub use Rattle.lot_print.proofs.PageFacts.{put-all, put-begun, puts-both, puts-stop}
pub use Rattle.lot_print.specs.Listings.{listing_line}
pub use Rattle.lot_print.specs.declared.figures.Spread.{Spread}
pub use Rattle.lot_print.specs.declared.figures.Figures.{Figures}
pub use Rattle.lot_engine.proofs.PlayingFacts.{report-is}
pub use Rattle.lot_engine.specs.Counted.{counted}
pub use Rattle.lot_engine.specs.Seen.{Seen, given_count, shown_history, world_of}
pub use Rattle.lot_engine.specs.declared.counts.Counts.{Counts}
pub use Rattle.lot_playback.proofs.ClockFacts.{time-end}
pub use Rattle.lot_playback.proofs.Common.{AreCurrencies, AreDue, AreReadyFor, Due, Event, HasMade, Program, Record, Reply, Reports, Sizes, Spans, Stage, State, World, at_number, cases_eq, flat_map-append, fold_push, live_value, numbers, opening, opening_world, option_flatten, option_map_or, system_after, system_turn, turns_left, value_of}
pub use Rattle.lot_playback.proofs.FollowFacts.{room-few, within-room}
pub use Rattle.lot_playback.proofs.MadeFacts.{world-one_more}
pub use Rattle.lot_playback.proofs.PlaceFacts.{place-end}
pub use Rattle.lot_playback.proofs.TimeFacts.{range-push}
pub use Rattle.lot_playback.specs.InTime.{AreRefusedTraps, AreSpans, IsAtEnd, moment_in}
pub use Rattle.lot_playback.specs.Orders.{IsInOrder, made_in}
pub use Rattle.lot_playback.specs.Turns.{MadeTurn, program_turns, scheduled_turns, turns_by, turns_in_time}
pub use Rattle.lot_playback.specs.declared.playback.Order.{Order}
pub use Rattle.lot_playback.specs.declared.playback.Order.TheVariants.{InTime, Scheduled}
pub use Rattle.lot_playback.specs.declared.sharers.Sharers.TheVariants.{Threads}
pub use Rattle.lot_playback.specs.declared.timekeeper.Timekeeper.{Timekeeper}
pub use Rattle.lot_system.specs.Endings.{shown_end}
pub use Rattle.lot_system.specs.Last.{all_ticks, last_world}
pub use Rattle.lot_system.specs.Leaving.{any_ends_refused, ends_refused, stopped_in}
pub use Rattle.lot_system.specs.Listing.{first_number, is_there, row_line, rows_among}
pub use Rattle.lot_system.specs.Played.{EndsPlay, came_of}
pub use Rattle.lot_system.specs.ReportTable.{currency_told, last_table, most_of, report_text, scheduled_table, table_in, thread_text, thread_told, timed_table, told, told_in}
pub use Rattle.lot_system.specs.Seeds.{AreAllFigures, AreChanged, AreEach, AreMany, AreOneMore, AreOver, AreOverOneMore, IsChangedAt, IsEndingOf, IsOver, figures_after, figures_in, figures_over, figures_played, figures_text, no_figures, over, scheduled_told, seeds_between, seeds_heading, seeds_report, spread_after, spreads_after, subjects_in, subjects_over, table_of, told_at_end, told_played}
pub use Rattle.lot_system.specs.Texts.{last_report, made_text, made_texts}
pub use Rattle.lot_system.specs.declared.told.Told.{Told}
pub use Rattle.lot_system.specs.declared.figures.AllFigures.{AllFigures}
pub use Rattle.lot_system.specs.declared.form.ReportForm.{ReportForm}
pub use Rattle.lot_system.specs.declared.form.ReportForm.TheVariants.{CurrencyTable, Lines, Table}
pub use Rattle.lot_system.specs.declared.inputs.Played.{Played}
pub use Rattle.lot_system.specs.declared.inputs.Played.TheVariants.{Done}
pub use Rattle.lot_simulation.specs.declared.warnings.Warnings.{Warnings}
