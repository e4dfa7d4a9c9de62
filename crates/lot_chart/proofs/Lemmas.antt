-- The names and the lemmas that the proofs of this crate's functions cite, passed on from one place. Declares nothing.
pub use Rattle.lot_chart.proofs.Common.{Answered, AreColumns, AreDues, AreLinesOf, By, Currency, Curves, Dues, Expire, Gauge, HasFound, HasPassed, HasSearched, HaveDues, IfOk, Interval, IsRenewed, IsSome, IsTrue, LineDues, List, None, Option, PlotLine, Program, Selected, Some, Standing, Stretch, Thread, Ticks, across, active_amount, ap, arith, axis_step, chart, codes, colour, column_mark, command_marks, cond, curve, curves_by, curves_of, curves_within, decimal, drawn_of, drop, due_curve, due_height, due_point, due_points, due_share, dues_by, ends_refused, eq-eqb, escaped, false, figure_text, filter, first_in, first_selected, flat_map, frame, funding_of, get_or, get_or-map, get_or-map-range_with_len, get_or_default, grown_at, grown_in, height_mark, height_of, heights_label, highest, if◌then◌else◌, in_column, label, last_end, le-leb, lead, leader, length, length-append, length-map, length-map-range_with_len, length-range_with_len, length-take, line_parts, lines_label, lines_of, live_of, longest_name, lt-leb, map, map-range_with_len_more, marked, marks, max, measure_label, most_due, most_in, most_shown, mul-le, name_by, name_of, name_text, ne_eqb, newline, next_field, numbers_by, on_ok_weaker, point, point_at, points, program_turns, range_with_len, ranked, refl, row_at, row_line, rules, sameb, sample_count, sample_point, sample_tick, sample_ticks, sampled_line, selected, share_of, some-injective, stands_below, steps, stroke, strokes, subst, sum_by, sym, table, take, take_all, take_at, tenths, the_type, tick_parts, time_mark, time_mark_count, time_marks, top_at, total_at, true, turn_stretches, width_for, windowed, world_of, worth_of, ℕ, [], ◌%◌, ◌*◌, ◌++◌, ◌+◌, ◌-◌, ◌/◌, ◌<◌, ◌^◌, ◌||◌, ◌↔◌, ◌∙◌, ◌∷◌, ◌≡◌, ◌≤◌}
pub use Rattle.lot_chart.proofs.Columns.{numbers-are}
pub use Rattle.lot_chart.proofs.FirstMarks.{first-next, marked-are}
pub use Rattle.lot_chart.proofs.Loops.{HaveSome, some-one}
pub use Rattle.lot_chart.proofs.MeterFacts.{dues-are, lines-are, meter-kept, meter-renewed, meter-within, new-meter, new-one, passed-columns, ran-sound, sums-same}
pub use Rattle.lot_chart.proofs.NotedFacts.{curves-are, timed-curves-are, untimed-curves-are}
pub use Rattle.lot_chart.proofs.Notes.{answered-noted, commands-noted, early-noted, ended-commands, ended-noted, gathered, program-few, turn-ran}
pub use Rattle.lot_chart.proofs.Parts.{parts-after, parts-more, parts-next, parts-sample, parts-two}
pub use Rattle.lot_chart.proofs.Places.{taken-columns}
pub use Rattle.lot_chart.proofs.Ran.{all-numbers, columns-pushed, found-more, length-rest, on-both, on-ok, thread-pushed}
pub use Rattle.lot_chart.proofs.Shows.{shows-plays}
pub use Rattle.lot_chart.proofs.Steps.{first-found, first-later}
pub use Rattle.lot_chart.proofs.Whole.{chart-is, picture-is}
pub use Rattle.lot_chart.proofs.Worth.{worth-none}
