-- The names that this crate's proofs cite, passed on from one place. Declares nothing.
pub use Rattle.std.proofs.Common.{Bool, List, None, Option, Some, ap, append_assoc, arith, cond, drop, eq-eqb, false, filter, get_or, length, map, max, min, nat_le, ne_eqb, refl, rules, set, slice_set, suc, sum_by, sym, take, true, unwrap_or, zero, ℕ, [], ◌*◌, ◌++◌, ◌+◌, ◌-◌, ◌<◌, ◌==◌, ◌^◌, ◌∙◌, ◌∷◌, ◌≡◌, ◌≤◌}
pub use Rattle.std.proofs.lemmas.Fmt.{decimal_by_steps, decimal_injective}
pub use Rattle.std.proofs.lemmas.List.{drop_more, ext_get_or, get_or_at, length-drop, length-map, length-take-le, map-append, set_at, take_all, take_at, take_more}
pub use Rattle.std.proofs.lemmas.List.Elements.{filter-append}
pub use Rattle.std.proofs.lemmas.List.Sums.{fold_push, sum_by-cons, sum_by-le-sum_by, sum_by_more}
pub use Rattle.std.specs.Fmt.{decimal}
pub use Rattle.std.specs.List.{list_all, range_with_len}
pub use Rattle.std.specs.Prelude.{fold, ⊤, ◌%◌, ◌&&◌, ◌||◌}
pub use Rattle.lot_machine.proofs.NamesKept.{AreOwn, opening-own, step-own}
pub use Rattle.lot_machine.specs.Commands.{is_good_name, is_letter, is_name_byte, is_no_name, is_plain_name, is_thread_name}
pub use Rattle.lot_machine.specs.Rows.{thread_name}
pub use Rattle.lot_machine.specs.declared.ticket.Target.TheVariants.{Thread}
pub use Rattle.lot_simulation.proofs.Common.{Command, Event, Sizes, State, TimedTurn, count_in, eqb-true, get_or-map-range_with_len, le-leb, leb-true, length-map-range_with_len, opening, step, step-limits, sum-filter, sum-one, sum-same, ticks_in, timed_turns}
pub use Rattle.lot_simulation.specs.Below.{currency_numbers}
pub use Rattle.lot_simulation.specs.TimedReport.{ticks_below}
pub use Rattle.lot_simulation.specs.World.{Program, TurnAnswer, TurnMade, World, actor_event, console_turn, next_name, opening_world, processor_turn, resolved, system_after, system_run, system_turn}
pub use Rattle.lot_simulation.specs.World.TurnAnswer.{Answered, Ended}
pub use Rattle.lot_curves.specs.Curves.{Curves, currency_stretches_from, ended_in_time, name_in, row_at, sample_count, sample_tick, sample_ticks, share_at, shown_at, timed_curves_by, total_at, windowed}
pub use Rattle.lot_curves.specs.Intervals.{curves_between, curves_within}
pub use Rattle.lot_curves.specs.OwnTimes.{EndedTurn}
pub use Rattle.lot_curves.specs.Stretches.{currencies_above, had_at, in_column, last_end, part_at, ran_below, stretch_between, stretch_of, stretches_of, turn_stretches}
pub use Rattle.lot_curves.specs.Windows.{had_in, part_in}
pub use Rattle.lot_curves.specs.declared.stretch.Measure.{Measure}
pub use Rattle.lot_curves.specs.declared.stretch.Measure.TheVariants.{Draws, Ticks}
pub use Rattle.lot_curves.specs.declared.stretch.Stretch.{Stretch}
