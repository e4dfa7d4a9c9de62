-- The names and the lemmas that the proofs of this crate's functions cite, passed on from one place. Declares nothing.
pub use Rattle.lot_engine.proofs.Common.{All, Answered, AreCounts, Done, Fits, HasLayoutFor, HasLayoutOf, HasRow, HasThoseAbove, IfOk-weaker, IsBetween, IsCount, IsFresh, IsInOrder, IsPlayed, IsScript, IsSlice, IsWorkOf, KeptHistory, List, MakesIn, MakesNone, Matches, None, Option, Place, Seen, Sizes, State, Thread, actors_from, after_turn, ap, ap₂, arith, at_number, base_value, count_by-le-length, currency-bounded, delivered_to_place, false, free_threads, funding_of, if◌then◌else◌, is_live, is_some, le-leb, leb-true, length, live_of, map, min, nat_lt, next_name, number_from, opening, option_and_then, option_map, order-sound, place_of, refl, replicate, resolved, rules, script_lines, seed_from, set_number, shown_history, sizes_of, sleeper_by, sleeper_on, slice_between, slice_on, step, subst, sym, system_run, system_turn, takes_number, tickets_after, timer_for, true, turn_in, turns_made, unwrap_or, woken_in, world_of, worth_of, ℕ, [], ◌++◌, ◌+◌, ◌-◌, ◌<◌, ◌∙◌, ◌∷◌, ◌≡◌, ◌≤◌}
pub use Rattle.lot_engine.proofs.Below.{above-those}
pub use Rattle.lot_engine.proofs.GoneFacts.{gone-idle}
pub use Rattle.lot_engine.proofs.HistoryFacts.{as_many, bytes_are, own-more, shown-own, threads_are, wake-more}
pub use Rattle.lot_engine.proofs.InOrder.{run-in-order}
pub use Rattle.lot_engine.proofs.Layouts.{layout-for, layout-of}
pub use Rattle.lot_engine.proofs.OneMore.{console-more, processor-more, timer-more}
pub use Rattle.lot_engine.proofs.Openings.{nothing-counted, opening-held}
pub use Rattle.lot_engine.proofs.PlaceFacts.{at-lengths, delivered-set, made-there, new-at, next-few, next-same, next-within, none-at, place-is, place-same, place-set}
pub use Rattle.lot_engine.proofs.PlayingFacts.{played-after}
pub use Rattle.lot_engine.proofs.RowFacts.{waiters-rows}
pub use Rattle.lot_engine.proofs.RunFacts.{given-event, run-answer, run-held, run-names, run-sleeper, thread-kept, work-kept}
pub use Rattle.lot_engine.proofs.TurnFacts.{command-answer, command-held, command-left, command-made, command-next, commands-ended, kept-made, runner-scripted, script-there, turn-answer, turn-held, turn-names, work-is}
pub use Rattle.lot_engine.proofs.WakeFacts.{wake-answer}
pub use Rattle.lot_engine.proofs.WorkFacts.{fresh-matches}
