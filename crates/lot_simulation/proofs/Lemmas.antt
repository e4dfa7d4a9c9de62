-- The names and the lemmas that the proofs of this crate's functions cite, passed on from one place. Declares nothing.
pub use Rattle.lot_simulation.proofs.Common.{ActorTurn, List, Program, Record, Reply, TimedTurn, World, ap, arith, idles_in, length, length-map, opening_moment, quanta_in, range_with_len, subst, sum_by, sym, ticks_in, timed_room, timed_schedule, timed_turns, total_of, turns_made, turns_of, ℕ, ◌+◌, ◌<◌, ◌^◌, ◌∙◌, ◌≡◌}
pub use Rattle.lot_simulation.proofs.ActorCounts.{counts-add_up, lengths-add_up, turns_made-actors, turns_made-length}
pub use Rattle.lot_simulation.proofs.ProcessorCounts.{idles-of_processors, quanta-of_processors, ticks-of_processors}
pub use Rattle.lot_simulation.proofs.RecordCounts.{quanta-add_up, quanta-within, ticks-add_up, ticks-within}
pub use Rattle.lot_simulation.proofs.TimedRuns.{room-small, timed-made, timed-world, turns-few}
