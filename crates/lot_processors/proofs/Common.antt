-- The names that this crate's proofs cite, passed on from one place. Declares nothing.
pub use Rattle.std.proofs.Common.{All, List, None, Option, Some, ap, ap₂, arith, count_by, inl, inr, is_some, length, length-append, refl, slice_get, slice_index_or, subst, sym, true≢false, ℕ, [], ◌++◌, ◌+◌, ◌<◌, ◌==◌, ◌∙◌, ◌∷◌, ◌≡◌, ◌≤◌, ◌⊎◌}
pub use Rattle.lot_program.proofs.Common.{All-append, All-push, err_from_is_err_and}
pub use Rattle.lot_engine.specs.Fitting.{FitsIn, IsStale}
pub use Rattle.lot_engine.specs.Turns.{Answers, Faults, Goes, IsWorkOf, Matches}
pub use Rattle.lot_engine.specs.declared.fault.TurnFault.TheVariants.{Stale}
pub use Rattle.lot_engine.specs.declared.turn.Work.{Work}
pub use Rattle.lot_station.proofs.BatonShares.{starts_more, starts_self, starts_trans}
pub use Rattle.lot_station.proofs.Common.{Answer, AtSome, Extends, IsLegal, IsLegalIn, Parts, Program, Seen, Setting, TurnFault, get_or_from_slice_get, quanta_in, slice_get-get_or, slice_get_within, sum_by-append, sum_by_push, ticks_in, times_in, turns_by}
pub use Rattle.lot_station.specs.BatonSeats.{IsSameSeat, Looks, Seat, Turns}
pub use Rattle.lot_station.specs.Holders.{AreDealt, CountsAgree, Holder, InOrder, dealt, with_turn}
pub use Rattle.lot_processors.specs.BatonWorkers.{Continues, HasMade, HasMadeAll, HasStopped, HasWorked, IsFirstFault}
pub use Rattle.lot_processors.specs.Workers.{AllMade, EachSeat, FirstStops, HasOthers, IsLastWork, IsReply, IsStopped, StopsTurn, fault_in, free_setting, turns_for}
