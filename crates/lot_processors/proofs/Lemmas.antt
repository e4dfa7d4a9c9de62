-- The names and the lemmas that the proofs of this crate's functions cite, passed on from one place. Declares nothing.
pub use Rattle.lot_processors.proofs.Common.{AllMade, AtSome, EachSeat, HasMade, HasWorked, Holder, IsLastWork, IsLegal, IsWorkOf, Matches, Option, Seat, Setting, StopsTurn, Work, ap, arith, err_from_is_err_and, fault_in, inl, inr, length, refl, subst, sym, ◌+◌, ◌∙◌, ◌≡◌, ◌≤◌}
pub use Rattle.lot_processors.proofs.BatonWork.{all_made, first_stops, later-had, looked, made_then, refused, refused_console, stopped, unfit}
pub use Rattle.lot_processors.proofs.FreeRuns.{free_turns, has_others, still_in_order, was_stopped}
pub use Rattle.lot_processors.proofs.SeatWork.{made-then, none_made, turned}
