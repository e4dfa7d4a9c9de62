-- The names and the lemmas that the proofs of this crate's functions cite, passed on from one place. Declares nothing.
pub use Rattle.lot_station.proofs.Common.{AtSome, Baton, Counts, Extends, Faults, HasEachSeat, Holder, IfErr, IfOk, IfSome, List, Looks, None, Seat, Seen, SeesAll, Setting, Some, Turns, View, all_but_first, ap, arith, baton, claim, claim_of, counts_in, dealt, false, first_actor, get_or_from_slice_get, length, map, quanta_in, refl, resting, rules, seat, seen_in, slice_get, subst, sym, ticks_in, times_in, total_of, turns_in, turns_of, vec_capacity, vec_len, view, ℕ, [], ◌++◌, ◌+◌, ◌<◌, ◌∙◌, ◌∷◌, ◌≡◌, ◌≤◌}
pub use Rattle.lot_station.proofs.BatonClosing.{all_taken, at_middle, deals_one, dealt_of, each_all, head_first, here_at, last_actor, moves_on, no_timer, one_more, own_claim, shown}
pub use Rattle.lot_station.proofs.BatonCounting.{counts_add_up}
pub use Rattle.lot_station.proofs.BatonSharing.{adds_up}
pub use Rattle.lot_station.proofs.BatonSteps.{deals, joins, notes, opens, takes}
pub use Rattle.lot_station.proofs.BatonTelling.{Told, given_after, held_after, held_with_note, kept_seat, looks, next_same, next_turn, noted_seat, refused, still_counted, told_by, turned}
pub use Rattle.lot_station.proofs.Counting.{length-turns_of}
pub use Rattle.lot_station.proofs.Dealing.{IsLeft, all-counted, all-turns, dealt_one, left-enough, left-next}
pub use Rattle.lot_station.proofs.Merging.{Has, has_more, has_one}
pub use Rattle.lot_station.proofs.Totals.{answered_at, faulted_at, more_quanta, more_ticks}
