use Rattle.lot_station.proofs.Common.{IsPassOf, Seat, claim_of, false, length, map, resting, view, ◌++◌, ◌∷◌, ◌≡◌}
use Rattle.lot_station.proofs.baton.station.joined.Given as goal

abbrev pub invariant-loop-seat : goal.invariant-loop-seat
invariant-loop-seat l =
    (goal.iterator-loop-seat).can_next l.seat-iterator × (goal.iterator-loop-seat).is_finite l.seat-iterator
    × IsPassOf l.queue l.pass
    × (l.seat-iterator.rest.len ≡ length l.seat-iterator.rest.items)
    × ((first : Seat)
    × (l.fn.seats.items ≡ (first ∷ l.yielded) ++ l.seat-iterator.rest.items)
    × (view l.pass ≡ resting (map claim_of (first ∷ l.yielded)))
    × (first.seen.setting.timer ≡ false))
