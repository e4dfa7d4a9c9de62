use Rattle.lot_station.proofs.Lemmas.{Has, Holder, List, length, ◌++◌, ◌≡◌}
use Rattle.lot_station.proofs.closing.merged.Given as goal

abbrev pub invariant-loop-seat : goal.invariant-loop-seat
invariant-loop-seat g l =
    (goal.iterator-loop-seat g).can_next l.seat-iterator × (goal.iterator-loop-seat g).is_finite l.seat-iterator
    × (l.seat-iterator.rest.len ≡ length l.seat-iterator.rest.items)
    × ((done : List Holder)
    × (l.fn.seats.items ≡ done ++ l.seat-iterator.rest.items)
    × Has l.all_turns.parts l.all_quanta.parts l.all_ticks.parts l.all_turns.amount l.all_quanta.amount
    l.all_ticks.amount done)
