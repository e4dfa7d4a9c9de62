use Rattle.lot_station.proofs.Common.{Dealt, IsPassOf, claim, resting, vec_capacity, vec_len, view, [], ◌∷◌, ◌≡◌, ◌≤◌}
use Rattle.lot_station.proofs.baton.station.BatonStation.open.Given as goal

abbrev pub invariant-loop-k : goal.invariant-loop-k
invariant-loop-k l =
    IsPassOf l.queue l.pass × (view l.pass ≡ resting (claim l.k 4294967296 l.fn.system ∷ []))
    × Dealt l.queue.table.shared.table_id l.fn.system l.seats.items
    × (vec_len l.seats ≡ l.k) × (l.count ≤ vec_capacity l.seats)
