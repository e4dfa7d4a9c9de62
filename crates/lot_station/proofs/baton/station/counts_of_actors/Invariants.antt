use Rattle.lot_station.proofs.Common.{Some, counts_in, slice_get, vec_capacity, vec_len, ℕ, ◌<◌, ◌≡◌, ◌≤◌}
use Rattle.lot_station.proofs.baton.station.counts_of_actors.Given as goal

abbrev pub invariant-loop-k : goal.invariant-loop-k
invariant-loop-k l =
    (vec_len l.counts ≡ l.k) × (l.count ≤ vec_capacity l.counts)
    × ((j : ℕ) → j < l.k → slice_get l.counts.items j ≡ Some (counts_in l.system j))
