use Rattle.lot_station.proofs.Lemmas.{Holder, IsLeft, Some, dealt, quanta_in, slice_get, ticks_in, times_in, total_of, turns_in, turns_of, vec_capacity, vec_len, ℕ, ◌≡◌, ◌≤◌}
use Rattle.lot_station.proofs.opening.deal.Given as goal

abbrev pub invariant-loop-k : goal.invariant-loop-k
invariant-loop-k g l =
    ((k : ℕ) (s : Holder) → slice_get l.seats.items k ≡ Some s → s ≡ dealt l.fn.system k)
    × (vec_len l.seats ≡ l.k) × (l.count ≤ vec_capacity l.seats)
    × IsLeft (times_in l.fn.system) l.k l.count l.turns.parts l.turns.amount
    × IsLeft
    (λ actor. total_of quanta_in (turns_of actor (turns_in l.fn.system))) l.k l.count l.quanta.parts l.quanta.amount
    × IsLeft
    (λ actor. total_of ticks_in (turns_of actor (turns_in l.fn.system))) l.k l.count l.ticks.parts l.ticks.amount
