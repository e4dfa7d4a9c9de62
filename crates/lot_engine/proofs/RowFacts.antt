-- A thread that isn't dead has a row, since only dead ones are removed.
use Rattle.lot_engine.proofs.Common.{All, Dead, HasRow, IsInOrder, Mutex, None, Option, Record, Some, State, Status, Thread, Waiting, ap, arith, at_number, get_or, length, mutex_at, number-some, numbered, option_map, refl, slice_get-get_or, status_of, sym, unwrap_or, ℕ, [], ◌-◌, ◌∙◌, ◌≡◌}

row-there : (s : State) → IsInOrder s → length s.records ≡ length s.threads → (t : ℕ) (now : Status)
    → status_of s.records t ≡ Some now → ¬ (Dead ≡ now) → HasRow s t
row-there s order lengths t now is alive =
    let between = numbered s.records t now is in
    by (get_or s.threads (t - 1) None) (number-some s.threads t None
    (omega (arith, between.0), omega (arith, between.1, lengths))) (at_number s.records t) refl
  where
    by : (place : Option Thread) → at_number s.threads t ≡ Some place → (o : Option Record) → at_number s.records t ≡ o
        → HasRow s t
    by None gone o there = let dead : Some Dead ≡ Some now = sym (order.removed t gone) ∙ is in absurd (alive cc)
    by (Some thread) here None none = let never : None ≡ Some now =
        sym (ap (option_map (λ (r : Record). r.status)) none) ∙ is in cc
    by (Some thread) here (Some r) there = rw (here, there) refl

-- each that waits for a mutex has a row
pub waiters-rows : (s : State) → IsInOrder s → length s.records ≡ length s.threads → (m : ℕ)
    → All (HasRow s) (mutex_at s.mutexes m).waiters
waiters-rows s order lengths m = from (at_number s.mutexes m) refl
  where
    from : (o : Option Mutex) → at_number s.mutexes m ≡ o
        → All (HasRow s) (unwrap_or {T = Mutex} o (record { owner = None; waiters = [] })).waiters
    from None is = λ i d below. absurd (omega (arith, below))
    from (Some mutex) is = λ i d below.
        let each = (order.queues.waiters m mutex is).each i (get_or mutex.waiters i d)
        (slice_get-get_or mutex.waiters i d below) in
        row-there s order lengths (get_or mutex.waiters i d) (Waiting m) each (λ e. cc)
