-- A thread without a row isn't live.
use Rattle.lot_engine.proofs.Common.{Dead, IsInOrder, None, Option, Record, Some, State, Thread, ap, arith, at_number, at_number-map, false, get_or, is_live, is_live_status, length, live_of, number-some, number-within, option_and_then, option_any, option_flatten, option_map, refl, row_of_thread, sym, thread_row, ℕ, ◌-◌, ◌∙◌, ◌≡◌}

-- one that was never made has no record, and one that was removed is dead
pub gone-idle : (s : State) (t : ℕ) → IsInOrder s → length s.records ≡ length s.threads → thread_row s t ≡ None
    → is_live (live_of s) t ≡ false
gone-idle s t order lengths gone = ap (option_any (λ flag. flag))
    (at_number-map (λ (r : Record). is_live_status r.status) s.records t) ∙ by-record (at_number s.records t) refl
  where
    by-thread : (r : Record) → at_number s.records t ≡ Some r → (o : Option Thread) → at_number s.threads t ≡ Some o
        → is_live_status r.status ≡ false
    by-thread r is None there =
        let dead : Some r.status ≡ Some Dead = sym (ap (option_map (λ (x : Record). x.status)) is)
        ∙ order.removed t there in
        let e : r.status ≡ Dead = cc in
        ap is_live_status e
    by-thread r is (Some thread) there =
        let shown : thread_row s t ≡ Some (row_of_thread s t r) =
        ap (λ o. option_and_then (λ name. option_map (row_of_thread s t) (at_number s.records t))
        (option_map (λ (d : Thread). d.name) (option_flatten o))) there
        ∙ ap (option_map (row_of_thread s t)) is in
        let never : Some (row_of_thread s t r) ≡ None = sym shown ∙ gone in
        absurd (cc)

    by-record : (o : Option Record) → at_number s.records t ≡ o
        → option_any (λ flag. flag) (option_map (λ (r : Record). is_live_status r.status) o) ≡ false
    by-record None is = refl
    by-record (Some r) is =
        let within = number-within s.records t r is in
        by-thread r is (get_or s.threads (t - 1) None)
        (number-some s.threads t None (omega (arith, within.0), omega (arith, within.1, lengths)))
