-- A thread that isn't live isn't Ready.
use Rattle.lot_explain.proofs.Common.{None, Option, Ready, Record, Some, State, Status, ap, at_number, at_number-map, false, is_live, is_live_status, is_ready, live_of, option_any, option_map, refl, status_of, sym, ℕ, ◌∙◌, ◌≡◌}

pub idle-other : (s : State) (t : ℕ) → is_live (live_of s) t ≡ false
    → option_any is_ready (status_of s.records t) ≡ false
idle-other s t idle = by (at_number s.records t)
    (sym (ap (option_any (λ flag. flag)) (at_number-map (λ (r : Record). is_live_status r.status) s.records t)) ∙ idle)
  where
    of-status : (now : Status) → is_live_status now ≡ false → is_ready now ≡ false
    of-status Ready e = cc
    of-status other e = refl

    by : (o : Option Record) → option_any (λ flag. flag) (option_map (λ (r : Record). is_live_status r.status) o)
        ≡ false → option_any is_ready (option_map (λ (r : Record). r.status) o) ≡ false
    by None e = refl
    by (Some r) e = of-status r.status e
