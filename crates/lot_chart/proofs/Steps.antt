-- The first step that is wide enough.
use Rattle.lot_chart.proofs.Common.{List, Some, ap, cond, drop, drop_more, find, get_or, le-ltb, length, lt-ltb, nat_lt, sym, unwrap_or, ℕ, ◌*◌, ◌+◌, ◌<◌, ◌∙◌, ◌≡◌, ◌≤◌}

module _ (most other : ℕ) (xs : List ℕ) (i step : ℕ) (below : i < length xs) (is : step ≡ get_or xs i 0) where
  abbrev first : List ℕ → ℕ
  first ys = unwrap_or (find (λ s. nat_lt most (6 * s)) ys) other

  here : first (drop i xs)
      ≡ unwrap_or (cond (nat_lt most (6 * step)) (Some step) (find (λ s. nat_lt most (6 * s)) (drop (i + 1) xs))) other
  here = ap first (drop_more xs i 0 below) ∙ ap (λ s. unwrap_or
      (cond (nat_lt most (6 * s)) (Some s) (find (λ s. nat_lt most (6 * s)) (drop (i + 1) xs))) other) (sym is)

  pub first-found : most < 6 * step → first (drop i xs) ≡ step
  first-found wide = here ∙ ap (λ b. unwrap_or
      (cond b (Some step) (find (λ s. nat_lt most (6 * s)) (drop (i + 1) xs))) other) (lt-ltb most (6 * step) wide)

  pub first-later : 6 * step ≤ most → first (drop i xs) ≡ first (drop (i + 1) xs)
  first-later narrow = here ∙ ap (λ b. unwrap_or
      (cond b (Some step) (find (λ s. nat_lt most (6 * s)) (drop (i + 1) xs))) other) (le-ltb most (6 * step) narrow)
