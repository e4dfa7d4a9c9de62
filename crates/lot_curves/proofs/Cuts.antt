-- Stretches cut to an interval.
use Rattle.lot_curves.proofs.Common.{Bool, Curves, List, Stretch, Ticks, ap, append_assoc, arith, cond, curves_between, drop, drop_more, false, fold, get_or, get_or_at, had_at, last_end, length, length-map, length-take-le, map, map-append, max, min, part_at, refl, set, set_at, share_at, stretch_between, stretches_of, sum_by-cons, sym, take, take_more, true, ℕ, [], ◌++◌, ◌+◌, ◌-◌, ◌<◌, ◌==◌, ◌∙◌, ◌∷◌, ◌≡◌, ◌≤◌}

-- ---- one element after another

-- the first ones are changed, and one more
pub changed-more : {X : Type 0} (f : X → X) (xs ys : List X) (i : ℕ) (d : X) → i < length xs
    → ys ≡ map f (take i xs) ++ drop i xs → set ys i (f (get_or ys i d)) ≡ map f (take (i + 1) xs) ++ drop (i + 1) xs
changed-more f xs ys i d below is =
    let x = get_or xs i d in
    let first = map f (take i xs) in
    let rest = drop (i + 1) xs in
    let many : length first ≡ i = length-map (take i xs) f ∙ length-take-le i xs (omega (arith, below)) in
    let split : ys ≡ first ++ x ∷ rest = is ∙ ap (λ zs. first ++ zs) (drop_more xs i d below) in
    ap (λ zs. set zs i (f (get_or zs i d))) split
    ∙ ap (λ z. set (first ++ x ∷ rest) i (f z)) (get_or_at first x rest d i many)
    ∙ set_at first x rest (f x) i many
    ∙ sym (append_assoc first (f x ∷ []) rest)
    ∙ ap (λ zs. zs ++ rest) (sym (map-append f (take i xs) (x ∷ [])) ∙ ap (map f) (sym (take_more xs i d below)))

-- ---- the last end

module _ (from to : ℕ) where
  last-along : (last : ℕ) (stretches : List Stretch)
      → fold (λ last s. max s.end last) (min last to - from)
      (map (stretch_between from to) stretches) ≡ min (fold (λ last s. max s.end last) last stretches) to - from
  last-along last [] = refl
  last-along last (s ∷ stretches) =
      let here : max (min s.end to - from) (min last to - from) ≡ min (max s.end last) to - from = omega arith in
      ap (λ n. fold (λ last (s : Stretch). max s.end last) n (map (stretch_between from to) stretches)) here
      ∙ last-along (max s.end last) stretches

  pub last_end-between : (stretches : List Stretch)
      → last_end (map (stretch_between from to) stretches) ≡ min (last_end stretches) to - from
  last_end-between stretches =
      let none : 0 ≡ min 0 to - from = omega arith in
      ap (λ n. fold (λ last (s : Stretch). max s.end last) n (map (stretch_between from to) stretches)) none
      ∙ last-along 0 stretches

  -- ---- the ticks of an interval

  own-between : (t : ℕ) (stretches : List Stretch) → stretches_of t (map (stretch_between from to) stretches)
      ≡ map (stretch_between from to) (stretches_of t stretches)
  own-between t [] = refl
  own-between t (s ∷ stretches) = at (s.thread == t) (own-between t stretches)
    where
      at : (b : Bool) → stretches_of t (map (stretch_between from to) stretches) ≡ map (stretch_between from to)
          (stretches_of t stretches)
          → cond b (stretch_between from to s ∷ stretches_of t (map (stretch_between from to) stretches))
          (stretches_of t (map (stretch_between from to) stretches)) ≡ map (stretch_between from to)
          (cond b (s ∷ stretches_of t stretches) (stretches_of t stretches))
      at true own = ap (λ (xs : List Stretch). stretch_between from to s ∷ xs) own
      at false own = own

  module _ (tick : ℕ) (within : from + tick ≤ to) where
    part-between : (s : Stretch)
        → part_at Ticks from s + part_at Ticks tick (stretch_between from to s) ≡ part_at Ticks (from + tick) s
    part-between s = omega (arith, within)

    had-between : (stretches : List Stretch) → had_at Ticks from stretches
        + had_at Ticks tick (map (stretch_between from to) stretches) ≡ had_at Ticks (from + tick) stretches
    had-between [] = refl
    had-between (s ∷ stretches) =
        omega (
          arith,
          part-between s,
          had-between stretches,
          sum_by-cons (part_at Ticks from) s stretches,
          sum_by-cons (part_at Ticks tick) (stretch_between from to s) (map (stretch_between from to) stretches),
          sum_by-cons (part_at Ticks (from + tick)) s stretches,
        )

pub interval-rises : (curves : Curves) (from to tick t : ℕ) → from + tick ≤ to → share_at Ticks curves from t
    + share_at Ticks (curves_between from to curves) tick t ≡ share_at Ticks curves (from + tick) t
interval-rises curves from to tick t within =
    ap (λ (xs : List Stretch). share_at Ticks curves from t + had_at Ticks tick xs)
    (own-between from to t curves.stretches) ∙ had-between from to tick within (stretches_of t curves.stretches)
