-- Stretches in a window.
use Rattle.lot_curves.proofs.Common.{Draws, List, Some, Stretch, Ticks, ap, arith, cond, had_at, had_in, le-leb, part_at, part_in, refl, sum_by-cons, ℕ, [], ◌+◌, ◌-◌, ◌∷◌, ◌≡◌, ◌≤◌}

module _ (window tick : ℕ) where
  ticks-part : (s : Stretch)
      → part_at Ticks (tick - window) s + part_in Ticks (Some window) tick s ≡ part_at Ticks tick s
  ticks-part s = omega arith

  pub ticks-split : (stretches : List Stretch)
      → had_at Ticks (tick - window) stretches + had_in Ticks (Some window) tick stretches ≡ had_at Ticks tick stretches
  ticks-split [] = refl
  ticks-split (s ∷ stretches) =
      omega (
        arith,
        ticks-part s,
        ticks-split stretches,
        sum_by-cons (part_at Ticks (tick - window)) s stretches,
        sum_by-cons (part_in Ticks (Some window) tick) s stretches,
        sum_by-cons (part_at Ticks tick) s stretches,
      )

  draws-part : tick ≤ window → (s : Stretch) → part_in Draws (Some window) tick s ≡ part_at Draws tick s
  draws-part long s = ap (λ b. cond b (part_at Draws tick s) 0) (le-leb (tick - window) s.end (omega (arith, long)))

  pub draws-all : tick ≤ window → (stretches : List Stretch)
      → had_in Draws (Some window) tick stretches ≡ had_at Draws tick stretches
  draws-all long [] = refl
  draws-all long (s ∷ stretches) =
      omega (arith, draws-part long s, draws-all long stretches, sum_by-cons (part_in Draws (Some window) tick) s stretches, sum_by-cons (part_at Draws tick) s stretches)
