-- The ends of curves.
use Rattle.lot_curves.proofs.Common.{Bool, Curves, Draws, List, Measure, Stretch, Ticks, ap, arith, cond, false, fold, fold_push, had_at, last_end, le-leb, leb-true, length, length-map-range_with_len, max, nat_le, part_at, refl, sample_count, sample_tick, sample_ticks, share_at, stretches_of, sum_by, sum_by-cons, sum_by-le-sum_by, true, ℕ, [], ⊤, ◌++◌, ◌+◌, ◌==◌, ◌∷◌, ◌≡◌, ◌≤◌}

-- ---- samples

pub samples-few : (last : ℕ) → length (sample_ticks last) ≤ 201
samples-few last = omega (arith, length-map-range_with_len (sample_tick last) 0 (sample_count last + 1))

-- ---- the last end

later-end : (last : ℕ) (stretches : List Stretch) → last ≤ fold (λ last s. max s.end last) last stretches
later-end last [] = omega arith
later-end last (s ∷ stretches) = omega (arith, later-end (max s.end last) stretches)

-- the last end with one stretch more
pub last_end-push : (stretches : List Stretch) (s : Stretch)
    → last_end (stretches ++ s ∷ []) ≡ max s.end (last_end stretches)
last_end-push stretches s = fold_push (λ last s. max s.end last) 0 stretches s

-- each of these ends by then
abbrev EndBy : ℕ → List Stretch → Type 0
EndBy last [] = ⊤
EndBy last (s ∷ stretches) = (s.end ≤ last) × EndBy last stretches

ends-by : (last most : ℕ) (stretches : List Stretch) → fold (λ last s. max s.end last) last stretches ≤ most
    → EndBy most stretches
ends-by last most [] within = tt
ends-by last most (s ∷ stretches) within =
    (omega (arith, later-end (max s.end last) stretches, within), ends-by (max s.end last) most stretches within)

ends-own : (last t : ℕ) (stretches : List Stretch) → EndBy last stretches → EndBy last (stretches_of t stretches)
ends-own last t [] ends = tt
ends-own last t (s ∷ stretches) ends = at (s.thread == t) (ends-own last t stretches ends.1)
  where
    at : (b : Bool) → EndBy last (stretches_of t stretches)
        → EndBy last (cond b (s ∷ stretches_of t stretches) (stretches_of t stretches))
    at true own = (ends.0, own)
    at false own = own

-- ---- all is had at the last end

ticks-all : (last : ℕ) (stretches : List Stretch) → EndBy last stretches
    → had_at Ticks last stretches ≡ sum_by (λ (s : Stretch). s.ticks) stretches
ticks-all last [] ends = refl
ticks-all last (s ∷ stretches) ends =
    let whole : part_at Ticks last s ≡ s.ticks = omega (arith, ends.0) in
    omega (arith, whole, sum_by-cons (part_at Ticks last) s stretches, sum_by-cons (λ (s : Stretch). s.ticks) s stretches, ticks-all last stretches ends.1)

draws-all : (last : ℕ) (stretches : List Stretch) → EndBy last stretches
    → had_at Draws last stretches ≡ sum_by (λ (s : Stretch). s.draws) stretches
draws-all last [] ends = refl
draws-all last (s ∷ stretches) ends =
    let whole : part_at Draws last s ≡ s.draws = ap (λ b. cond b s.draws 0) (le-leb s.end last ends.0) in
    omega (arith, whole, sum_by-cons (part_at Draws last) s stretches, sum_by-cons (λ (s : Stretch). s.draws) s stretches, draws-all last stretches ends.1)

module _ (curves : Curves) (t : ℕ) where
  own : EndBy (last_end curves.stretches) (stretches_of t curves.stretches)
  own = ends-own (last_end curves.stretches) t curves.stretches
      (ends-by 0 (last_end curves.stretches) curves.stretches (omega arith))

  pub ticks-at_last : share_at Ticks curves (last_end curves.stretches) t ≡ sum_by (λ (s : Stretch). s.ticks)
      (stretches_of t curves.stretches)
  ticks-at_last = ticks-all (last_end curves.stretches) (stretches_of t curves.stretches) own

  pub draws-at_last : share_at Draws curves (last_end curves.stretches) t ≡ sum_by (λ (s : Stretch). s.draws)
      (stretches_of t curves.stretches)
  draws-at_last = draws-all (last_end curves.stretches) (stretches_of t curves.stretches) own

-- ---- curves rise

part-rises : (measure : Measure) (earlier later : ℕ) → earlier ≤ later → (s : Stretch)
    → part_at measure earlier s ≤ part_at measure later s
part-rises Ticks earlier later le s = omega (arith, le)
part-rises Draws earlier later le s = at (nat_le s.end earlier) refl
  where
    at : (b : Bool) → nat_le s.end earlier ≡ b → part_at Draws earlier s ≤ part_at Draws later s
    at true is = let won = le-leb s.end later (omega (arith, le, leb-true s.end earlier is)) in
        rw (is, won) (omega arith)
    at false is = rw is (omega arith)

pub had-rises : (measure : Measure) (earlier later : ℕ) (stretches : List Stretch) → earlier ≤ later
    → had_at measure earlier stretches ≤ had_at measure later stretches
had-rises measure earlier later stretches le =
    sum_by-le-sum_by (part_at measure earlier) (part_at measure later) stretches (part-rises measure earlier later le)
