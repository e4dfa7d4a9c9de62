-- Lists that a loop changes, element by element.
use Rattle.lot_chart.proofs.Common.{HaveRead, List, ap, arith, cases_eq, cases_lt, get_or, get_or-set_at, get_or-set_other, get_or_default, inl, inr, length, length-set, refl, set, subst, sym, ℕ, ◌+◌, ◌<◌, ◌∙◌, ◌≡◌, ◌≢◌, ◌≤◌, ◌⊎◌}

-- the elements before this place are changed so, and the others are as they were
pub record HaveSome {X : Type 0} (R : X → X → Type 0) (place : ℕ) (old new : List X) : Type 0 where
  pub count : length new ≡ length old
  pub changed : (i : ℕ) (d : X) → i < place → i < length old → R (get_or old i d) (get_or new i d)
  pub left : (i : ℕ) (d : X) → place ≤ i → i < length old → get_or new i d ≡ get_or old i d

module _ {X : Type 0} (R : X → X → Type 0) where
  pub some-none : (old : List X) → HaveSome R 0 old old
  some-none old =
      record { count = refl; changed = λ i d below there. absurd (omega (arith, below)); left = λ i d past there. refl }

  pub some-one : (place : ℕ) (old new next : List X) (was now : X) → place < length old → was ≡ get_or new place was
      → next ≡ set new place now → R was now → HaveSome R place old new → HaveSome R (place + 1) old next
  some-one place old new next was now below is put changes some =
      record { count = ap length put ∙ length-set new place now ∙ some.count; changed = changed; left = left }
    where
      there : place < length new
      there = omega (arith, below, some.count)

      other : (i : ℕ) (d : X) → i ≢ place → get_or next i d ≡ get_or new i d
      other i d apart = ap (λ (xs : List X). get_or xs i d) put ∙ get_or-set_other new place i now d apart

      changed : (i : ℕ) (d : X) → i < place + 1 → i < length old → R (get_or old i d) (get_or next i d)
      changed i d few within = by (cases_eq i place)
        where
          by : (i ≡ place) ⊎ (i ≢ place) → R (get_or old i d) (get_or next i d)
          by (inl same) =
              let here : get_or next i d ≡ now = ap (λ (xs : List X). get_or xs i d) put
              ∙ get_or-set_at new place i now d same there in
              let old_here : get_or old i d ≡ was = ap (λ k. get_or old k d) same
              ∙ sym (some.left place d (omega arith) below) ∙ sym (get_or_default new place was d there) ∙ sym is in
              subst (λ x. R (get_or old i d) x) (sym here) (subst (λ x. R x now) (sym old_here) changes)
          by (inr apart) =
              subst (λ x. R (get_or old i d) x) (sym (other i d apart))
              (some.changed i d (lower (cases_lt i place)) within)
            where
              lower : (i < place) ⊎ (place ≤ i) → i < place
              lower (inl h) = h
              lower (inr h) = absurd (apart (omega (arith, h, few)))

      left : (i : ℕ) (d : X) → place + 1 ≤ i → i < length old → get_or next i d ≡ get_or old i d
      left i d past within = other i d (λ same. omega (arith, same, past)) ∙ some.left i d (omega (arith, past)) within

-- ---- readings

pub none-read : (at : ℕ → ℕ) (ticks : List ℕ) (time : ℕ) (old : List ℕ) → HaveRead at ticks time old old
none-read at ticks time old = record {
  more = omega arith;
  kept = λ k below. refl;
  within = λ k after below. absurd (omega (arith, after, below));
  early = λ k after below. absurd (omega (arith, after, below));
  read = λ k after below. absurd (omega (arith, after, below));
}
