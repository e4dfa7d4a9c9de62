-- Sums over edges, with one edge more or less.
use Rattle.lot_active.proofs.Common.{Bool, EdgePlaces, IsNet, Net, None, Option, Some, amount_from, ap, arith, cases_eq, cases_lt, cond, eq-eqb, false, inl, inr, ne_eqb, part, refl, subst, suc, sum_below, sym, true, zero, ℕ, ◌*◌, ◌+◌, ◌<◌, ◌^◌, ◌∙◌, ◌≡◌, ◌≤◌, ◌⊎◌}

-- ---- sums of numbers

pub sum-same : (m : ℕ) (f h : ℕ → ℕ) → ((e : ℕ) → e < m → f e ≡ h e) → sum_below m f ≡ sum_below m h
sum-same zero f h same = refl
sum-same (suc m) f h same = let before = sum-same m f h (λ e low. same e (omega (arith, low))) in
    let last = same m (omega arith) in omega (arith, before, last)

-- one term is larger by x, the others are the same
pub sum-more : (m : ℕ) (f h : ℕ → ℕ) (k x : ℕ) → k < m → f k ≡ h k + x → ((e : ℕ) → ¬ (e ≡ k) → f e ≡ h e)
    → sum_below m f ≡ sum_below m h + x
sum-more zero f h k x low here others = absurd (omega (arith, low))
sum-more (suc m) f h k x low here others = elim (cases_eq k m) [
  | inl same ↦
      let before = sum-same m f h (λ e below. others e (λ is. absurd (omega (arith, below, is, same)))) in
      let last : f m ≡ h m + x = subst (λ j. f j ≡ h j + x) same here in
      omega (arith, before, last)
  | inr off ↦
      let before = sum-more m f h k x (omega (arith, low, off)) here others in
      let last = others m (λ is. off (sym is)) in
      omega (arith, before, last)
]

pub sum-bound : (m : ℕ) (f : ℕ → ℕ) (b : ℕ) → ((e : ℕ) → f e ≤ b) → sum_below m f ≤ m * b
sum-bound zero f b bound = omega arith
sum-bound (suc m) f b bound = let before = sum-bound m f b bound in let last = bound m in grind (arith, before, last)

pub sum-found : (m : ℕ) (f : ℕ → ℕ) → 0 < sum_below m f → (e : ℕ) × (e < m) × (0 < f e)
sum-found zero f some = absurd (omega (arith, some))
sum-found (suc m) f some = elim (cases_lt 0 (f m)) [
  | inl here ↦ (m, omega arith, here)
  | inr none ↦ let r = sum-found m f (omega (arith, some, none)) in (r.0, omega (arith, r.1), r.2)
]

pub sum-some : (m : ℕ) (f : ℕ → ℕ) (e : ℕ) → e < m → f e ≤ sum_below m f
sum-some zero f e low = absurd (omega (arith, low))
sum-some (suc m) f e low = elim (cases_eq e m) [
  | inl same ↦ let is = ap f same in omega (arith, is)
  | inr off ↦ let before = sum-some m f e (omega (arith, low, off)) in omega (arith, before)
]

-- ---- parts

pub part-here : (a : EdgePlaces) (n : ℕ) → a.from ≡ n → part (Some a) true n ≡ a.amount
part-here a n is = ap (λ b. cond b a.amount 0) (eq-eqb a.from n is)

pub part-off : (a : EdgePlaces) (counted : Bool) (n : ℕ) → ¬ (a.from ≡ n) → part (Some a) counted n ≡ 0
part-off a true n off = ap (λ b. cond b a.amount 0) (ne_eqb a.from n off)
part-off a false n off = refl

pub part-none : (o : Option EdgePlaces) (n : ℕ) → part o false n ≡ 0
part-none None n = refl
part-none (Some a) n = refl

pub part-some : (o : Option EdgePlaces) (counted : Bool) (n : ℕ) → 0 < part o counted n
    → (a : EdgePlaces) × (o ≡ Some a) × (counted ≡ true) × (a.from ≡ n)
part-some None counted n some = absurd (omega (arith, some))
part-some (Some a) false n some = absurd (omega (arith, some))
part-some (Some a) true n some = elim (cases_eq a.from n) [
  | inl same ↦ (a, refl, refl, same)
  | inr off ↦ let none = part-off a true n off in absurd (omega (arith, some, none))
]

pub part-small : (g : Net) → IsNet g → (e : ℕ) (counted : Bool) (n : ℕ) → part (g.places e) counted n ≤ 4294967295
part-small g net e counted n = by (g.places e) refl
  where
    by : (o : Option EdgePlaces) → g.places e ≡ o → part o counted n ≤ 4294967295
    by None is = omega arith
    by (Some a) is = inside counted (cases_eq a.from n)
      where
        inside : (b : Bool) → (a.from ≡ n) ⊎ ¬ (a.from ≡ n) → part (Some a) b n ≤ 4294967295
        inside false either = omega arith
        inside true (inl same) = let amount = net.fits e a is in omega (arith, part-here a n same, amount)
        inside true (inr off) = omega (arith, part-off a true n off)

-- ---- amounts

pub amount-same : (g : Net) (counted other : ℕ → Bool)
    → ((e : ℕ) (a : EdgePlaces) → g.places e ≡ Some a → counted e ≡ other e) → (n : ℕ)
    → amount_from g counted n ≡ amount_from g other n
amount-same g counted other same n = sum-same g.edges _ _ (λ e low. by e (g.places e) refl)
  where
    by : (e : ℕ) (o : Option EdgePlaces) → g.places e ≡ o → part o (counted e) n ≡ part o (other e) n
    by e None is = refl
    by e (Some a) is = ap (λ b. part (Some a) b n) (same e a is)

-- one edge more is counted
pub amount-more : (g : Net) (low high : ℕ → Bool) (e : ℕ) (a : EdgePlaces) → IsNet g → g.places e ≡ Some a
    → low e ≡ false → high e ≡ true → ((k : ℕ) → ¬ (k ≡ e) → high k ≡ low k)
    → amount_from g high a.from ≡ amount_from g low a.from + a.amount
amount-more g low high e a net is off on others =
    sum-more g.edges (λ k. part (g.places k) (high k) a.from) (λ k. part (g.places k) (low k) a.from) e a.amount
    (net.within e a is)
    (let above : part (g.places e) (high e) a.from ≡ a.amount = ap (λ o. part o (high e) a.from) is
    ∙ ap (λ b. part (Some a) b a.from) on ∙ part-here a a.from refl in
    let below : part (g.places e) (low e) a.from ≡ 0 = ap (λ b. part (g.places e) b a.from) off
    ∙ part-none (g.places e) a.from in
    omega (arith, above, below))
    (λ k apart. ap (λ b. part (g.places k) b a.from) (others k apart))

-- and no other node's amount changes
pub amount-else : (g : Net) (low high : ℕ → Bool) (e : ℕ) (a : EdgePlaces) → g.places e ≡ Some a
    → ((k : ℕ) → ¬ (k ≡ e) → high k ≡ low k) → (n : ℕ) → ¬ (a.from ≡ n) → amount_from g high n ≡ amount_from g low n
amount-else g low high e a is others n off = sum-same g.edges _ _ (λ k below. by k (cases_eq k e))
  where
    by : (k : ℕ) → (k ≡ e) ⊎ ¬ (k ≡ e) → part (g.places k) (high k) n ≡ part (g.places k) (low k) n
    by k (inl same) =
        let at : g.places k ≡ Some a = ap g.places same ∙ is in
        ap (λ o. part o (high k) n) at ∙ part-off a (high k) n off
        ∙ sym (ap (λ o. part o (low k) n) at ∙ part-off a (low k) n off)
    by k (inr apart) = ap (λ b. part (g.places k) b n) (others k apart)

-- an edge that isn't counted might as well not be there
pub amount-added : (old new : Net) (counted : ℕ → Bool) (e : ℕ) → new.edges ≡ old.edges → counted e ≡ false
    → ((k : ℕ) → ¬ (k ≡ e) → new.places k ≡ old.places k) → (n : ℕ)
    → amount_from new counted n ≡ amount_from old counted n
amount-added old new counted e edges off others n =
    ap (λ m. sum_below m (λ k. part (new.places k) (counted k) n)) edges
    ∙ sum-same old.edges _ _ (λ k below. by k (cases_eq k e))
  where
    by : (k : ℕ) → (k ≡ e) ⊎ ¬ (k ≡ e) → part (new.places k) (counted k) n ≡ part (old.places k) (counted k) n
    by k (inl same) =
        let none : counted k ≡ false = ap counted same ∙ off in
        ap (λ b. part (new.places k) b n) none ∙ part-none (new.places k) n
        ∙ sym (ap (λ b. part (old.places k) b n) none ∙ part-none (old.places k) n)
    by k (inr apart) = ap (λ o. part o (counted k) n) (others k apart)

-- no amount is too large
pub amount-fits : (g : Net) (counted : ℕ → Bool) (n : ℕ) → IsNet g → amount_from g counted n < 2 ^ 64
amount-fits g counted n net = fits g.edges (amount_from g counted n) net.numbered
    (sum-bound g.edges (λ e. part (g.places e) (counted e) n) 4294967295 (λ e. part-small g net e (counted e) n))
  where
    fits : (m x : ℕ) → m < 2 ^ 32 → x ≤ m * 4294967295 → x < 2 ^ 64
    fits m x few bound = omega (arith, few, bound)
