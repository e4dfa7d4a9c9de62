-- Marks and amounts that agree at each node are the definitions', if the graph has no cycle.
use Rattle.lot_active.proofs.Common.{Activity, AllByRecursion, Bool, EdgePlaces, HasEdge, HasNoCycle, IsAwake, IsKept, IsNet, IsTrue, IsWay, List, Net, Reaches, Some, Tells, amount_at, amount_from, ap, arith, awake_at, eqb, eqb-true, false, get_or_from_slice_get, inl, inr, is_on, leads_to, leads_to_passed, length, length-le_from_distinct_below, list_any, lt-ltb, ltb-true, nat_lt, ne_eqb, or_cases, or_left, or_right, part, refl, subst, suc, sym, true, zero, ℕ, [], ◌<◌, ◌↔◌, ◌∙◌, ◌∷◌, ◌≡◌, ◌≤◌, ◌⊎◌}
use Rattle.std.specs.List.{IsDistinct}
use Rattle.lot_active.specs.Activity.{IsActive}
use Rattle.lot_active.proofs.Sums.{amount-same, sum-found, sum-some, part-here, part-some}

-- ---- paths

pub way-then : (g : Net) (from : ℕ) (way : List ℕ) (mid to : ℕ) → IsWay g from way mid → Reaches g mid to
    → Reaches g from to
way-then g from [] mid to same more = subst (λ x. Reaches g x to) (sym same) more
way-then g from (next ∷ rest) mid to (places, others) more = let r = way-then g next rest mid to others more in
    (next ∷ r.0, (places, r.1))

pub reaches-then : (g : Net) (from mid to : ℕ) → Reaches g from mid → Reaches g mid to → Reaches g from to
reaches-then g from mid to (way, is) more = way-then g from way mid to is more

pub places-reaches : (g : Net) (from to : ℕ) → HasEdge g from to → Reaches g from to
places-reaches g from to places = (to ∷ [], (places, refl))

-- a path of one edge or more
abbrev GoesOn : Net → ℕ → ℕ → Type 0
GoesOn g from to = (next : ℕ) × HasEdge g from next × Reaches g next to

module _ (g : Net) (net : IsNet g) (no_cycle : HasNoCycle g) where
  differs : (x v : ℕ) → GoesOn g x v → ¬ (x ≡ v)
  differs x v (next, places, way) same = no_cycle x next places (subst (Reaches g next) (sym same) way)

  later : (x v : ℕ) (rest : List ℕ) (u : ℕ) → ((w : ℕ) → HasEdge g v w → GoesOn g x w) → IsWay g v rest u
      → AllByRecursion (λ y. eqb x y ≡ false) rest
  later x v [] u step way = tt
  later x v (w ∷ rest) u step (places, others) =
      (ne_eqb x w (differs x w (step w places)), later x w rest u (λ z more. let on = step w places in (on.0, on.1, reaches-then g on.0 w z on.2 (places-reaches g w z more))) others)

  -- no node comes twice on a path
  way-distinct : (v : ℕ) (way : List ℕ) (u : ℕ) → IsWay g v way u → IsDistinct eqb way
  unfolding IsDistinct
  way-distinct v [] u way = tt
  way-distinct v (w ∷ rest) u (places, others) =
      (later w w rest u (λ z more. (z, more, ([], refl))) others, way-distinct w rest u others)

  way-within : (v : ℕ) (way : List ℕ) (u : ℕ) → IsWay g v way u → (q : ℕ) → list_any (eqb q) way ≡ true → q < g.nodes
  way-within v [] u way q h = cc
  way-within v (w ∷ rest) u ((e, a, is, from, to), others) q h =
      by (way-within w rest u others q) (or_cases (eqb q w) _ h)
    where
      by : (list_any (eqb q) rest ≡ true → q < g.nodes) → (eqb q w ≡ true) ⊎ (list_any (eqb q) rest ≡ true)
          → q < g.nodes
      by next (inl same) = let at = eqb-true q w same in omega (arith, net.to e a is, at, to)
      by next (inr more) = next more

  -- so no path is longer than there are nodes
  pub way-short : (v : ℕ) (way : List ℕ) (u : ℕ) → IsWay g v way u → length way ≤ g.nodes
  way-short v way u is = length-le_from_distinct_below way g.nodes (way-distinct v way u is) (way-within v way u is)

-- ---- marks

pub awake-on : (awake : List Bool) (amounts : List ℕ) (n : ℕ) → IsAwake awake n → is_on awake amounts n ≡ true
awake-on awake amounts n is =
    or_left (awake_at awake n) (nat_lt 0 (amount_at amounts n)) (get_or_from_slice_get awake n true false is)

pub amount-on : (awake : List Bool) (amounts : List ℕ) (n : ℕ) → 0 < amount_at amounts n → is_on awake amounts n ≡ true
amount-on awake amounts n some =
    or_right (awake_at awake n) (nat_lt 0 (amount_at amounts n)) (lt-ltb 0 (amount_at amounts n) some)

pub awake-is : (awake : List Bool) (n : ℕ) → awake_at awake n ≡ true → IsAwake awake n
awake-is [] n is = cc
awake-is (b ∷ bs) zero is = ap Some is
awake-is (b ∷ bs) (suc n) is = awake-is bs n is

-- each amount is the sum over the edges that lead to marked nodes
abbrev pub IsLocal : Net → List Bool → List ℕ → Type 0
IsLocal g awake amounts = (n : ℕ) → amount_at amounts n ≡ amount_from g (leads_to g (is_on awake amounts)) n

module _ (g : Net) (net : IsNet g) (awake : List Bool) (amounts : List ℕ) (local : IsLocal g awake amounts) where
  -- an edge to a marked node makes a mark
  edge-on : (e : ℕ) (a : EdgePlaces) → g.places e ≡ Some a → is_on awake amounts a.to ≡ true
      → is_on awake amounts a.from ≡ true
  edge-on e a is on =
      let counted : leads_to g (is_on awake amounts) e ≡ true = ap (leads_to_passed (is_on awake amounts)) is ∙ on in
      let own : part (g.places e) (leads_to g (is_on awake amounts) e) a.from ≡ a.amount =
      ap (λ o. part o (leads_to g (is_on awake amounts) e) a.from) is ∙ ap (λ b. part (Some a) b a.from) counted
      ∙ part-here a a.from refl in
      let within =
      sum-some g.edges (λ k. part (g.places k) (leads_to g (is_on awake amounts) k) a.from) e (net.within e a is) in
      amount-on awake amounts a.from (omega (arith, own, within, net.some e a is, local a.from))

  -- what is active is marked
  pub active-on : (n : ℕ) (way : List ℕ) (m : ℕ) → IsWay g n way m → IsAwake awake m → is_on awake amounts n ≡ true
  active-on n [] m same is = awake-on awake amounts n (subst (IsAwake awake) (sym same) is)
  active-on n (next ∷ rest) m ((e, a, at, from, to), others) is =
      let after : is_on awake amounts a.to ≡ true = ap (is_on awake amounts) to ∙ active-on next rest m others is in
      ap (is_on awake amounts) (sym from) ∙ edge-on e a at after

  -- from a marked node that isn't awake an edge leads to a marked one
  next-on : (n : ℕ) → 0 < amount_at amounts n → (next : ℕ) × HasEdge g n next × (is_on awake amounts next ≡ true)
  next-on n some =
      let r = sum-found g.edges (λ k. part (g.places k) (leads_to g (is_on awake amounts) k) n)
      (omega (arith, some, local n)) in
      let p = part-some (g.places r.0) (leads_to g (is_on awake amounts) r.0) n r.2 in
      (p.0.to, (r.0, p.0, p.1, p.3, refl), sym (ap (leads_to_passed (is_on awake amounts)) p.1) ∙ p.2)

  -- from a marked node a path leads to an awake one, or paths as long as one likes start
  on-way : (k n : ℕ) → is_on awake amounts n ≡ true
      → IsActive g awake n ⊎ ((way : List ℕ) × (m : ℕ) × IsWay g n way m × (length way ≡ k))
  on-way zero n on = inr ([], n, refl, refl)
  on-way (suc k) n on =
      by (λ next is. on-way k next is) (or_cases (awake_at awake n) (nat_lt 0 (amount_at amounts n)) on)
    where
      longer : (next : ℕ) → HasEdge g n next
          → IsActive g awake next ⊎ ((way : List ℕ) × (m : ℕ) × IsWay g next way m × (length way ≡ k))
          → IsActive g awake n ⊎ ((way : List ℕ) × (m : ℕ) × IsWay g n way m × (length way ≡ suc k))
      longer next places (inl (m, (way, is), here)) = inl (m, (next ∷ way, (places, is)), here)
      longer next places (inr (way, m, is, long)) = inr (next ∷ way, m, (places, is), ap suc long)

      by : ((next : ℕ) → is_on awake amounts next ≡ true
          → IsActive g awake next ⊎ ((way : List ℕ) × (m : ℕ) × IsWay g next way m × (length way ≡ k)))
          → (awake_at awake n ≡ true) ⊎ (nat_lt 0 (amount_at amounts n) ≡ true)
          → IsActive g awake n ⊎ ((way : List ℕ) × (m : ℕ) × IsWay g n way m × (length way ≡ suc k))
      by shorter (inl here) = inl (n, ([], refl), awake-is awake n here)
      by shorter (inr some) = let r = next-on n (ltb-true 0 (amount_at amounts n) some) in
          longer r.0 r.1 (shorter r.0 r.2)

  -- so what is marked is active
  pub on-active : HasNoCycle g → (n : ℕ) → is_on awake amounts n ≡ true → IsActive g awake n
  on-active no_cycle n on = by (on-way (suc g.nodes) n on)
    where
      by : IsActive g awake n ⊎ ((way : List ℕ) × (m : ℕ) × IsWay g n way m × (length way ≡ suc g.nodes))
          → IsActive g awake n
      by (inl is) = is
      by (inr (way, m, is, long)) = let short = way-short g net no_cycle n way m is in
          absurd (omega (arith, short, long))

  pub local-tells : HasNoCycle g → Tells g awake (is_on awake amounts)
  local-tells no_cycle n = (λ on. on-active no_cycle n on, λ (m, (way, is), here). active-on n way m is here)

-- what agrees at each node is what the definitions give
pub local-kept : (g : Net) (v : Activity) → IsNet g → HasNoCycle g → length v.awake ≡ g.nodes
    → length v.amounts ≡ g.nodes → IsLocal g v.awake v.amounts → IsKept g v
local-kept g v net no_cycle awake_length amounts_length local = record {
  awake_length = awake_length;
  amounts_length = amounts_length;
  marks = local-tells g net v.awake v.amounts local no_cycle;
  amounts = λ n. (is_on v.awake v.amounts, local-tells g net v.awake v.amounts local no_cycle, local n);
}

same-tests : (g : Net) (awake : List Bool) (test other : ℕ → Bool) → Tells g awake test → Tells g awake other → (n : ℕ)
    → test n ≡ other n
same-tests g awake test other tells tells' n = by (test n) (other n) (tells n) (tells' n)
  where
    by : (a b : Bool) → (IsTrue a ↔ IsActive g awake n) → (IsTrue b ↔ IsActive g awake n) → a ≡ b
    by true true p q = refl
    by false false p q = refl
    by true false p q = let no = q.1 (p.0 refl) in cc
    by false true p q = let no = p.1 (q.0 refl) in cc

-- and what the definitions give agrees at each node
pub kept-local : (g : Net) (v : Activity) → IsKept g v → IsLocal g v.awake v.amounts
kept-local g v kept n =
    let (test, tells, is) = kept.amounts n in
    is ∙ amount-same g (leads_to g test) (leads_to g (is_on v.awake v.amounts)) (λ e a at.
    ap (leads_to_passed test) at ∙ same-tests g v.awake test (is_on v.awake v.amounts) tells kept.marks a.to
    ∙ sym (ap (leads_to_passed (is_on v.awake v.amounts)) at)) n
