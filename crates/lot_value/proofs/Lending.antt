-- The edges while a thread lends to nobody, between two lends.
use Rattle.lot_value.proofs.Common.{Bool, CanLend, Edge, Funding, IsMutex, IsThread, IsTrue, IsWay, Lend, LendReaches, LimitedFunding, List, Nobody, Node, None, OfLender, OfMutex, OfTicket, Option, Reaches, Some, ToMutex, ToThread, WeighedBetween, ap, arith, at_number, at_number-suc, ends_of, false, get_or, inl, inr, lend_node, length, not, number-kept, number-set, number-set_same, number-there, option_and_then, option_map, refl, set-twice, set_number, slice_get, slice_get_read, some-injective, subst, suc, sym, true, weighed_of, with_lends, zero, ℕ, [], ◌-◌, ◌<◌, ◌↔◌, ◌∙◌, ◌∷◌, ◌≡◌, ◌≤◌, ◌⊎◌}
use Rattle.lot_machine.specs.declared.funding.Node.TheVariants as node

-- something stands at a number within bounds
place-some : {A : Type 0} (xs : List A) (i : ℕ) → i < length xs → (x : A) × (slice_get xs i ≡ Some x)
place-some [] i below = absurd (omega (arith, below))
place-some (x ∷ xs) zero below = (x, refl)
place-some (x ∷ xs) (suc i) below = place-some xs i (omega (arith, below))

pub number-some : {A : Type 0} (xs : List A) (n : ℕ) → 1 ≤ n → n ≤ length xs → (x : A) × (at_number xs n ≡ Some x)
number-some xs zero low high = absurd (omega (arith, low))
number-some xs (suc i) low high = let (x, is) = place-some xs i (omega (arith, high)) in (x, at_number-suc xs i ∙ is)

-- what is read at the place of a number
pub number-read : {A : Type 0} (xs : List A) (n : ℕ) (x : A) → 1 ≤ n → n ≤ length xs → x ≡ get_or xs (n - 1) x
    → at_number xs n ≡ Some x
number-read xs zero x low high read = absurd (omega (arith, low))
number-read xs (suc i) x low high read =
    let place : suc i - 1 ≡ i = omega arith in
    at_number-suc xs i
    ∙ slice_get_read xs (length xs) i x refl (omega (arith, high)) (read ∙ ap (λ k. get_or xs k x) place)

-- the funding with other lends
abbrev lending : Funding → List Lend → Funding
lending f lends = record f { lends = lends }

-- where a lender's edge leads, by what it lends
abbrev pub lent_ends : ℕ → Option Lend → Option (Node × Node)
lent_ends t o = option_and_then (λ lend. option_map (λ to. (node.Thread t, to)) (lend_node lend)) o

-- the same with the edge's weight
abbrev pub lent_weighed : ℕ → Option Lend → Option (Node × Node × ℕ)
lent_weighed t o =
    option_map (λ (ends : Node × Node). let x : Node × Node × ℕ = (ends.0, ends.1, 1) in x) (lent_ends t o)

-- what is lent by an edge with these ends
abbrev lend_back : Option (Node × Node × ℕ) → Lend
lend_back None = Nobody
lend_back (Some (from, node.Thread s, weight)) = ToThread s
lend_back (Some (from, node.Mutex m, weight)) = ToMutex m
lend_back (Some (from, node.Currency c, weight)) = Nobody

-- two lends with the same edge are the same
same-lend : (t : ℕ) (weighed : Node × Node × ℕ) (a b : Lend) → lent_weighed t (Some a) ≡ Some weighed
    → lent_weighed t (Some b) ≡ Some weighed → a ≡ b
same-lend t weighed Nobody b first second = cc
same-lend t weighed (ToThread s) Nobody first second = cc
same-lend t weighed (ToThread s) (ToThread r) first second = ap lend_back (first ∙ sym second)
same-lend t weighed (ToThread s) (ToMutex m) first second = ap lend_back (first ∙ sym second)
same-lend t weighed (ToMutex m) Nobody first second = cc
same-lend t weighed (ToMutex m) (ToThread s) first second = ap lend_back (first ∙ sym second)
same-lend t weighed (ToMutex m) (ToMutex n) first second = ap lend_back (first ∙ sym second)

-- between two different lends of a thread there may be none
lends-between : (f : Funding) (t : ℕ) (old new : Lend) → at_number f.lends t ≡ Some old → ¬ (old ≡ new)
    → WeighedBetween f (lending f (set_number f.lends t Nobody)) (lending f (set_number f.lends t new))
lends-between f t old new there other = record { kept = kept; only = only }
  where
    none : List Lend
    none = set_number f.lends t Nobody

    after : List Lend
    after = set_number f.lends t new

    kept : (edge : Edge) (weighed : Node × Node × ℕ) → weighed_of f edge ≡ Some weighed
        → weighed_of (lending f after) edge ≡ Some weighed → weighed_of (lending f none) edge ≡ Some weighed
    kept (OfTicket n) weighed first second = first
    kept (OfMutex m) weighed first second = first
    kept (OfLender u) weighed first second = by (number-set f.lends t Nobody u)
      where
        by : (at_number none u ≡ at_number f.lends u) ⊎ ((u ≡ suc (t - 1)) × (at_number none u ≡ Some Nobody))
            → lent_weighed u (at_number none u) ≡ Some weighed
        by (inl same) = ap (lent_weighed u) same ∙ first
        by (inr (at, gone)) = absurd (other (same-lend u weighed old new (sym (ap (lent_weighed u) here) ∙ first)
            (sym (ap (lent_weighed u) then) ∙ second)))
          where
            is : u ≡ t
            is = at ∙ number-there f.lends t old there

            here : at_number f.lends u ≡ Some old
            here = ap (at_number f.lends) is ∙ there

            then : at_number after u ≡ Some new
            then = ap (at_number after) is ∙ number-set_same f.lends t new old there

    only : (edge : Edge) (weighed : Node × Node × ℕ) → weighed_of (lending f none) edge ≡ Some weighed
        → (weighed_of f edge ≡ Some weighed) ⊎ (weighed_of (lending f after) edge ≡ Some weighed)
    only (OfTicket n) weighed is = inl is
    only (OfMutex m) weighed is = inl is
    only (OfLender u) weighed is = by (number-set f.lends t Nobody u)
      where
        by : (at_number none u ≡ at_number f.lends u) ⊎ ((u ≡ suc (t - 1)) × (at_number none u ≡ Some Nobody))
            → (lent_weighed u (at_number f.lends u) ≡ Some weighed)
            ⊎ (lent_weighed u (at_number after u) ≡ Some weighed)
        by (inl same) = inl (sym (ap (lent_weighed u) same) ∙ is)
        by (inr (at, gone)) = let no : lent_weighed u (Some Nobody) ≡ Some weighed = sym (ap (lent_weighed u) gone)
            ∙ is in cc

pub edges-lent : (w mid after : LimitedFunding) (t : ℕ) (old new : Lend) → at_number w.funding.lends t ≡ Some old
    → ¬ (old ≡ new) → mid ≡ with_lends w (set_number w.funding.lends t Nobody)
    → after ≡ with_lends w (set_number w.funding.lends t new)
    → WeighedBetween w.funding mid.funding after.funding
edges-lent w mid after t old new there other one two =
    subst (λ (m : LimitedFunding). WeighedBetween w.funding m.funding after.funding) (sym one)
    (subst (λ (a : LimitedFunding).
    WeighedBetween w.funding (lending w.funding (set_number w.funding.lends t Nobody)) a.funding) (sym two)
    (lends-between w.funding t old new there other))

-- a thread that lends this already lends this afterwards
pub lend-kept : (w : LimitedFunding) (t : ℕ) (lend : Lend) → at_number w.funding.lends t ≡ Some lend
    → w ≡ with_lends w (set_number w.funding.lends t lend)
lend-kept w t lend there = ap (with_lends w) (sym (number-kept w.funding.lends t lend there))

-- two lends of one thread, one after the other, come to the last
pub lend-twice : (w mid after : LimitedFunding) (t : ℕ) (first second : Lend) → mid
    ≡ with_lends w (set_number w.funding.lends t first) → after ≡ with_lends mid (set_number mid.funding.lends t second)
    → after ≡ with_lends w (set_number w.funding.lends t second)
lend-twice w mid after t first second one two =
    two ∙ ap (λ (v : LimitedFunding). with_lends v (set_number v.funding.lends t second)) one
    ∙ ap (with_lends w) (set-twice w.funding.lends t first second)

-- after a thread that is there lends to nobody
pub lends-nobody : (w after : LimitedFunding) (t : ℕ) → IsThread w.funding t
    → after ≡ with_lends w (set_number w.funding.lends t Nobody) → at_number after.funding.lends t ≡ Some Nobody
lends-nobody w after t is gone =
    let (lend, there) = number-some w.funding.lends t is.0 is.1 in
    ap (λ (v : LimitedFunding). at_number v.funding.lends t) gone ∙ number-set_same w.funding.lends t Nobody lend there

-- ---- fewer edges

-- when a thread lends to nobody, each edge was there before
fewer : (f : Funding) (t : ℕ) (edge : Edge) (ends : Node × Node)
    → ends_of (lending f (set_number f.lends t Nobody)) edge ≡ Some ends → ends_of f edge ≡ Some ends
fewer f t (OfTicket n) ends is = is
fewer f t (OfMutex m) ends is = is
fewer f t (OfLender u) ends is = by (number-set f.lends t Nobody u)
  where
    by : (at_number (set_number f.lends t Nobody) u ≡ at_number f.lends u)
        ⊎ ((u ≡ suc (t - 1)) × (at_number (set_number f.lends t Nobody) u ≡ Some Nobody))
        → lent_ends u (at_number f.lends u) ≡ Some ends
    by (inl same) = sym (ap (lent_ends u) same) ∙ is
    by (inr (at, gone)) = let no : lent_ends u (Some Nobody) ≡ Some ends = sym (ap (lent_ends u) gone) ∙ is in cc

way-fewer : (f : Funding) (t : ℕ) (from : Node) (way : List Node) (to : Node)
    → IsWay (lending f (set_number f.lends t Nobody)) from way to → IsWay f from way to
way-fewer f t from [] to is = is
way-fewer f t from (next ∷ rest) to ((edge, ends), more) =
    ((edge, fewer f t edge (from, next) ends), way-fewer f t next rest to more)

-- what may be lent before a thread lends to nobody may be lent after it
pub apart-fewer : (w after : LimitedFunding) (t : ℕ) (lend : Lend) → after
    ≡ with_lends w (set_number w.funding.lends t Nobody) → CanLend w.funding t lend → ¬ LendReaches after.funding lend t
apart-fewer w after t lend gone can (last, is, (way, leads)) =
    let f = w.funding in
    let there : Reaches f last (node.Thread t) =
    (way, way-fewer f t last way (node.Thread t) (subst (λ (v : LimitedFunding). IsWay v.funding last way (node.Thread t)) gone leads)) in
    by lend is can there
  where
    by : (l : Lend) → lend_node l ≡ Some last → CanLend w.funding t l → Reaches w.funding last (node.Thread t) → ⊥
    by Nobody at can reached = cc
    by (ToThread s) at can reached = can.1 (last, at, reached)
    by (ToMutex m) at can reached = can.1 (last, at, reached)

-- ---- what may be lent

-- a thread may lend to another that doesn't reach it
pub may-lend-thread : (f : Funding) (t s : ℕ) (lend : Lend) (reached : Bool) → lend ≡ ToThread s → IsThread f s
    → (IsTrue reached ↔ Reaches f (node.Thread s) (node.Thread t)) → IsTrue (not reached) ↔ CanLend f t lend
may-lend-thread f t s lend true is there reaches =
    rw is ((λ no. cc), (λ can. absurd (can.1 (node.Thread s, refl, reaches.0 refl))))
may-lend-thread f t s lend false is there reaches = rw is
    ((λ yes. (there, λ r. let no = reaches.1 (subst (λ (x : Node). Reaches f x (node.Thread t)) (sym (some-injective (node.Thread s) r.0 r.1)) r.2) in cc)), (λ can. refl))

-- and to a mutex that doesn't reach it
pub may-lend-mutex : (f : Funding) (t m : ℕ) (lend : Lend) (reached : Bool) → lend ≡ ToMutex m → IsMutex f m
    → (IsTrue reached ↔ Reaches f (node.Mutex m) (node.Thread t)) → IsTrue (not reached) ↔ CanLend f t lend
may-lend-mutex f t m lend true is there reaches =
    rw is ((λ no. cc), (λ can. absurd (can.1 (node.Mutex m, refl, reaches.0 refl))))
may-lend-mutex f t m lend false is there reaches = rw is
    ((λ yes. (there, λ r. let no = reaches.1 (subst (λ (x : Node). Reaches f x (node.Thread t)) (sym (some-injective (node.Mutex m) r.0 r.1)) r.2) in cc)), (λ can. refl))

-- but to none that isn't there
pub lends-nowhere : (f : Funding) (t s : ℕ) (lend : Lend) → lend ≡ ToThread s → ¬ IsThread f s → ¬ CanLend f t lend
lends-nowhere f t s lend is gone can = gone (subst (λ (l : Lend). CanLend f t l) is can).0

pub lends-nowhere-mutex : (f : Funding) (t m : ℕ) (lend : Lend) → lend ≡ ToMutex m → ¬ IsMutex f m → ¬ CanLend f t lend
lends-nowhere-mutex f t m lend is gone can = gone (subst (λ (l : Lend). CanLend f t l) is can).0
