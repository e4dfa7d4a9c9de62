-- Chains of lends that pass no port: the borrowers if no port has a server.
use Rattle.lot_kernel.proofs.Common.{Bool, Funding, HasNoCycle, IsLendChain, Lend, LendsTo, List, Mutex, Nobody, None, Option, Some, State, ToMutex, ToThread, ap, arith, at_number, at_number-map, borrower, borrower_of, cases_eq, cases_lt, cond, cycle-unserved_each, eq-eqb, false, funding_of, held_by, holders, inl, inr, is_none, lends_lead, lends_lead-exact, lends_lead_within, lends_on_to, length, mutex_at, ne_eqb, number-set, number-set_same, option_and_then, option_any, option_flatten, option_map, owner_of, owners_of, port_holders, range_with_len, refl, refused-off, set_number, suc, sym, true, unserved, unserved_at, unwrap_or, without_servers, zero, ℕ, [], ◌+◌, ◌-◌, ◌<◌, ◌||◌, ◌∙◌, ◌∷◌, ◌≡◌, ◌≢◌, ◌≤◌, ◌⊎◌}
use Rattle.lot_kernel.proofs.Serving.{unserved-count, unserved-either}
use Rattle.lot_kernel.proofs.Trapping.{lead-on, number-within}

-- whether there is a server at all
abbrev any : ℕ → Bool
any = λ server. true

-- ---- who owns what

-- the owner of a mutex or holder that is there or not
abbrev owner_in : Option Mutex → Option ℕ
owner_in o = (unwrap_or o (record { owner = None; waiters = [] })).owner

-- what stands below the holders stays
at-low : (test : ℕ → Bool) (mutexes : List Mutex) (n k : ℕ) → k < n
    → at_number (unserved_at test mutexes n) k ≡ at_number mutexes k
at-low test mutexes n k low = by (option_any test (mutex_at mutexes n).owner)
  where
    from : (at_number (set_number mutexes n (held_by None)) k ≡ at_number mutexes k)
        ⊎ ((k ≡ suc (n - 1)) × (at_number (set_number mutexes n (held_by None)) k ≡ Some (held_by None)))
        → at_number (set_number mutexes n (held_by None)) k ≡ at_number mutexes k
    from (inl same) = same
    from (inr (at, is)) = absurd (omega (arith, at, low))

    by : (b : Bool) → at_number (cond b (set_number mutexes n (held_by None)) mutexes) k ≡ at_number mutexes k
    by true = from (number-set mutexes n (held_by None) k)
    by false = refl

pub range-low : (test : ℕ → Bool) (mutexes : List Mutex) (first count k : ℕ) → k < first
    → at_number (unserved test mutexes (range_with_len first count)) k ≡ at_number mutexes k
range-low test mutexes first zero k low = refl
range-low test mutexes first (suc count) k low = range-low test (unserved_at test mutexes first) (first + 1) count k
    (omega (arith, low)) ∙ at-low test mutexes first k low

-- a holder has no owner afterwards
at-gone : (mutexes : List Mutex) (n : ℕ) → (mutex_at (unserved_at any mutexes n) n).owner ≡ None
at-gone mutexes n = by (mutex_at mutexes n).owner refl
  where
    set : (o : Option Mutex) → at_number mutexes n ≡ o → (u : ℕ) → owner_in o ≡ Some u
        → (mutex_at (set_number mutexes n (held_by None)) n).owner ≡ None
    set None is u owned = cc
    set (Some x) is u owned = ap owner_in (number-set_same mutexes n (held_by None) x is)

    by : (o : Option ℕ) → (mutex_at mutexes n).owner ≡ o
        → (mutex_at (cond (option_any any o) (set_number mutexes n (held_by None)) mutexes) n).owner ≡ None
    by None is = is
    by (Some u) is = set (at_number mutexes n) refl u is

range-gone : (mutexes : List Mutex) (first count k : ℕ) → first ≤ k → k < first + count
    → (mutex_at (unserved any mutexes (range_with_len first count)) k).owner ≡ None
range-gone mutexes first zero k low high = absurd (omega (arith, low, high))
range-gone mutexes first (suc count) k low high = from (cases_eq k first) (λ other.
    range-gone (unserved_at any mutexes first) (first + 1) count k (omega (arith, low, other)) (omega (arith, high)))
  where
    here : k ≡ first → (mutex_at (unserved_at any mutexes first) k).owner ≡ None
    here same = ap (λ n. (mutex_at (unserved_at any mutexes first) n).owner) same ∙ at-gone mutexes first

    from : (k ≡ first) ⊎ (k ≡ first → ⊥)
        → (¬ (k ≡ first) → (mutex_at (unserved any mutexes (first ∷ range_with_len (first + 1) count)) k).owner ≡ None)
        → (mutex_at (unserved any mutexes (first ∷ range_with_len (first + 1) count)) k).owner ≡ None
    from (inl same) later = ap owner_in
        (range-low any (unserved_at any mutexes first) (first + 1) count k (omega (arith, same))) ∙ here same
    from (inr other) later = later other

-- a number beyond the list
past-end : (mutexes : List Mutex) (k : ℕ) → length mutexes < k → (mutex_at mutexes k).owner ≡ None
past-end mutexes k past = by (is_none (at_number mutexes k)) refl
  where
    none : (o : Option Mutex) → is_none o ≡ true → owner_in o ≡ None
    none None is = refl
    none (Some x) is = cc

    by : (b : Bool) → is_none (at_number mutexes k) ≡ b → (mutex_at mutexes k).owner ≡ None
    by true is = none (at_number mutexes k) is
    by false is = absurd (omega (arith, past, (number-within mutexes k is).1))

module _ (s : State) where
  -- the mutexes and holders without servers
  abbrev bare : List Mutex
  bare = unserved any s.mutexes (port_holders s.limits)

  bare-owner : (m : ℕ) → owner_of (without_servers s) m ≡ (mutex_at bare m).owner
  bare-owner m = ap option_flatten (at_number-map (λ (x : Mutex). x.owner) bare m) ∙ by (at_number bare m)
    where
      by : (o : Option Mutex) → option_flatten (option_map (λ (x : Mutex). x.owner) o) ≡ owner_in o
      by None = refl
      by (Some mutex) = refl

  -- a mutex keeps its owner
  pub mutex-kept : (m : ℕ) → m ≤ s.limits.mutexes → owner_of (without_servers s) m ≡ owner_of (funding_of s) m
  mutex-kept m low = by s.limits.queued_lend
    where
      stays : at_number (unserved any s.mutexes (range_with_len (s.limits.mutexes + 1) s.limits.ports)) m
          ≡ at_number s.mutexes m
      stays = range-low any s.mutexes (s.limits.mutexes + 1) s.limits.ports m (omega (arith, low))

      seen : (xs : List Mutex) → option_flatten (at_number (owners_of xs) m)
          ≡ option_flatten (option_map (λ (x : Mutex). x.owner) (at_number xs m))
      seen xs = ap option_flatten (at_number-map (λ (x : Mutex). x.owner) xs m)

      by : (b : Bool) → option_flatten (at_number
          (owners_of (unserved any s.mutexes (cond b (range_with_len (s.limits.mutexes + 1) s.limits.ports) []))) m)
          ≡ option_flatten (at_number (owners_of s.mutexes) m)
      by true = seen (unserved any s.mutexes (range_with_len (s.limits.mutexes + 1) s.limits.ports)) ∙ ap
          (λ (o : Option Mutex). option_flatten (option_map (λ (x : Mutex). x.owner) o)) stays ∙ sym (seen s.mutexes)
      by false = refl

  -- a holder has none
  pub holder-free : (m : ℕ) → length s.mutexes ≡ holders s.limits → s.limits.mutexes < m
      → owner_of (without_servers s) m ≡ None
  holder-free m many high = bare-owner m
      ∙ by s.limits.queued_lend refl (cases_lt m (s.limits.mutexes + 1 + s.limits.ports))
    where
      beyond : (b : Bool) → s.limits.queued_lend ≡ b → s.limits.mutexes + cond b s.limits.ports 0 < m
          → length s.mutexes < m
      beyond b is past = omega (arith, many, ap (λ x. s.limits.mutexes + cond x s.limits.ports 0) is, past)

      by : (b : Bool) → s.limits.queued_lend ≡ b
          → (m < s.limits.mutexes + 1 + s.limits.ports) ⊎ (s.limits.mutexes + 1 + s.limits.ports ≤ m) → (mutex_at
          (unserved any s.mutexes (cond b (range_with_len (s.limits.mutexes + 1) s.limits.ports) [])) m).owner ≡ None
      by false off any_side = past-end s.mutexes m (beyond false off (omega (arith, high)))
      by true on (inl within) =
          range-gone s.mutexes (s.limits.mutexes + 1) s.limits.ports m (omega (arith, high)) within
      by true on (inr past) =
          past-end (unserved any s.mutexes (range_with_len (s.limits.mutexes + 1) s.limits.ports)) m
          (let end : s.limits.mutexes + s.limits.ports < m = omega (arith, past) in let few = beyond true on end in
          omega (arith, few, unserved-count any s.mutexes (range_with_len (s.limits.mutexes + 1) s.limits.ports)))

-- ---- a walk

-- each step of a chain takes one lend of those that it may have
pub walk-ends : (f : Funding) (left t u : ℕ) → t ≡ u → lends_lead_within left f t u ≡ true
walk-ends f zero t u same = eq-eqb t u same
walk-ends f (suc left) t u same =
    ap (λ b. b || option_any (λ s. lends_lead_within left f s u) (borrower_of f t)) (eq-eqb t u same)

pub walk-stops : (f : Funding) (left t u : ℕ) → t ≢ u → borrower_of f t ≡ None → lends_lead_within left f t u ≡ false
walk-stops f zero t u other none = ne_eqb t u other
walk-stops f (suc left) t u other none = ap (λ b. b || option_any (λ s. lends_lead_within left f s u) (borrower_of f t))
    (ne_eqb t u other) ∙ ap (option_any (λ s. lends_lead_within left f s u)) none

pub walk-goes : (f : Funding) (left t u next : ℕ) → t ≢ u → borrower_of f t ≡ Some next
    → lends_lead_within (suc left) f t u ≡ lends_lead_within left f next u
walk-goes f left t u next other some = ap (λ b. b || option_any (λ s. lends_lead_within left f s u) (borrower_of f t))
    (ne_eqb t u other) ∙ ap (option_any (λ s. lends_lead_within left f s u)) some

-- ---- fewer lends

module _ (s : State) (no_cycle : HasNoCycle (funding_of s)) where
  fewer-lends : (u v : ℕ) → LendsTo (without_servers s) u v → LendsTo (funding_of s) u v
  fewer-lends u v = by (at_number (funding_of s).lends u)
    where
      owned : (m : ℕ) → owner_of (without_servers s) m ≡ Some v → owner_of (funding_of s) m ≡ Some v
      owned m is = from (unserved-either any s.mutexes (port_holders s.limits) m)
        where
          from : (at_number (owners_of (bare s)) m ≡ at_number (owners_of s.mutexes) m)
              ⊎ (at_number (owners_of (bare s)) m ≡ Some None) → owner_of (funding_of s) m ≡ Some v
          from (inl same) = sym (ap option_flatten same) ∙ is
          from (inr gone) = let never : None ≡ Some v = sym (ap option_flatten gone) ∙ is in cc

      by : (o : Option Lend) → option_and_then (borrower (without_servers s)) o ≡ Some v
          → option_and_then (borrower (funding_of s)) o ≡ Some v
      by None e = cc
      by (Some Nobody) e = cc
      by (Some (ToThread w)) e = e
      by (Some (ToMutex m)) e = owned m e

  fewer-chain : (u : ℕ) (chain : List ℕ) (v : ℕ) → IsLendChain (without_servers s) u chain v
      → IsLendChain (funding_of s) u chain v
  fewer-chain u [] v is = is
  fewer-chain u (w ∷ rest) v (first, others) = (fewer-lends u w first, fewer-chain w rest v others)

  pub bare-cycle : HasNoCycle (without_servers s)
  bare-cycle = cycle-unserved_each any s (port_holders s.limits) no_cycle

  -- what lends don't lead to at all they don't lead to past the ports
  pub fewer-lead : (u v : ℕ) → lends_lead (funding_of s) u v ≡ false → lends_lead (without_servers s) u v ≡ false
  fewer-lead u v off = by (lends_lead (without_servers s) u v) refl
    where
      by : (b : Bool) → lends_lead (without_servers s) u v ≡ b → b ≡ false
      by false is = refl
      by true is =
          let (chain, leads) = (lends_lead-exact (without_servers s) bare-cycle.lends u v).0 is in
          sym ((lends_lead-exact (funding_of s) no_cycle.lends u v).1 (chain, fewer-chain u chain v leads)) ∙ off

  module _ (owner t : ℕ) (other : owner ≢ t) where
    -- no chain leads on to the thread at all
    pub cycle-none : lends_lead (funding_of s) owner t ≡ false → false ≡ lends_on_to (without_servers s) owner t
    cycle-none off = sym (sym (lead-on (without_servers s) bare-cycle owner t other) ∙ fewer-lead owner t off)

    -- one does, and no port has a server
    pub cycle-off : s.limits.queued_lend ≡ false → lends_lead (funding_of s) owner t ≡ true
        → true ≡ lends_on_to (without_servers s) owner t
    cycle-off off on = sym
        (ap (λ f. lends_on_to f owner t) (refused-off s off) ∙ sym (lead-on (funding_of s) no_cycle owner t other) ∙ on)

    pub cycle-past : lends_lead (without_servers s) owner t ≡ lends_on_to (without_servers s) owner t
    cycle-past = lead-on (without_servers s) bare-cycle owner t other
