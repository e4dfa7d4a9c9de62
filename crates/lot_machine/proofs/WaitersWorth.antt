-- The waiters for one mutex together are worth at most as much as base's active tickets.
use Rattle.lot_machine.proofs.Common.{Bool, Funding, FundsThere, HasNoCycle, IsLendChain, IsQueue, LendsOnTo, List, Record, Some, State, Waiting, active_amount, ap, arith, borrower, borrower_of, cond, false, funding_of, lend_of, lends_lead, length, length-map, live_of, numbers, option_and_then, own_value, range_with_len, refl, slice_get, subst, suc, sum_by, sum_by-cons, sym, true, value_of, ℕ, [], ◌*◌, ◌+◌, ◌∙◌, ◌∷◌, ◌≡◌, ◌≤◌}
use Rattle.lot_machine.proofs.Sums.{sum-filter, sum-le, sum-same, sum-swap}
use Rattle.lot_machine.proofs.Tickets.{some-injective}
use Rattle.lot_machine.proofs.LendDepth.{lends_lead-exact}
use Rattle.lot_machine.proofs.Flow.{owned-within}
use Rattle.lot_machine.proofs.TrapCycles.{lend-at}

-- ---- two that lend to the same thread: what leads to both leads through none

module _ (f : Funding) (no_cycle : (t : ℕ) → ¬ LendsOnTo f t t) where
  -- a chain from one to the other would go on to it again
  following : (v w : ℕ) (chain : List ℕ) → borrower_of f v ≡ borrower_of f w → IsLendChain f v chain w → v ≡ w
  following v w [] same leads = leads
  following v w (s ∷ rest) same leads = absurd (no_cycle w (s, sym same ∙ leads.0, (rest, leads.1)))

  pub lead-same : (u v w : ℕ) (chain other : List ℕ) → borrower_of f v ≡ borrower_of f w → IsLendChain f u chain v
      → IsLendChain f u other w → v ≡ w
  lead-same u v w [] other same is also = following v w other same (subst (λ x. IsLendChain f x other w) is also)
  lead-same u v w (s ∷ rest) [] same is also =
      sym (following w v (s ∷ rest) (sym same) (subst (λ x. IsLendChain f x (s ∷ rest) v) also is))
  lead-same u v w (s ∷ rest) (r ∷ more) same is also =
      let equal : s ≡ r = some-injective s r (sym is.0 ∙ also.0) in
      lead-same s v w rest more same is.1 (subst (λ x. IsLendChain f x more w) (sym equal) also.1)

-- ---- a test that at most one of a list passes

sum-failing : (test : ℕ → Bool) (amount : ℕ) (xs : List ℕ)
    → ((place t : ℕ) → slice_get xs place ≡ Some t → test t ≡ false) → sum_by (λ t. cond (test t) amount 0) xs ≡ 0
sum-failing test amount [] fails = refl
sum-failing test amount (x ∷ xs) fails =
    rw (fails 0 x refl) (sum-failing test amount xs (λ place t at. fails (suc place) t at))

pub sum-single : (test : ℕ → Bool) (amount : ℕ) (xs : List ℕ)
    → ((place other t : ℕ) → slice_get xs place ≡ Some t → slice_get xs other ≡ Some t → place ≡ other)
    → ((place other t u : ℕ) → slice_get xs place ≡ Some t → slice_get xs other ≡ Some u → test t ≡ true → test u ≡ true
    → t ≡ u)
    → sum_by (λ t. cond (test t) amount 0) xs ≤ amount
sum-single test amount [] once only = omega arith
sum-single test amount (x ∷ xs) once only =
    let rest =
    sum-single test amount xs (λ place other t here also. omega (arith, once (suc place) (suc other) t here also))
    (λ place other t u here also. only (suc place) (suc other) t u here also) in
    omega (arith, sum_by-cons (λ t. cond (test t) amount 0) x xs, at (test x) refl rest)
  where
    fails : test x ≡ true → (place t : ℕ) → slice_get xs place ≡ Some t → (b : Bool) → test t ≡ b → b ≡ false
    fails passes place t here false e = refl
    fails passes place t here true e =
        let same : x ≡ t = only 0 (suc place) x t refl here passes e in
        let clash : 0 ≡ suc place = once 0 (suc place) t (ap Some same) here in
        cc

    at : (b : Bool) → test x ≡ b → sum_by (λ t. cond (test t) amount 0) xs ≤ amount
        → cond b amount 0 + sum_by (λ t. cond (test t) amount 0) xs ≤ amount
    at true e rest = omega (arith, sum-failing test amount xs (λ place t here. fails e place t here (test t) refl))
    at false e rest = omega (arith, rest)

-- ---- the waiters

module _ (s : State) (no_cycle : HasNoCycle (funding_of s)) (funds_there : FundsThere (funding_of s)) (m : ℕ)
    (waiters : List ℕ) (queue : IsQueue s.records (Waiting m) waiters) where
  own : ℕ → ℕ
  own u = own_value s.limits.unit (funding_of s) (live_of s) u

  -- all waiters lend to the owner
  lends : (place t : ℕ) → slice_get waiters place ≡ Some t
      → borrower_of (funding_of s) t ≡ borrower (funding_of s) (lend_of s.limits (Waiting m))
  lends place t at =
      ap (option_and_then (borrower (funding_of s))) (lend-at s.limits s.records t (Waiting m) (queue.each place t at))

  -- what a thread owns counts at one waiter at most
  each : (u : ℕ) → sum_by (λ t. cond (lends_lead (funding_of s) u t) (own u) 0) waiters ≤ own u
  each u = sum-single (λ t. lends_lead (funding_of s) u t) (own u) waiters queue.once only
    where
      only : (place other t v : ℕ) → slice_get waiters place ≡ Some t → slice_get waiters other ≡ Some v
          → lends_lead (funding_of s) u t ≡ true → lends_lead (funding_of s) u v ≡ true → t ≡ v
      only place other t v at also leads too =
          let chain = (lends_lead-exact (funding_of s) no_cycle.lends u t).0 leads in
          let more = (lends_lead-exact (funding_of s) no_cycle.lends u v).0 too in
          lead-same (funding_of s) no_cycle.lends u t v chain.0 more.0
          (lends place t at ∙ sym (lends other v also)) chain.1 more.1

  -- a thread's value as a sum over all threads
  spread : (t : ℕ) → value_of s t ≡ sum_by (λ u. cond (lends_lead (funding_of s) u t) (own u) 0) (numbers s.records)
  unfolding own
  spread t =
      sum-filter own (λ u. lends_lead (funding_of s) u t) (numbers (funding_of s).lends)
      ∙ ap (λ n. sum_by (λ u. cond (lends_lead (funding_of s) u t) (own u) 0) (range_with_len 1 n))
      (length-map s.records (λ (r : Record). lend_of s.limits r.status))

  pub waiters-worth : sum_by (value_of s) waiters ≤ active_amount (funding_of s) (live_of s) 0 * s.limits.unit
  unfolding own
  waiters-worth =
      let by_thread = sum-same (value_of s)
      (λ t. sum_by (λ u. cond (lends_lead (funding_of s) u t) (own u) 0) (numbers s.records)) waiters spread
      ∙ sum-swap (λ t u. cond (lends_lead (funding_of s) u t) (own u) 0) waiters (numbers s.records) in
      let at_most =
      sum-le (λ u. sum_by (λ t. cond (lends_lead (funding_of s) u t) (own u) 0) waiters) own (numbers s.records) each in
      omega (arith, by_thread, at_most, owned-within (funding_of s) no_cycle funds_there s.limits.unit (live_of s) (length s.records))
