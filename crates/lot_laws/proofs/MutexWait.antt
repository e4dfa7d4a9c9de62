-- A thread that waits for a mutex: the values of threads afterwards.
use Rattle.lot_laws.proofs.Common.{AlreadyOwner, Bool, Event, Funding, HasNoCycle, IsBacked, IsInOrder, Leaves, LendsLead, List, Lock, LockCycle, MayWait, Mutex, NoMutex, Nobody, None, Option, Record, Running, Some, State, ToMutex, Trap, Waiting, Waits, WaitsFor, after_trap, all-pass, ap, arith, at_number, at_number-map, before_lock, borrower, borrower_of, change-length, change_record, cond, counts-once, false, filter, finish_trap, funding_of, if◌then◌else◌, is_backed, is_live_status, is_no_mutex, is_none, lend_of, lends_lead, lends_lead-exact, lends_on_to, length, live_in, live_of, live_value, lock, locks-off, map, mutex_at, nat_lt, numbers, of_mutexes, option_any, option_flatten, option_map, or_parts, own_value, owner_of, owns, port_holders, refl, set_number, some-injective, some-of, status-now, status-other, status_of, step, step-order, subst, sum_by, sym, thread_value, true, unserved, unwrap_or, value_of, with_ticks, without_servers, ℕ, [], ◌++◌, ◌+◌, ◌∙◌, ◌∷◌, ◌≡◌, ◌≢◌}
use Rattle.lot_laws.proofs.Trapped.{IsDone, trap-done}
use Rattle.lot_laws.proofs.Lending.{lending}
use Rattle.lot_laws.proofs.Blocked.{lends_in, blocked-worth, blocked-own}
use Rattle.lot_laws.proofs.CallQueued.{map-kept}

-- ---- the state

abbrev left : State → ℕ → ℕ → ℕ → ℕ → ℕ → List Record
left s p ran used m t =
    change_record (λ r. with_ticks (ran + 1) (after_trap (Leaves (Waiting m)) p used s.limits r)) s.records t

-- the state after the thread began to wait
abbrev waiting : State → ℕ → ℕ → ℕ → ℕ → ℕ → ℕ → State
waiting s p ran used m owner t = record s {
  records = left s p ran used m t;
  mutexes = set_number s.mutexes m (record { owner = Some owner; waiters = (mutex_at s.mutexes m).waiters ++ t ∷ [] });
}

-- the mutex has this owner, and this is the state then
abbrev IsWaiting : State → ℕ → ℕ → ℕ → ℕ → ℕ → Option ℕ → State → Type 0
IsWaiting s p ran used m t owner after = (u : ℕ) × (owner ≡ Some u) × (after ≡ waiting s p ran used m u t)

lock-waits : (s : State) (p ran used m t : ℕ) → (lock s.records s.mutexes t m).outcome ≡ Waits
    → IsWaiting s p ran used m t (mutex_at s.mutexes m).owner
    (finish_trap s p t (ran + 1) used (of_mutexes s (lock s.records s.mutexes t m))).state
lock-waits s p ran used m t = at (mutex_at s.mutexes m).owner refl
  where
    at : (o : Option ℕ) → (mutex_at s.mutexes m).owner ≡ o → (lock s.records s.mutexes t m).outcome ≡ Waits
        → IsWaiting s p ran used m t o
        (finish_trap s p t (ran + 1) used (of_mutexes s (lock s.records s.mutexes t m))).state
    at None is = rw is (λ came. cc)
    at (Some u) is = rw is (λ came. (u, refl, refl))

module _ (s : State) (order : IsInOrder s) (lends : s.limits.without_lending ≡ false) (p ran used before m owner t : ℕ)
    (runs : status_of s.records t ≡ Some (Running p before))
    (mutex : Mutex) (there : at_number s.mutexes m ≡ Some mutex) (owned : mutex.owner ≡ Some owner)
    (owner_is : owner_of (funding_of s) m ≡ Some owner)
    (no_cycle_now : HasNoCycle (funding_of (waiting s p ran used m owner t)))
    (backed : IsBacked (funding_of s) (live_of s) owner) where
  records_now : List Record
  records_now = left s p ran used m t

  t-now : status_of records_now t ≡ Some (Waiting m)
  unfolding records_now
  t-now = status-now (λ r. with_ticks (ran + 1) (after_trap (Leaves (Waiting m)) p used s.limits r)) s.records t
      (Running p before) (Waiting m) runs (λ r. refl)

  other-now : (u : ℕ) → u ≢ t → status_of records_now u ≡ status_of s.records u
  unfolding records_now
  other-now u differs =
      status-other (λ r. with_ticks (ran + 1) (after_trap (Leaves (Waiting m)) p used s.limits r)) s.records t u differs

  many : length records_now ≡ length s.records
  unfolding records_now
  many = change-length (λ r. with_ticks (ran + 1) (after_trap (Leaves (Waiting m)) p used s.limits r)) s.records t

  -- the same owners
  owners-kept : map (λ (x : Mutex). x.owner)
      (waiting s p ran used m owner t).mutexes ≡ map (λ (x : Mutex). x.owner) s.mutexes
  owners-kept = map-kept (λ (x : Mutex). x.owner) s.mutexes m mutex
      (record { owner = Some owner; waiters = (mutex_at s.mutexes m).waiters ++ t ∷ [] }) there (sym owned)

  funding-now : funding_of (waiting s p ran used m owner t) ≡ lending (funding_of s) (lends_in s.limits records_now)
  unfolding records_now
  funding-now =
      ap (λ owners. record (lending (funding_of s) (lends_in s.limits records_now)) { owners = owners }) owners-kept

  no_cycle_then : HasNoCycle (lending (funding_of s) (lends_in s.limits records_now))
  no_cycle_then = subst HasNoCycle funding-now no_cycle_now

  -- those to whom the owner leads are worth as much more as the thread was worth
  pub wait-worth : (v : ℕ) → value_of (waiting s p ran used m owner t) v
      ≡ value_of s v + cond (lends_lead (funding_of s) owner v) (value_of s t) 0
  unfolding records_now
  wait-worth v =
      ap (λ f. thread_value s.limits.unit f (live_in records_now) v) funding-now
      ∙ blocked-worth s records_now t owner (Running p before) (Waiting m) many runs refl refl t-now refl
      (ap (λ (without : Bool). borrower (funding_of s) (if without then Nobody else ToMutex m)) lends ∙ owner_is)
      (λ u differs. ap (option_map (lend_of s.limits)) (other-now u differs)) order.no_cycle order.funds_there
      no_cycle_then
      (λ u differs. ap (option_map is_live_status) (other-now u differs)) backed v

  pub wait-together : live_value (waiting s p ran used m owner t) ≡ live_value s
  unfolding records_now
  wait-together =
      counts-once (waiting s p ran used m owner t) no_cycle_now
      ∙ ap (λ f. sum_by (own_value s.limits.unit f (live_in records_now))
      (filter (is_backed f (live_in records_now)) (numbers records_now))) funding-now
      ∙ blocked-own s records_now t owner (Running p before) (Waiting m) many runs refl refl t-now refl
      (ap (λ (without : Bool). borrower (funding_of s) (if without then Nobody else ToMutex m)) lends ∙ owner_is)
      (λ u differs. ap (option_map (lend_of s.limits)) (other-now u differs)) order.no_cycle order.funds_there
      no_cycle_then
      (λ u differs. ap (option_map is_live_status) (other-now u differs)) backed
      ∙ sym (counts-once s order.no_cycle)

-- ---- the event

-- the owner that the funding sees is the mutex's
owner-seen : (s : State) (m owner u : ℕ) (mutex : Mutex) → at_number s.mutexes m ≡ Some mutex
    → owner_of (funding_of s) m ≡ Some owner → (mutex_at s.mutexes m).owner ≡ Some u
    → (mutex.owner ≡ Some owner) × (u ≡ owner)
owner-seen s m owner u mutex there seen has =
    let at : mutex_at s.mutexes m ≡ mutex =
    ap (λ (o : Option Mutex). unwrap_or o (record { owner = None; waiters = [] })) there in
    let found : owner_of (funding_of s) m ≡ mutex.owner = ap option_flatten
    (at_number-map (λ (x : Mutex). x.owner) s.mutexes m ∙ ap (option_map (λ (x : Mutex). x.owner)) there) in
    (sym found ∙ seen, some-injective u owner (sym has ∙ ap (λ (x : Mutex). x.owner) at ∙ sym found ∙ seen))

-- the lock takes no server away
kept-lock : (s : State) (t m owner : ℕ) → HasNoCycle (funding_of s) → owner_of (funding_of s) m ≡ Some owner
    → MayWait s t owner → before_lock s t m ≡ s.mutexes
kept-lock s t m owner no_cycle seen may = by s.limits.queued_lend refl
  where
    f : Funding
    f = funding_of s

    has : (o : Option Mutex) → option_flatten (option_map (λ (x : Mutex). x.owner) o) ≡ Some owner
        → (unwrap_or o (record { owner = None; waiters = [] })).owner ≡ Some owner
    has None e = cc
    has (Some mutex) e = e

    owner-is : (mutex_at s.mutexes m).owner ≡ Some owner
    owner-is = has (at_number s.mutexes m)
        (sym (ap option_flatten (at_number-map (λ (x : Mutex). x.owner) s.mutexes m)) ∙ seen)

    leads : (o : Option ℕ) → borrower_of f owner ≡ o → option_any (λ x. lends_lead f x t) o ≡ true → LendsLead f owner t
    leads None is e = cc
    leads (Some b) is e = let lead = (lends_lead-exact f no_cycle.lends b t).0 e in (b ∷ lead.0, (is, lead.1))

    tested : s.limits.queued_lend ≡ true → (b : Bool)
        → option_any (λ o. lends_on_to f o t) (mutex_at s.mutexes m).owner ≡ b
        → cond b (unserved (λ server. lends_lead f server t) s.mutexes (port_holders s.limits)) s.mutexes ≡ s.mutexes
    tested on false is = refl
    tested on true is = absurd
        (may on (leads (borrower_of f owner) refl (sym (ap (option_any (λ o. lends_on_to f o t)) owner-is) ∙ is)))

    by : (b : Bool) → s.limits.queued_lend ≡ b → before_lock s t m ≡ s.mutexes
    by false off = locks-off s t m off
    by true on = tested on (option_any (λ o. lends_on_to f o t) (mutex_at s.mutexes m).owner) refl

after-wait : (P : State → Type 0) (s : State) (e : Event) (t owner : ℕ) → IsInOrder s → WaitsFor s e t owner
    → MayWait s t owner
    → ((p ran used before m : ℕ) (mutex : Mutex) → status_of s.records t ≡ Some (Running p before)
    → at_number s.mutexes m ≡ Some mutex → mutex.owner ≡ Some owner → owner_of (funding_of s) m ≡ Some owner
    → HasNoCycle (funding_of (waiting s p ran used m owner t)) → P (waiting s p ran used m owner t))
    → P (step s e).state
after-wait P s e t owner order (p, ran, m, ticks, ends, is, replied, seen) may holds =
    by
    (trap-done s p ran (Lock m) t ticks Waits ends (λ refusal same. cc) (ap (λ x. (step s x).reply) (sym is) ∙ replied))
  where
    by : IsDone s p ran (Lock m) t Waits (step s (Trap p ran (Lock m))).state → P (step s e).state
    by done =
        let passed = all-pass ((is_no_mutex s m, NoMutex) ∷ (owns s t m, AlreadyOwner)
        ∷ (option_any (λ u. lends_on_to (without_servers s) u t) (mutex_at s.mutexes m).owner, LockCycle)
        ∷ []) done.passed in
        let (mutex, there) = some-of (at_number s.mutexes m)
        (or_parts (is_none (at_number s.mutexes m)) (nat_lt s.limits.mutexes m) passed.0).0 in
        let (u, has, state) = lock-waits s p ran done.used m t (ap (λ mutexes. (lock s.records mutexes t m).outcome)
        (sym (kept-lock s t m owner order.no_cycle seen may)) ∙ done.came) in
        let (owned, same) = owner-seen s m owner u mutex there seen has in
        let here : (step s e).state ≡ waiting s p ran done.used m owner t = ap (λ x. (step s x).state) is ∙ done.state
        ∙ ap (λ mutexes. (finish_trap s p t (ran + 1) done.used (of_mutexes s (lock s.records mutexes t m))).state)
        (kept-lock s t m owner order.no_cycle seen may) ∙ state ∙ ap (λ x. waiting s p ran done.used m x t) same in
        let now : HasNoCycle (funding_of (step s e).state) = (step-order s e order).no_cycle in
        subst P (sym here) (holds p ran done.used done.before m mutex done.runs there owned seen
        (subst (λ x. HasNoCycle (funding_of x)) here now))

pub worth-then : (s : State) (e : Event) (t owner v : ℕ) → IsInOrder s → s.limits.without_lending ≡ false
    → WaitsFor s e t owner → MayWait s t owner → IsBacked (funding_of s) (live_of s) owner
    → value_of (step s e).state v ≡ value_of s v + cond (lends_lead (funding_of s) owner v) (value_of s t) 0
worth-then s e t owner v order lends waits may backed =
    after-wait (λ x. value_of x v ≡ value_of s v + cond (lends_lead (funding_of s) owner v) (value_of s t) 0) s e t
    owner order waits may
    (λ p ran used before m mutex runs there owned seen now.
    wait-worth s order lends p ran used before m owner t runs mutex there owned seen now backed v)

pub leads-gets : (s : State) (e : Event) (t owner v : ℕ) → IsInOrder s → s.limits.without_lending ≡ false
    → WaitsFor s e t owner → MayWait s t owner → IsBacked (funding_of s) (live_of s) owner
    → LendsLead (funding_of s) owner v
    → value_of (step s e).state v ≡ value_of s v + value_of s t
leads-gets s e t owner v order lends waits may backed leads =
    worth-then s e t owner v order lends waits may backed ∙ ap (λ b. value_of s v + cond b (value_of s t) 0)
    ((lends_lead-exact (funding_of s) order.no_cycle.lends owner v).1 leads)

pub others-keep : (s : State) (e : Event) (t owner v : ℕ) → IsInOrder s → s.limits.without_lending ≡ false
    → WaitsFor s e t owner → MayWait s t owner → IsBacked (funding_of s) (live_of s) owner
    → ¬ LendsLead (funding_of s) owner v
    → value_of (step s e).state v ≡ value_of s v
others-keep s e t owner v order lends waits may backed apart =
    worth-then s e t owner v order lends waits may backed
    ∙ ap (λ b. value_of s v + cond b (value_of s t) 0) (off (lends_lead (funding_of s) owner v) refl) ∙ omega arith
  where
    off : (b : Bool) → lends_lead (funding_of s) owner v ≡ b → b ≡ false
    off false is = refl
    off true is = absurd (apart ((lends_lead-exact (funding_of s) order.no_cycle.lends owner v).0 is))

pub together-same : (s : State) (e : Event) (t owner : ℕ) → IsInOrder s → s.limits.without_lending ≡ false
    → WaitsFor s e t owner → MayWait s t owner → IsBacked (funding_of s) (live_of s) owner
    → live_value (step s e).state ≡ live_value s
together-same s e t owner order lends waits may backed =
    after-wait (λ x. live_value x ≡ live_value s) s e t owner order waits may
    (λ p ran used before m mutex runs there owned seen now.
    wait-together s order lends p ran used before m owner t runs mutex there owned seen now backed)
