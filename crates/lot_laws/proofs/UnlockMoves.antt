-- An unlock that passes the mutex on: the values of threads afterwards.
use Rattle.lot_laws.proofs.Common.{Bool, Contains, Event, FundsThere, HasNoCycle, IsBacked, IsInOrder, Leaves, Lend, LendsTo, List, Mutex, NoMutex, Nobody, None, Option, Ready, Record, Running, Some, State, Status, ToMutex, ToThread, Trap, Unlock, Waiting, after_trap, all-pass, ap, arith, at_number, at_number-map, borrower, borrower_of, cases_eq, change-length, change_each, change_record, cond, contains-at, contains-later, each-length, each-now, each-other, eq-eqb, eqb-true, finish_trap, funding_of, if◌then◌else◌, inl, inr, is_live, is_live_status, is_no_mutex, is_none, lend_of, lends_lead, length, length-map, live_of, live_value, map, mutex_at, nat_lt, ne_eqb, not, number-set, number-set_same, number-there, numbers, of_mutexes, option_and_then, option_any, option_flatten, option_map, or_parts, owner_of, owners-set, owns, place-in, range_with_len, refl, remove, same-sums, set_number, slice_get-get_or, slice_index, some-injective, some-of, status-now, status-other, status_of, step, step-order, subst, suc, sum-filter, sum-same, sum_by, sum_by-cons, sym, trap_refusal, true, false, unlock, unwrap_or, value_of, waiters_for, winner, with_ticks, zero, ℕ, [], ◌+◌, ◌-◌, ◌<◌, ◌==◌, ◌∙◌, ◌∷◌, ◌≡◌, ◌≢◌, ◌⊎◌}
use Rattle.lot_machine.specs.declared.drawn.Drawn.{Drawn}
use Rattle.lot_machine.specs.declared.refusal.TrapRefusal.TheVariants.{NotOwner}
use Rattle.lot_machine.specs.declared.reply.Outcome.TheVariants.{Passed}
use Rattle.lot_machine.proofs.NamedThreads.{winner-within}
use Rattle.lot_laws.specs.Unlocks.{PassesOn, mutex_worth}
use Rattle.lot_laws.proofs.Trapped.{IsDone, trap-done, lend-is, live-is}
use Rattle.lot_laws.proofs.Lending.{same-worth}
use Rattle.lot_laws.proofs.Blocked.{lead-itself, lead-other, lends-nobody}
use Rattle.lot_laws.proofs.MutexWaiters.{waiters-of, waiters-in, waiters-apart}
use Rattle.lot_laws.proofs.LendersReady.{made_ready, with_ready_each, sum-listed, each-worth, each-together, each-cycle}

-- the thread that makes the trap leaves its processor, and is Ready
abbrev left : State → ℕ → ℕ → ℕ → Record → Record
left s p ran used r = with_ticks (ran + 1) (after_trap (Leaves Ready) p used s.limits r)

-- the records after the unlock
abbrev records_passed : State → ℕ → ℕ → ℕ → ℕ → ℕ → List Record
records_passed s p ran used t next = change_record (left s p ran used) (change_record made_ready s.records next) t

-- the state after the unlock: the next thread owns the mutex, and these still wait for it
abbrev pub passed_to : State → ℕ → ℕ → ℕ → ℕ → ℕ → ℕ → List ℕ → State
passed_to s p ran used m t next waiters = record s {
  records = records_passed s p ran used t next;
  mutexes = set_number s.mutexes m (record { owner = Some next; waiters = waiters });
}

module _ (s : State) (no_cycle : HasNoCycle (funding_of s)) (funds_there : FundsThere (funding_of s))
    (lends : s.limits.without_lending ≡ false) (p ran used before m t next : ℕ) (waiters : List ℕ)
    (runs : status_of s.records t ≡ Some (Running p before)) (waits : status_of s.records next ≡ Some (Waiting m))
    (held : at_number (map (λ (x : Mutex). x.owner) s.mutexes) m ≡ Some (Some t))
    (no_cycle_now : HasNoCycle (funding_of (passed_to s p ran used m t next waiters))) where
  -- the state afterwards, those who wait before and afterwards, and both states with these Ready
  abbrev later : State
  later = passed_to s p ran used m t next waiters

  abbrev queue : List ℕ
  queue = waiters_for (funding_of s) m

  abbrev queue_later : List ℕ
  queue_later = waiters_for (funding_of later) m

  abbrev ready : State
  ready = with_ready_each s queue

  abbrev ready_later : State
  ready_later = with_ready_each later queue_later

  -- ---- statuses

  apart : ¬ (next ≡ t)
  apart same =
      let both : Running p before ≡ Waiting m =
      some-injective (Running p before) (Waiting m) (sym runs ∙ ap (status_of s.records) (sym same) ∙ waits) in cc

  next-now : status_of later.records next ≡ Some Ready
  next-now =
      status-other (left s p ran used) (change_record made_ready s.records next) t next apart
      ∙ status-now made_ready s.records next (Waiting m) Ready waits (λ r. refl)

  t-now : status_of later.records t ≡ Some Ready
  t-now =
      status-now (left s p ran used) (change_record made_ready s.records next) t (Running p before) Ready
      (status-other made_ready s.records next t (λ same. apart (sym same)) ∙ runs) (λ r. refl)

  other-now : (u : ℕ) → u ≢ next → u ≢ t → status_of later.records u ≡ status_of s.records u
  other-now u one two =
      status-other (left s p ran used) (change_record made_ready s.records next) t u two
      ∙ status-other made_ready s.records next u one

  -- ---- who waits

  to-mutex : lend_of s.limits (Waiting m) ≡ ToMutex m
  to-mutex = ap (λ (without : Bool). if without then Nobody else ToMutex m) lends

  next-in : Contains queue next
  next-in = waiters-in (funding_of s) m next
      (lend-is s.limits s.records next ∙ ap (option_map (lend_of s.limits)) waits ∙ ap Some to-mutex)

  -- a thread with such a status doesn't lend to the mutex
  out-by : (a : State) (status : Status) (u : ℕ) → a.limits ≡ s.limits → status_of a.records u ≡ Some status
      → lend_of s.limits status ≡ Nobody → ¬ Contains (waiters_for (funding_of a) m) u
  out-by a status u limits is free c =
      let never : Some Nobody ≡ Some (ToMutex m) =
      ap Some (sym free) ∙ sym (ap (option_map (lend_of s.limits)) is)
      ∙ ap (λ x. option_map (lend_of x) (status_of a.records u)) (sym limits)
      ∙ sym (lend-is a.limits a.records u) ∙ waiters-of (funding_of a) m u c in cc

  t-out : ¬ Contains queue t
  t-out = out-by s (Running p before) t refl runs refl

  next-out : ¬ Contains queue_later next
  next-out = out-by later Ready next refl next-now refl

  t-out-later : ¬ Contains queue_later t
  t-out-later = out-by later Ready t refl t-now refl

  -- those others that wait go on waiting
  stays-in : (u : ℕ) → u ≢ next → Contains queue u → Contains queue_later u
  stays-in u differs c =
      waiters-in (funding_of later) m u (lend-is s.limits later.records u
      ∙ ap (option_map (lend_of s.limits)) (other-now u differs (λ same. t-out (subst (Contains queue) same c)))
      ∙ sym (lend-is s.limits s.records u) ∙ waiters-of (funding_of s) m u c)

  was-in : (u : ℕ) → Contains queue_later u → Contains queue u
  was-in u c =
      waiters-in (funding_of s) m u (lend-is s.limits s.records u
      ∙ ap (option_map (lend_of s.limits))
      (sym (other-now u (λ same. next-out (subst (Contains queue_later) same c))
      (λ same. t-out-later (subst (Contains queue_later) same c))))
      ∙ sym (lend-is s.limits later.records u) ∙ waiters-of (funding_of later) m u c)

  -- ---- owners

  owners-now : (funding_of later).owners ≡ set_number (map (λ (x : Mutex). x.owner) s.mutexes) m (Some next)
  owners-now = owners-set s m (record { owner = Some next; waiters = waiters })

  owner-now : owner_of (funding_of later) m ≡ Some next
  owner-now =
      ap (λ owners. option_flatten (at_number owners m)) owners-now
      ∙ ap option_flatten
      (number-set_same (map (λ (x : Mutex). x.owner) s.mutexes) m (Some next) (Some t) held)

  owner-other : (n : ℕ) → n ≢ m → owner_of (funding_of later) n ≡ owner_of (funding_of s) n
  owner-other n differs = ap (λ owners. option_flatten (at_number owners n)) owners-now
      ∙ by (number-set (map (λ (x : Mutex). x.owner) s.mutexes) m (Some next) n)
    where
      number : suc (m - 1) ≡ m
      number = number-there (map (λ (x : Mutex). x.owner) s.mutexes) m (Some t) held

      by : (at_number (set_number (map (λ (x : Mutex). x.owner) s.mutexes) m (Some next)) n
          ≡ at_number (map (λ (x : Mutex). x.owner) s.mutexes) n)
          ⊎ ((n ≡ suc (m - 1)) × (at_number (set_number (map (λ (x : Mutex). x.owner) s.mutexes) m (Some next)) n
          ≡ Some (Some next)))
          → option_flatten (at_number (set_number (map (λ (x : Mutex). x.owner) s.mutexes) m (Some next)) n)
          ≡ owner_of (funding_of s) n
      by (inl same) = ap option_flatten same
      by (inr (at, is)) = absurd (differs (at ∙ number))

  -- ---- who lends to whom

  lent-before : (u : ℕ) → Contains queue u → LendsTo (funding_of s) u t
  lent-before u c =
      ap (option_and_then (borrower (funding_of s))) (waiters-of (funding_of s) m u c) ∙ ap option_flatten held

  lent-now : (u : ℕ) → Contains queue_later u → LendsTo (funding_of later) u next
  lent-now u c = ap (option_and_then (borrower (funding_of later))) (waiters-of (funding_of later) m u c) ∙ owner-now

  t-alone : borrower_of (funding_of s) t ≡ None
  t-alone = lends-nobody s t (Running p before) runs refl

  next-alone : borrower_of (funding_of later) next ≡ None
  next-alone = lends-nobody later next Ready next-now refl

  t-backed : IsBacked (funding_of s) (live_of s) t
  t-backed = (t, ([], refl), live-is s.records t ∙ ap (option_map is_live_status) runs)

  next-backed : IsBacked (funding_of later) (live_of later) next
  next-backed = (next, ([], refl), live-is later.records next ∙ ap (option_map is_live_status) next-now)

  -- ---- with all of them Ready, before and afterwards

  has-status : (a : State) (u : ℕ) → Contains (waiters_for (funding_of a) m) u
      → (status : Status) × (status_of a.records u ≡ Some status)
  has-status a u c = by (status_of a.records u) refl
    where
      by : (o : Option Status) → status_of a.records u ≡ o → (status : Status) × (status_of a.records u ≡ Some status)
      by (Some status) at = (status, at)
      by None at = let never : None ≡ Some (ToMutex m) =
          sym (lend-is a.limits a.records u ∙ ap (option_map (lend_of a.limits)) at)
          ∙ waiters-of (funding_of a) m u c in cc

  ready-in : (a : State) (u : ℕ) → Contains (waiters_for (funding_of a) m) u
      → status_of (change_each made_ready a.records (waiters_for (funding_of a) m)) u ≡ Some Ready
  ready-in a u c =
      let (place, at) = place-in (waiters_for (funding_of a) m) u c in
      let first = has-status a u c in
      each-now made_ready Ready (λ r. refl) a.records (waiters_for (funding_of a) m) place u first.0 at first.1

  ready-out : (a : State) (u : ℕ) → ¬ Contains (waiters_for (funding_of a) m) u
      → status_of (change_each made_ready a.records (waiters_for (funding_of a) m)) u ≡ status_of a.records u
  ready-out a u out = each-other made_ready a.records (waiters_for (funding_of a) m) u
      (λ place at. out (contains-at (waiters_for (funding_of a) m) place u at))

  -- a thread waits for the mutex or not
  told : (u : ℕ) → Contains queue u ⊎ (¬ Contains queue u)
  told u = by (at_number (funding_of s).lends u) refl
    where
      other : (lend : Option Lend) → at_number (funding_of s).lends u ≡ lend → ¬ (lend ≡ Some (ToMutex m))
          → ¬ Contains queue u
      other lend is differs c = differs (sym is ∙ waiters-of (funding_of s) m u c)

      by : (o : Option Lend) → at_number (funding_of s).lends u ≡ o → Contains queue u ⊎ (¬ Contains queue u)
      by None is = inr (other None is (λ e. cc))
      by (Some Nobody) is = inr (other (Some Nobody) is (λ e. cc))
      by (Some (ToThread w)) is = inr (other (Some (ToThread w)) is (λ e. cc))
      by (Some (ToMutex n)) is = at (cases_eq n m)
        where
          at : (n ≡ m) ⊎ (¬ (n ≡ m)) → Contains queue u ⊎ (¬ Contains queue u)
          at (inl same) = inl (waiters-in (funding_of s) m u (is ∙ ap (λ k. Some (ToMutex k)) same))
          at (inr differs) =
              inr (other (Some (ToMutex n)) is (λ e. let same : n ≡ m = cc in differs same))

  -- what tells a Running thread no more from a Ready one is the same
  status-same : {A : Type 0} (tell : Status → A) → tell Ready ≡ tell (Running p before) → (u : ℕ)
      → option_map tell (status_of ready_later.records u) ≡ option_map tell (status_of ready.records u)
  status-same tell alike u = by (cases_eq u next) (cases_eq u t) (told u)
    where
      by : (u ≡ next) ⊎ (¬ (u ≡ next)) → (u ≡ t) ⊎ (¬ (u ≡ t)) → Contains queue u ⊎ (¬ Contains queue u)
          → option_map tell (status_of ready_later.records u) ≡ option_map tell (status_of ready.records u)
      by (inl same) one two =
          ap (λ x. option_map tell (status_of ready_later.records x)) same
          ∙ ap (option_map tell) (ready-out later next next-out ∙ next-now ∙ sym (ready-in s next next-in))
          ∙ ap (λ x. option_map tell (status_of ready.records x)) (sym same)
      by (inr differs) (inl same) two =
          ap (λ x. option_map tell (status_of ready_later.records x)) same
          ∙ ap (option_map tell) (ready-out later t t-out-later ∙ t-now) ∙ ap Some alike
          ∙ ap (option_map tell) (sym (ready-out s t t-out ∙ runs))
          ∙ ap (λ x. option_map tell (status_of ready.records x)) (sym same)
      by (inr differs) (inr other) (inl c) =
          ap (option_map tell) (ready-in later u (stays-in u differs c) ∙ sym (ready-in s u c))
      by (inr differs) (inr other) (inr out) =
          ap (option_map tell) (ready-out later u (λ c. out (was-in u c)) ∙ other-now u differs other
          ∙ sym (ready-out s u out))

  lend-same : (u : ℕ) → at_number (funding_of ready_later).lends u ≡ at_number (funding_of ready).lends u
  lend-same u =
      lend-is s.limits ready_later.records u
      ∙ status-same (lend_of s.limits) refl u ∙ sym (lend-is s.limits ready.records u)

  lives-same : (u : ℕ) → at_number (live_of ready_later) u ≡ at_number (live_of ready) u
  lives-same u = live-is ready_later.records u ∙ status-same is_live_status refl u ∙ sym (live-is ready.records u)

  -- nobody waits for the mutex then
  none-left : (u : ℕ) → ¬ (at_number (funding_of ready).lends u ≡ Some (ToMutex m))
  none-left u is = by (told u)
    where
      by : Contains queue u ⊎ (¬ Contains queue u) → ⊥
      by (inl c) =
          let never : Some Nobody ≡ Some (ToMutex m) =
          sym (lend-is s.limits ready.records u ∙ ap (option_map (lend_of s.limits)) (ready-in s u c)) ∙ is in cc
      by (inr out) =
          out (waiters-in (funding_of s) m u (lend-is s.limits s.records u ∙ ap (option_map (lend_of s.limits))
          (sym (ready-out s u out)) ∙ sym (lend-is s.limits ready.records u) ∙ is))

  to-same : (u : ℕ) → borrower_of (funding_of ready_later) u ≡ borrower_of (funding_of ready) u
  to-same u =
      ap (option_and_then (borrower (funding_of ready_later))) (lend-same u)
      ∙ by (at_number (funding_of ready).lends u) refl
    where
      by : (o : Option Lend) → at_number (funding_of ready).lends u ≡ o
          → option_and_then (borrower (funding_of ready_later)) o
          ≡ option_and_then (borrower (funding_of ready)) o
      by None is = refl
      by (Some Nobody) is = refl
      by (Some (ToThread w)) is = refl
      by (Some (ToMutex n)) is = owner-other n (λ same. none-left u (is ∙ ap (λ k. Some (ToMutex k)) same))

  as-many : length ready_later.records ≡ length ready.records
  as-many =
      each-length made_ready later.records queue_later
      ∙ change-length (left s p ran used) (change_record made_ready s.records next) t
      ∙ change-length made_ready s.records next ∙ sym (each-length made_ready s.records queue)

  ready-same : (v : ℕ) → value_of ready_later v ≡ value_of ready v
  ready-same v =
      let was = with_ready_each s queue in
      let is = with_ready_each later queue_later in
      same-worth (funding_of was) (funding_of is).lends (funding_of is).owners (live_of was) (live_of is)
      (length-map is.records (λ (r : Record). lend_of s.limits r.status) ∙ as-many
      ∙ sym (length-map was.records (λ (r : Record). lend_of s.limits r.status)))
      (each-cycle queue s no_cycle) (each-cycle queue_later later no_cycle_now)
      funds_there to-same lives-same s.limits.unit v

  ready-together : live_value ready_later ≡ live_value ready
  ready-together =
      let was = with_ready_each s queue in
      let is = with_ready_each later queue_later in
      sum-filter (value_of is) (is_live (live_of is)) (numbers is.records)
      ∙ ap (λ n. sum_by (λ u. cond (is_live (live_of is) u) (value_of is u) 0) (range_with_len 1 n)) as-many
      ∙ sum-same (λ u. cond (is_live (live_of is) u) (value_of is u) 0)
      (λ u. cond (is_live (live_of was) u) (value_of was u) 0) (numbers was.records)
      (λ u. ap (λ (o : Option Bool). cond (option_any (λ flag. flag) o) (value_of is u) 0) (lives-same u)
      ∙ ap (λ w. cond (is_live (live_of was) u) w 0) (ready-same u))
      ∙ sym (sum-filter (value_of was) (is_live (live_of was)) (numbers was.records))

  -- ---- what moves

  only : (a : State) (b : ℕ) → HasNoCycle (funding_of a) → borrower_of (funding_of a) b ≡ None → (v : ℕ)
      → lends_lead (funding_of a) b v ≡ (v == b)
  only a b without alone v = by (cases_eq v b)
    where
      by : (v ≡ b) ⊎ (¬ (v ≡ b)) → lends_lead (funding_of a) b v ≡ (v == b)
      by (inl same) =
          ap (lends_lead (funding_of a) b) same ∙ lead-itself (funding_of a) b without ∙ sym (eq-eqb v b same)
      by (inr differs) = lead-other (funding_of a) b v without alone differs ∙ sym (ne_eqb v b differs)

  worth-before : (v : ℕ) → value_of s v ≡ value_of ready v + cond (v == t) (mutex_worth s m) 0
  worth-before v =
      each-worth queue s t no_cycle funds_there t-backed (waiters-apart (funding_of s) m) lent-before v
      ∙ ap (λ on. value_of ready v + cond on (mutex_worth s m) 0) (only s t no_cycle t-alone v)

  worth-now : (v : ℕ) → value_of later v ≡ value_of ready v + cond (v == next) (mutex_worth later m) 0
  worth-now v =
      each-worth queue_later later next no_cycle_now funds_there next-backed (waiters-apart (funding_of later) m)
      lent-now v
      ∙ ap (λ on. value_of ready_later v + cond on (mutex_worth later m) 0)
      (only later next no_cycle_now next-alone v)
      ∙ ap (λ w. w + cond (v == next) (mutex_worth later m) 0) (ready-same v)

  -- another thread is worth what it was
  pub passed-others : (v : ℕ) → v ≢ t → v ≢ next → value_of later v ≡ value_of s v
  passed-others v one two = omega (
    arith,
    worth-now v,
    ap (λ on. cond on (mutex_worth later m) 0) (ne_eqb v next two),
    worth-before v,
    ap (λ on. cond on (mutex_worth s m) 0) (ne_eqb v t one),
  )

  pub passed-owner : value_of s t ≡ value_of later t + mutex_worth s m
  passed-owner = omega (
    arith,
    worth-now t,
    ap (λ on. cond on (mutex_worth later m) 0) (ne_eqb t next (λ same. apart (sym same))),
    worth-before t,
    ap (λ on. cond on (mutex_worth s m) 0) (eq-eqb t t refl),
  )

  -- those who wait were worth as much as the next one and those who wait afterwards
  mutex-parts : mutex_worth s m ≡ value_of s next + mutex_worth later m
  mutex-parts =
      same-sums (value_of s) queue (next ∷ queue_later) (waiters-apart (funding_of s) m)
      (next-out, waiters-apart (funding_of later) m) to back
      ∙ sum_by-cons (value_of s) next queue_later
      ∙ ap (λ w. value_of s next + w) (sum-listed (value_of s) (value_of later) queue_later
      (λ u c. sym (passed-others u (λ same. t-out-later (subst (Contains queue_later) same c))
      (λ same. next-out (subst (Contains queue_later) same c)))))
    where
      to : (u : ℕ) → Contains queue u → Contains (next ∷ queue_later) u
      to u c = by (cases_eq u next)
        where
          by : (u ≡ next) ⊎ (¬ (u ≡ next)) → Contains (next ∷ queue_later) u
          by (inl same) = (zero, omega arith, sym same)
          by (inr differs) = contains-later next queue_later u (stays-in u differs c)

      back : (u : ℕ) → Contains (next ∷ queue_later) u → Contains queue u
      back u (zero, low, is) = subst (Contains queue) is next-in
      back u (suc i, low, is) = was-in u (i, omega (arith, low), is)

  pub passed-next : value_of later next ≡ mutex_worth s m
  passed-next = omega (
    arith,
    worth-now next,
    ap (λ on. cond on (mutex_worth later m) 0) (eq-eqb next next refl),
    worth-before next,
    ap (λ on. cond on (mutex_worth s m) 0) (ne_eqb next t apart),
    mutex-parts,
  )

  pub passed-together : live_value later ≡ live_value s
  passed-together =
      each-together queue_later later next no_cycle_now funds_there next-backed (waiters-apart (funding_of later) m)
      lent-now ∙ ready-together
      ∙ sym (each-together queue s t no_cycle funds_there t-backed (waiters-apart (funding_of s) m) lent-before)

-- ---- the event

-- an unlock that passes the mutex on: one of the waiters is next
abbrev pub IsPassed : State → ℕ → ℕ → ℕ → ℕ → ℕ → ℕ → ℕ → Type 0
IsPassed s p ran used m d t next =
    (rest : List ℕ) × Contains (mutex_at s.mutexes m).waiters next
    × ((finish_trap s p t (ran + 1) used (of_mutexes s (unlock s.records s.mutexes (value_of s) m d))).state
    ≡ passed_to s p ran used m t next rest)

-- the place of the winner of a lottery, or the first if there is none
abbrev pub place_of_winner : List ℕ → ℕ → ℕ
place_of_winner ws d = unwrap_or (option_map (λ (w : Drawn). w.place) (winner ws d)) 0

pub place-within : (ws : List ℕ) (d : ℕ) → ¬ (length ws ≡ 0) → place_of_winner ws d < length ws
place-within ws d some = by (winner ws d) refl
  where
    by : (o : Option Drawn) → winner ws d ≡ o → unwrap_or (option_map (λ (w : Drawn). w.place) o) 0 < length ws
    by None is = omega (arith, some)
    by (Some w) is = winner-within ws d w is

unlock-passes : (s : State) (p ran used m d t next : ℕ) (lottery : Option (ℕ × ℕ))
    → (unlock s.records s.mutexes (value_of s) m d).outcome ≡ Passed next lottery → IsPassed s p ran used m d t next
unlock-passes s p ran used m d t next lottery = at (mutex_at s.mutexes m).waiters refl
  where
    at : (ws : List ℕ) → (mutex_at s.mutexes m).waiters ≡ ws
        → (unlock s.records s.mutexes (value_of s) m d).outcome ≡ Passed next lottery
        → (rest : List ℕ) × Contains ws next
        × ((finish_trap s p t (ran + 1) used (of_mutexes s (unlock s.records s.mutexes (value_of s) m d))).state
        ≡ passed_to s p ran used m t next rest)
    at [] is = rw is (λ came. cc)
    at (w ∷ ws) is = rw is (λ came.
        let place : ℕ = place_of_winner (map (value_of s) (w ∷ ws)) d in
        let same : slice_index (w ∷ ws) place ≡ next = cc in
        let long : length (map (value_of s) (w ∷ ws)) ≡ length (w ∷ ws) = length-map (w ∷ ws) (value_of s) in
        let within : place < length (map (value_of s) (w ∷ ws)) =
        place-within (map (value_of s) (w ∷ ws)) d (λ none. absurd (omega (arith, none, long))) in
        let found = slice_get-get_or (w ∷ ws) place 0 (omega (arith, within, long)) in
        let state = ap (λ n. passed_to s p ran used m t n (remove (w ∷ ws) place)) same in
        (remove (w ∷ ws) place, contains-at (w ∷ ws) place next (found ∙ ap Some same), state))

-- the checks say that the mutex exists and that the thread owns it
unlock-checked : (s : State) (t m d : ℕ) → trap_refusal s t (Unlock m d) ≡ None
    → (mutex : Mutex) × (at_number s.mutexes m ≡ Some mutex) × (mutex.owner ≡ Some t)
unlock-checked s t m d passed =
    let checks = all-pass ((is_no_mutex s m, NoMutex) ∷ (not (owns s t m), NotOwner) ∷ []) passed in
    let exists = some-of (at_number s.mutexes m)
    (or_parts (is_none (at_number s.mutexes m)) (nat_lt s.limits.mutexes m) checks.0).0 in (
      exists.0,
      exists.1,
      owner exists.0.owner (sym (ap (λ (o : Option Mutex).
          not (option_any (λ owner. owner == t) (unwrap_or o (record { owner = None; waiters = [] })).owner)) exists.1)
          ∙ checks.1.0),
    )
  where
    owner : (o : Option ℕ) → not (option_any (λ owner. owner == t) o) ≡ false → o ≡ Some t
    owner None e = cc
    owner (Some u) e = by (u == t) refl e
      where
        by : (b : Bool) → (u == t) ≡ b → not b ≡ false → Some u ≡ Some t
        by true is e = ap Some (eqb-true u t is)
        by false is e = cc

-- what holds of the state then, if it holds of each state after such an unlock
after-pass : (P : State → Type 0) (s : State) (e : Event) (m t next : ℕ) → IsInOrder s → PassesOn s e m t next
    → ((p ran used before : ℕ) (rest : List ℕ) → status_of s.records t ≡ Some (Running p before)
    → status_of s.records next ≡ Some (Waiting m)
    → at_number (map (λ (x : Mutex). x.owner) s.mutexes) m ≡ Some (Some t)
    → HasNoCycle (funding_of (passed_to s p ran used m t next rest)) → P (passed_to s p ran used m t next rest))
    → P (step s e).state
after-pass P s e m t next order (p, ran, d, ticks, lottery, ends, is, replied) holds =
    by (trap-done s p ran (Unlock m d) t ticks (Passed next lottery) ends (λ refusal same. cc)
    (ap (λ x. (step s x).reply) (sym is) ∙ replied))
  where
    by : IsDone s p ran (Unlock m d) t (Passed next lottery) (step s (Trap p ran (Unlock m d))).state
        → P (step s e).state
    by done =
        let (mutex, there, owned) = unlock-checked s t m d done.passed in
        let (rest, among, state) = unlock-passes s p ran done.used m d t next lottery done.came in
        let here : (step s e).state ≡ passed_to s p ran done.used m t next rest =
        ap (λ x. (step s x).state) is ∙ done.state ∙ state in
        let now : HasNoCycle (funding_of (step s e).state) = (step-order s e order).no_cycle in
        let listed : Contains mutex.waiters next =
        subst (λ (o : Option Mutex). Contains (unwrap_or o (record { owner = None; waiters = [] })).waiters next)
        there among in
        let (place, at) = place-in mutex.waiters next listed in
        subst P (sym here) (holds p ran done.used done.before rest done.runs
        ((order.queues.waiters m mutex there).each place next at)
        (at_number-map (λ (x : Mutex). x.owner) s.mutexes m ∙ ap (option_map (λ (x : Mutex). x.owner)) there
        ∙ ap Some owned) (subst (λ x. HasNoCycle (funding_of x)) here now))

module _ (s : State) (e : Event) (m t next : ℕ) (order : IsInOrder s) (lends : s.limits.without_lending ≡ false)
    (passes : PassesOn s e m t next) where
  pub owner-gives : value_of s t ≡ value_of (step s e).state t + mutex_worth s m
  owner-gives =
      after-pass (λ x. value_of s t ≡ value_of x t + mutex_worth s m) s e m t next order passes
      (λ p ran used before rest runs waits held now. passed-owner s order.no_cycle order.funds_there lends p ran used
      before m t next rest runs waits held now)

  pub next-gets : value_of (step s e).state next ≡ mutex_worth s m
  next-gets =
      after-pass (λ x. value_of x next ≡ mutex_worth s m) s e m t next order passes
      (λ p ran used before rest runs waits held now. passed-next s order.no_cycle order.funds_there lends p ran used
      before m t next rest runs waits held now)

  pub rest-keep : (other : ℕ) → other ≢ t → other ≢ next → value_of (step s e).state other ≡ value_of s other
  rest-keep other one two =
      after-pass (λ x. value_of x other ≡ value_of s other) s e m t next order passes
      (λ p ran used before rest runs waits held now. passed-others s order.no_cycle order.funds_there lends p ran used
      before m t next rest runs waits held now other one two)

  pub together-keeps : live_value (step s e).state ≡ live_value s
  together-keeps =
      after-pass (λ x. live_value x ≡ live_value s) s e m t next order passes
      (λ p ran used before rest runs waits held now. passed-together s order.no_cycle order.funds_there lends p ran used
      before m t next rest runs waits held now)
