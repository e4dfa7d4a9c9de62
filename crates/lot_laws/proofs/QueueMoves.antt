-- A receipt of a queued call, with `queued_lend`: the values of threads afterwards.
use Rattle.lot_laws.proofs.Common.{Bool, Contains, Event, Funding, FundsThere, GoesOn, HasNoCycle, HasQueues, IsAbsent, IsApart, IsBacked, IsInOrder, IsQueue, Lend, LendsLead, LendsQueued, LendsTo, List, Mutex, NoPort, Nobody, None, Option, QueuedCall, Ready, Receive, Received, Record, Running, Served, Serves, Some, State, Status, TakesCallAt, ToMutex, ToThread, Trap, after_trap, all-pass, ap, arith, at_number, borrower, borrower_of, cases_eq, change-length, change_each, cond, contains-at, each-length, each-now, each-other, eq-eqb, false, finish_trap, flatten-some, funding_of, held_by, holder_of, if◌then◌else◌, inl, inr, is_live, is_live_status, is_none, lend_of, lends-by, lends_at, lends_lead, lends_lead-exact, length, length-map, live_of, live_value, map, nat_le, ne_eqb, number-set, number-set_same, number-there, numbers, of_ports, option_and_then, option_any, option_flatten, option_map, owner_of, owners-set, place-in, port_at, port_value, range_with_len, receive, refl, served_at, set_number, some-injective, status-now, status-other, status_of, step, step-order, subst, suc, sum-filter, sum-same, sum_by, sym, true, value_of, waiters_for, with_server, with_ticks, ℕ, [], ◌&&◌, ◌+◌, ◌-◌, ◌==◌, ◌∙◌, ◌∷◌, ◌≡◌, ◌≢◌, ◌⊎◌}
use Rattle.lot_machine.specs.declared.record.Status.TheVariants.{Queued as QueuedAt}
use Rattle.lot_laws.proofs.Trapped.{IsDone, trap-done, lend-is, live-is}
use Rattle.lot_laws.proofs.Lending.{same-worth}
use Rattle.lot_laws.proofs.Blocked.{lead-itself, lead-other, lends-nobody}
use Rattle.lot_laws.proofs.CallTaken.{port-there}
use Rattle.lot_laws.proofs.CallReceived.{taken, gone_on, received, call-received}
use Rattle.lot_laws.proofs.Replied.{lends-on, lives-on}
use Rattle.lot_laws.proofs.MutexWaiters.{waiters-of, waiters-in, waiters-apart}
use Rattle.lot_laws.proofs.LendersReady.{made_ready, with_ready_each, sum-listed, each-worth, each-together, each-cycle}

-- the state after the receipt: the thread that took the call is the port's server
abbrev pub moved : State → ℕ → ℕ → ℕ → ℕ → List QueuedCall → ℕ → ℕ → State
moved s p ran used port others caller server = record (received s p ran used port others caller
    server) { mutexes = with_server s.limits s.mutexes port (Some server) }

-- who lends to a thread isn't led to by it
not-back : (f : Funding) (u b : ℕ) → HasNoCycle f → LendsTo f u b → lends_lead f b u ≡ false
not-back f u b no_cycle to = by (lends_lead f b u) refl
  where
    by : (on : Bool) → lends_lead f b u ≡ on → on ≡ false
    by false is = refl
    by true is = absurd (no_cycle.lends u (b, to, (lends_lead-exact f no_cycle.lends b u).0 is))

-- a thread to which nothing comes
none-comes : (on : Bool) (now was more : ℕ) → now ≡ was + cond on more 0 → on ≡ false → now ≡ was
none-comes on now was more is off = omega (arith, is, ap (λ b. cond b more 0) off)

module _ (s : State) (no_cycle : HasNoCycle (funding_of s)) (funds_there : FundsThere (funding_of s))
    (lends : LendsQueued s) (p ran used before port caller server : ℕ) (others : List QueuedCall)
    (runs : status_of s.records server ≡ Some (Running p before))
    (queued : status_of s.records caller ≡ Some (QueuedAt port))
    (small : nat_le port s.limits.ports ≡ true) (was : Option ℕ)
    (held : at_number (map (λ (x : Mutex). x.owner) s.mutexes) (holder_of s.limits port) ≡ Some was)
    (queue : List ℕ) (queue-apart : IsApart queue) (in-queue : (u : ℕ)
    → at_number (funding_of s).lends u ≡ Some (ToMutex (holder_of s.limits port)) → Contains queue u)
    (of-queue : (u : ℕ) → Contains queue u
    → at_number (funding_of s).lends u ≡ Some (ToMutex (holder_of s.limits port)))
    (no_cycle_now : HasNoCycle (funding_of (moved s p ran used port others caller server))) where
  -- the state afterwards, and each of both states with all of the queue Ready
  abbrev later : State
  later = moved s p ran used port others caller server

  abbrev records_later : List Record
  records_later = gone_on s p ran used caller server

  abbrev ready : State
  ready = with_ready_each s queue

  abbrev ready_later : State
  ready_later = with_ready_each later queue

  -- ---- statuses

  apart : ¬ (caller ≡ server)
  apart same =
      let both : Running p before ≡ QueuedAt port =
      some-injective (Running p before) (QueuedAt port) (sym runs ∙ ap (status_of s.records) (sym same) ∙ queued) in cc

  server-then : status_of (taken s caller server) server ≡ Some (Running p before)
  server-then =
      status-other (λ r. record r { status = Served server }) s.records caller server (λ same. apart (sym same)) ∙ runs

  caller-now : status_of records_later caller ≡ Some (Served server)
  caller-now =
      status-other (λ r. with_ticks (ran + 1) (after_trap GoesOn p used s.limits r))
      (taken s caller server) server caller apart
      ∙ status-now (λ r. record r { status = Served server }) s.records caller (QueuedAt port) (Served server) queued
      (λ r. refl)

  other-now : (u : ℕ) → u ≢ caller → u ≢ server → status_of records_later u ≡ status_of s.records u
  other-now u one two =
      status-other (λ r. with_ticks (ran + 1) (after_trap GoesOn p used s.limits r))
      (taken s caller server) server u two
      ∙ status-other (λ r. record r { status = Served server }) s.records caller u one

  server-lend : option_map (lend_of s.limits) (status_of records_later server) ≡ Some Nobody
  server-lend = lends-on s.limits (taken s caller server) server p used (ran + 1) s.limits before server-then

  server-live : option_map is_live_status (status_of records_later server) ≡ Some true
  server-live = lives-on (taken s caller server) server p used (ran + 1) s.limits before server-then

  -- ---- lends

  -- what a queued thread lends to
  to-holder : lend_of s.limits (QueuedAt port) ≡ ToMutex (holder_of s.limits port)
  to-holder =
      ap (λ (without : Bool). if without then Nobody
      else (if lends_at s.limits port then ToMutex (holder_of s.limits port) else Nobody)) lends.0
      ∙ ap (λ (on : Bool). if on then ToMutex (holder_of s.limits port) else Nobody)
      (ap (λ q. q && nat_le port s.limits.ports) lends.1 ∙ small)

  -- the caller is one of them, and the server isn't
  caller-in : Contains queue caller
  caller-in = in-queue caller
      (lend-is s.limits s.records caller ∙ ap (option_map (lend_of s.limits)) queued ∙ ap Some to-holder)

  server-out : ¬ Contains queue server
  server-out c =
      let never : Some Nobody ≡ Some (ToMutex (holder_of s.limits port)) =
      sym (lend-is s.limits s.records server ∙ ap (option_map (lend_of s.limits)) runs) ∙ of-queue server c in cc

  -- ---- owners

  owners-now : (funding_of later).owners ≡ set_number (map (λ (x : Mutex). x.owner) s.mutexes) (holder_of s.limits port)
      (Some server)
  owners-now =
      ap (λ (on : Bool). map (λ (x : Mutex). x.owner)
      (if on then set_number s.mutexes (holder_of s.limits port) (held_by (Some server)) else s.mutexes)) lends.1
      ∙ owners-set s (holder_of s.limits port) (held_by (Some server))

  owner-now : owner_of (funding_of later) (holder_of s.limits port) ≡ Some server
  owner-now =
      ap (λ owners. option_flatten (at_number owners (holder_of s.limits port))) owners-now
      ∙ ap option_flatten
      (number-set_same (map (λ (x : Mutex). x.owner) s.mutexes) (holder_of s.limits port) (Some server) was held)

  owner-other : (m : ℕ) → m ≢ holder_of s.limits port → owner_of (funding_of later) m ≡ owner_of (funding_of s) m
  owner-other m differs = ap (λ owners. option_flatten (at_number owners m)) owners-now
      ∙ by (number-set (map (λ (x : Mutex). x.owner) s.mutexes) (holder_of s.limits port) (Some server) m)
    where
      number : suc (holder_of s.limits port - 1) ≡ holder_of s.limits port
      number = number-there (map (λ (x : Mutex). x.owner) s.mutexes) (holder_of s.limits port) was held

      by : (at_number (set_number (map (λ (x : Mutex). x.owner) s.mutexes) (holder_of s.limits port) (Some server)) m
          ≡ at_number (map (λ (x : Mutex). x.owner) s.mutexes) m)
          ⊎ ((m ≡ suc (holder_of s.limits port - 1)) × (at_number (set_number (map (λ (x : Mutex). x.owner) s.mutexes)
          (holder_of s.limits port) (Some server)) m ≡ Some (Some server)))
          → option_flatten
          (at_number (set_number (map (λ (x : Mutex). x.owner) s.mutexes) (holder_of s.limits port) (Some server)) m)
          ≡ owner_of (funding_of s) m
      by (inl same) = ap option_flatten same
      by (inr (at, is)) = absurd (differs (at ∙ number))

  -- ---- who lends to whom, before and afterwards

  lent-now : (u : ℕ) → Contains queue u → LendsTo (funding_of later) u server
  lent-now u c = by (cases_eq u caller)
    where
      is-served : at_number (funding_of later).lends caller ≡ Some (ToThread server)
      is-served =
          lend-is s.limits records_later caller ∙ ap (option_map (lend_of s.limits)) caller-now
          ∙ ap (λ (without : Bool). Some (if without then Nobody else ToThread server)) lends.0

      by : (u ≡ caller) ⊎ (¬ (u ≡ caller)) → LendsTo (funding_of later) u server
      by (inl same) = ap (borrower_of (funding_of later)) same
          ∙ ap (option_and_then (borrower (funding_of later))) is-served
      by (inr differs) =
          let stays : status_of records_later u ≡ status_of s.records u =
          other-now u differs (λ same. server-out (subst (Contains queue) same c)) in
          let lend : at_number (funding_of later).lends u ≡ Some (ToMutex (holder_of s.limits port)) =
          lend-is s.limits records_later u ∙ ap (option_map (lend_of s.limits)) stays
          ∙ sym (lend-is s.limits s.records u) ∙ of-queue u c in
          ap (option_and_then (borrower (funding_of later))) lend ∙ owner-now

  -- the server lends to nobody, before and afterwards
  server-alone : borrower_of (funding_of s) server ≡ None
  server-alone = lends-nobody s server (Running p before) runs refl

  server-alone_now : borrower_of (funding_of later) server ≡ None
  server-alone_now =
      ap (option_and_then (borrower (funding_of later))) (lend-is s.limits records_later server ∙ server-lend)

  server-backed : IsBacked (funding_of later) (live_of later) server
  server-backed = (server, ([], refl), live-is records_later server ∙ server-live)

  -- ---- with all of them Ready, before and afterwards

  -- who is in the queue has a status
  has-status : (u : ℕ) → Contains queue u → (status : Status) × (status_of s.records u ≡ Some status)
  has-status u c = by (status_of s.records u) refl
    where
      by : (o : Option Status) → status_of s.records u ≡ o → (status : Status) × (status_of s.records u ≡ Some status)
      by (Some status) at = (status, at)
      by None at = let never : None ≡ Some (ToMutex (holder_of s.limits port)) =
          sym (lend-is s.limits s.records u ∙ ap (option_map (lend_of s.limits)) at) ∙ of-queue u c in cc

  absent : (u : ℕ) → ¬ Contains queue u → IsAbsent queue u
  absent u out place at = out (contains-at queue place u at)

  ready-in : (records : List Record) (u : ℕ) (status : Status) → status_of records u ≡ Some status → Contains queue u
      → status_of (change_each made_ready records queue) u ≡ Some Ready
  ready-in records u status is c =
      let (place, at) = place-in queue u c in
      each-now made_ready Ready (λ r. refl) records queue place u status at is

  ready-out : (records : List Record) (u : ℕ) → ¬ Contains queue u
      → status_of (change_each made_ready records queue) u ≡ status_of records u
  ready-out records u out = each-other made_ready records queue u (absent u out)

  -- a thread is in the queue or not
  told : (u : ℕ) → Contains queue u ⊎ (¬ Contains queue u)
  told u = by (at_number (funding_of s).lends u) refl
    where
      by : (o : Option Lend) → at_number (funding_of s).lends u ≡ o → Contains queue u ⊎ (¬ Contains queue u)
      by None is = inr (λ c. let never : None ≡ Some (ToMutex (holder_of s.limits port)) = sym is ∙ of-queue u c in cc)
      by (Some Nobody) is =
          inr (λ c. let never : Some Nobody ≡ Some (ToMutex (holder_of s.limits port)) = sym is ∙ of-queue u c in cc)
      by (Some (ToThread w)) is = inr
          (λ c. let never : Some (ToThread w) ≡ Some (ToMutex (holder_of s.limits port)) = sym is ∙ of-queue u c in cc)
      by (Some (ToMutex m)) is = at (cases_eq m (holder_of s.limits port))
        where
          at : (m ≡ holder_of s.limits port) ⊎ (¬ (m ≡ holder_of s.limits port))
              → Contains queue u ⊎ (¬ Contains queue u)
          at (inl same) = inl (in-queue u (is ∙ ap (λ n. Some (ToMutex n)) same))
          at (inr differs) = inr (λ c. let both : Some (ToMutex m) ≡ Some (ToMutex (holder_of s.limits port)) = sym is
              ∙ of-queue u c in let same : m ≡ holder_of s.limits port = cc in differs same)

  -- a status that is told of is the same, with all of them Ready
  status-same : {A : Type 0} (tell : Status → A)
      → option_map tell (status_of records_later server) ≡ Some (tell (Running p before)) → (u : ℕ)
      → option_map tell (status_of ready_later.records u) ≡ option_map tell (status_of ready.records u)
  status-same tell goes_on u = by (told u)
    where
      rest : ¬ Contains queue u → (u ≡ server) ⊎ (¬ (u ≡ server))
          → option_map tell (status_of records_later u) ≡ option_map tell (status_of s.records u)
      rest out (inl same) =
          ap (λ x. option_map tell (status_of records_later x)) same ∙ goes_on ∙ sym (ap (option_map tell) runs)
          ∙ ap (λ x. option_map tell (status_of s.records x)) (sym same)
      rest out (inr differs) =
          ap (option_map tell) (other-now u (λ same. out (subst (Contains queue) (sym same) caller-in)) differs)

      by : Contains queue u ⊎ (¬ Contains queue u)
          → option_map tell (status_of ready_later.records u) ≡ option_map tell (status_of ready.records u)
      by (inl c) =
          let after = lends-by later u server (lent-now u c) in
          let first = has-status u c in
          ap (option_map tell)
          (ready-in records_later u after.0 after.1 c ∙ sym (ready-in s.records u first.0 first.1 c))
      by (inr out) = ap (option_map tell) (ready-out records_later u out) ∙ rest out (cases_eq u server)
          ∙ sym (ap (option_map tell) (ready-out s.records u out))

  lend-same : (u : ℕ) → at_number (funding_of ready_later).lends u ≡ at_number (funding_of ready).lends u
  lend-same u =
      lend-is s.limits ready_later.records u
      ∙ status-same (lend_of s.limits) server-lend u ∙ sym (lend-is s.limits ready.records u)

  lives-same : (u : ℕ) → at_number (live_of ready_later) u ≡ at_number (live_of ready) u
  lives-same u =
      live-is ready_later.records u
      ∙ status-same is_live_status server-live u ∙ sym (live-is ready.records u)

  -- nobody lends to the port then
  none-left : (u : ℕ) → ¬ (at_number (funding_of ready).lends u ≡ Some (ToMutex (holder_of s.limits port)))
  none-left u is = by (told u)
    where
      by : Contains queue u ⊎ (¬ Contains queue u) → ⊥
      by (inl c) =
          let first = has-status u c in
          let never : Some Nobody ≡ Some (ToMutex (holder_of s.limits port)) =
          sym (lend-is s.limits ready.records u
          ∙ ap (option_map (lend_of s.limits)) (ready-in s.records u first.0 first.1 c)) ∙ is in cc
      by (inr out) =
          out (in-queue u (lend-is s.limits s.records u ∙ ap (option_map (lend_of s.limits))
          (sym (ready-out s.records u out)) ∙ sym (lend-is s.limits ready.records u) ∙ is))

  to-same : (u : ℕ) → borrower_of (funding_of ready_later) u ≡ borrower_of (funding_of ready) u
  to-same u =
      ap (option_and_then (borrower (funding_of ready_later))) (lend-same u)
      ∙ by (at_number (funding_of ready).lends u) refl
    where
      by : (o : Option Lend) → at_number (funding_of ready).lends u ≡ o
          → option_and_then (borrower (funding_of ready_later)) o
          ≡ option_and_then (borrower (funding_of ready)) o
      by None is = refl
      by (Some Nobody) is = refl
      by (Some (ToThread w)) is = refl
      by (Some (ToMutex m)) is = owner-other m (λ same. none-left u (is ∙ ap (λ n. Some (ToMutex n)) same))

  as-many : length ready_later.records ≡ length ready.records
  as-many =
      each-length made_ready records_later queue
      ∙ change-length (λ r. with_ticks (ran + 1) (after_trap GoesOn p used s.limits r)) (taken s caller server) server
      ∙ change-length (λ r. record r { status = Served server }) s.records caller
      ∙ sym (each-length made_ready s.records queue)

  -- so each thread is worth the same
  ready-same : (v : ℕ) → value_of ready_later v ≡ value_of ready v
  ready-same v =
      let was = with_ready_each s queue in
      let is = with_ready_each later queue in
      same-worth (funding_of was) (funding_of is).lends (funding_of is).owners (live_of was) (live_of is)
      (length-map is.records (λ (r : Record). lend_of s.limits r.status) ∙ as-many
      ∙ sym (length-map was.records (λ (r : Record). lend_of s.limits r.status)))
      (each-cycle queue s no_cycle) (each-cycle queue later no_cycle_now)
      funds_there to-same lives-same s.limits.unit v

  ready-together : live_value ready_later ≡ live_value ready
  ready-together =
      let was = with_ready_each s queue in
      let is = with_ready_each later queue in
      sum-filter (value_of is) (is_live (live_of is)) (numbers is.records)
      ∙ ap (λ n. sum_by (λ u. cond (is_live (live_of is) u) (value_of is u) 0) (range_with_len 1 n)) as-many
      ∙ sum-same (λ u. cond (is_live (live_of is) u) (value_of is u) 0)
      (λ u. cond (is_live (live_of was) u) (value_of was u) 0) (numbers was.records)
      (λ u. ap (λ (o : Option Bool). cond (option_any (λ flag. flag) o) (value_of is u) 0) (lives-same u)
      ∙ ap (λ w. cond (is_live (live_of was) u) w 0) (ready-same u))
      ∙ sym (sum-filter (value_of was) (is_live (live_of was)) (numbers was.records))

  -- ---- what moves

  worth-now : (v : ℕ) → value_of later v ≡ value_of ready_later v + cond (lends_lead (funding_of later) server v)
      (sum_by (value_of later) queue) 0
  worth-now = each-worth queue later server no_cycle_now funds_there server-backed queue-apart lent-now

  -- who is in the queue is worth what it is worth if all are Ready
  queue-keeps : (u : ℕ) → Contains queue u → value_of later u ≡ value_of ready u
  queue-keeps u c = none-comes (lends_lead (funding_of later) server u) _ _ _ (worth-now u)
      (not-back (funding_of later) u server no_cycle_now (lent-now u c)) ∙ ready-same u

  server-only : (v : ℕ) → lends_lead (funding_of later) server v ≡ (v == server)
  server-only v = by (cases_eq v server)
    where
      by : (v ≡ server) ⊎ (¬ (v ≡ server)) → lends_lead (funding_of later) server v ≡ (v == server)
      by (inl same) =
          ap (lends_lead (funding_of later) server) same ∙ lead-itself (funding_of later) server no_cycle_now
          ∙ sym (eq-eqb v server same)
      by (inr differs) = lead-other (funding_of later) server v no_cycle_now server-alone_now differs
          ∙ sym (ne_eqb v server differs)

  -- the new server has what all of them are worth if they are Ready
  pub gathers : (v : ℕ) → value_of later v ≡ value_of ready v + cond (v == server) (sum_by (value_of ready) queue) 0
  gathers v =
      worth-now v
      ∙ ap (λ w. w + cond (lends_lead (funding_of later) server v) (sum_by (value_of later) queue) 0) (ready-same v)
      ∙ ap (λ w. value_of ready v + cond (lends_lead (funding_of later) server v) w 0)
      (sum-listed (value_of later) (value_of ready) queue queue-keeps)
      ∙ ap (λ on. value_of ready v + cond on (sum_by (value_of ready) queue) 0) (server-only v)

  pub gathered-together : live_value later ≡ live_value ready
  gathered-together = each-together queue later server no_cycle_now funds_there server-backed queue-apart lent-now
      ∙ ready-together

  -- ---- what moves, if the server before is backed

  module _ (old : ℕ) (old_is : was ≡ Some old) (backed : IsBacked (funding_of s) (live_of s) old) where
    lent-old : (u : ℕ) → Contains queue u → LendsTo (funding_of s) u old
    lent-old u c = ap (option_and_then (borrower (funding_of s))) (of-queue u c) ∙ ap option_flatten held ∙ old_is

    worth-before : (v : ℕ)
        → value_of s v ≡ value_of ready v + cond (lends_lead (funding_of s) old v) (sum_by (value_of s) queue) 0
    worth-before = each-worth queue s old no_cycle funds_there backed queue-apart lent-old

    same-queue : sum_by (value_of ready) queue ≡ sum_by (value_of s) queue
    same-queue =
        sum-listed (value_of ready) (value_of s) queue
        (λ u c. sym (none-comes (lends_lead (funding_of s) old u) _ _ _ (worth-before u)
        (not-back (funding_of s) u old no_cycle (lent-old u c))))

    pub moves : (v : ℕ) → value_of later v + cond (lends_lead (funding_of s) old v)
        (sum_by (value_of s) queue) 0 ≡ value_of s v + cond (v == server) (sum_by (value_of s) queue) 0
    moves v = omega (arith, gathers v, worth-before v, ap (λ w. cond (v == server) w 0) same-queue)

    pub moved-together : live_value later ≡ live_value s
    moved-together = gathered-together
        ∙ sym (each-together queue s old no_cycle funds_there backed queue-apart lent-old)

-- the holder of a server has it
pub holder-held : (s : State) (port old : ℕ) → owner_of (funding_of s) (holder_of s.limits port) ≡ Some old
    → at_number (map (λ (x : Mutex). x.owner) s.mutexes) (holder_of s.limits port) ≡ Some (Some old)
holder-held s port old is =
    flatten-some (at_number (map (λ (x : Mutex). x.owner) s.mutexes) (holder_of s.limits port)) old is

-- ---- the event

-- the first of a port's calls is queued there
pub first-queued : (s : State) → HasQueues s.records s.clients s.ports s.mutexes → (port caller : ℕ)
    (first : QueuedCall) (others : List QueuedCall) → at_number s.ports port ≡ Some (port_at s.ports port)
    → (port_at s.ports port).calls ≡ first ∷ others → first.caller ≡ caller
    → status_of s.records caller ≡ Some (QueuedAt port)
first-queued s queues port caller first others there calls caller_is =
    let queue : IsQueue s.records (QueuedAt port) (map (λ (c : QueuedCall). c.caller) (first ∷ others)) =
    subst (λ cs. IsQueue s.records (QueuedAt port) (map (λ (c : QueuedCall). c.caller) cs)) calls
    (queues.callers port (port_at s.ports port) there) in
    queue.each 0 caller (ap Some caller_is)

-- what holds of the state then, if it holds of each state after such a receipt
pub after-receipt : (P : State → Type 0) (s : State) (e : Event) (port caller server : ℕ) → IsInOrder s
    → TakesCallAt s e port caller server
    → ((p ran used before : ℕ) (others : List QueuedCall) → status_of s.records server ≡ Some (Running p before)
    → status_of s.records caller ≡ Some (QueuedAt port) → HasNoCycle
    (funding_of (moved s p ran used port others caller server)) → P (moved s p ran used port others caller server))
    → P (step s e).state
after-receipt P s e port caller server order (p, ran, number, ticks, ends, is, replied) holds =
    by (trap-done s p ran (Receive port) server ticks (Received caller number) ends (λ refusal same. cc)
    (ap (λ x. (step s x).reply) (sym is) ∙ replied))
  where
    by : IsDone s p ran (Receive port) server (Received caller number) (step s (Trap p ran (Receive port))).state
        → P (step s e).state
    by done =
        let got = receive s.records s.clients s.ports server port in
        let serves : served_at s server port got.outcome ≡ with_server s.limits s.mutexes port (Some server) =
        ap (served_at s server port) done.came in
        let (first, others, calls, caller_is, state) =
        call-received s p ran done.used port number caller server done.came in
        let here : (step s e).state ≡ moved s p ran done.used port others caller server =
        ap (λ x. (step s x).state) is ∙ done.state
        ∙ ap (λ mutexes. (finish_trap s p server (ran + 1) done.used
        (record { state = record (of_ports s got).state { mutexes = mutexes }; outcome = got.outcome; after = got.after })).state) serves
        ∙ ap (λ (x : State). record x { mutexes = with_server s.limits s.mutexes port (Some server) }) state in
        let now : HasNoCycle (funding_of (step s e).state) = (step-order s e order).no_cycle in
        subst P (sym here) (holds p ran done.used done.before others done.runs (first-queued s order.queues port caller
        first others (port-there s port (all-pass ((is_none (at_number s.ports port), NoPort) ∷ []) done.passed).0)
        calls caller_is) (subst (λ x. HasNoCycle (funding_of x)) here now))

module _ (s : State) (e : Event) (port caller server old : ℕ) (order : IsInOrder s) (lends : LendsQueued s)
    (takes : TakesCallAt s e port caller server) (serves : Serves s port old)
    (backed : IsBacked (funding_of s) (live_of s) old) where
  -- what the old server and those behind it lose, and the new one gains
  worth-moves : (v : ℕ) → value_of (step s e).state v + cond (lends_lead (funding_of s) old v)
      (port_value s port) 0 ≡ value_of s v + cond (v == server) (port_value s port) 0
  worth-moves v =
      after-receipt (λ x. value_of x v + cond (lends_lead (funding_of s) old v) (port_value s port) 0
      ≡ value_of s v + cond (v == server) (port_value s port) 0) s e port caller server order takes
      (λ p ran used before others runs queued now. moves s order.no_cycle order.funds_there lends p ran used before port
      caller server others runs queued serves.0 (Some old) (holder-held s port old serves.1)
      (waiters_for (funding_of s) (holder_of s.limits port)) (waiters-apart (funding_of s) (holder_of s.limits port))
      (waiters-in (funding_of s) (holder_of s.limits port))
      (waiters-of (funding_of s) (holder_of s.limits port)) now old refl backed v)

  leads : (v : ℕ) → LendsLead (funding_of s) old v → lends_lead (funding_of s) old v ≡ true
  leads v = (lends_lead-exact (funding_of s) order.no_cycle.lends old v).1

  leads-not : (v : ℕ) → ¬ LendsLead (funding_of s) old v → lends_lead (funding_of s) old v ≡ false
  leads-not v off = by (lends_lead (funding_of s) old v) refl
    where
      by : (b : Bool) → lends_lead (funding_of s) old v ≡ b → b ≡ false
      by false is = refl
      by true is = absurd (off ((lends_lead-exact (funding_of s) order.no_cycle.lends old v).0 is))

  counted : (v : ℕ) (on same : Bool) → lends_lead (funding_of s) old v ≡ on → (v == server) ≡ same
      → value_of (step s e).state v + cond on (port_value s port) 0 ≡ value_of s v + cond same (port_value s port) 0
  counted v on same led is = sym (ap (λ b. value_of (step s e).state v + cond b (port_value s port) 0) led)
      ∙ worth-moves v ∙ ap (λ b. value_of s v + cond b (port_value s port) 0) is

  pub server-gains : ¬ LendsLead (funding_of s) old server
      → value_of (step s e).state server ≡ value_of s server + port_value s port
  server-gains off = omega (arith, counted server false true (leads-not server off) (eq-eqb server server refl))

  pub server-keeps : LendsLead (funding_of s) old server → value_of (step s e).state server ≡ value_of s server
  server-keeps on = omega (arith, counted server true true (leads server on) (eq-eqb server server refl))

  pub behind-loses : (v : ℕ) → LendsLead (funding_of s) old v → v ≢ server
      → value_of s v ≡ value_of (step s e).state v + port_value s port
  behind-loses v on differs = omega (arith, counted v true false (leads v on) (ne_eqb v server differs))

  pub others-keep : (v : ℕ) → ¬ LendsLead (funding_of s) old v → v ≢ server → value_of (step s e).state v ≡ value_of s v
  others-keep v off differs = omega (arith, counted v false false (leads-not v off) (ne_eqb v server differs))

  pub together-same : live_value (step s e).state ≡ live_value s
  together-same =
      after-receipt (λ x. live_value x ≡ live_value s) s e port caller server order takes
      (λ p ran used before others runs queued now.
      moved-together s order.no_cycle order.funds_there lends p ran used before port caller server others runs queued
      serves.0 (Some old) (holder-held s port old serves.1) (waiters_for (funding_of s) (holder_of s.limits port))
      (waiters-apart (funding_of s) (holder_of s.limits port)) (waiters-in (funding_of s) (holder_of s.limits port))
      (waiters-of (funding_of s) (holder_of s.limits port)) now old refl backed)
