-- A call taken at once, with `queued_lend`: no call is queued at the port, so its new server gets only this caller's
-- value.
use Rattle.lot_laws.proofs.Common.{Bool, Call, Event, HasNoCycle, IsInOrder, IsReachable, Leaves, Lend, LendsQueued, List, Mutex, NoPort, Nobody, None, Option, OwnsNothing, Ready, Receiving, Record, Running, Served, ServedBy, Some, State, TakesCall, ToMutex, ToThread, Trap, after_trap, all-pass, ap, arith, at_number, borrower, borrower_of, call, cases_eq, cond, finish_trap, funding_of, held_by, holder_of, if◌then◌else◌, inl, inr, is_live, is_none, lend_of, live_of, live_value, map, number-set, number-there, numbers, of_ports, option_and_then, option_flatten, option_map, owner_of, owners-set, port_at, refl, served_at, set_number, slice_get, status-now, status-other, status_of, step, step-order, subst, suc, sum-filter, sum-same, sym, value_of, with_server, with_ticks, ℕ, [], ◌+◌, ◌-◌, ◌∙◌, ◌∷◌, ◌≡◌, ◌≢◌, ◌≤◌, ◌⊎◌}
use Rattle.lot_laws.proofs.Trapped.{IsDone, trap-done, lend-is}
use Rattle.lot_laws.proofs.Lending.{same-worth, untangled-same}
use Rattle.lot_laws.proofs.CallTaken.{port-there, woken, left, called, call-taken, call-server, call-others, call-together}
use Rattle.lot_laws.proofs.PortQueues.{reachable-order, never-both, lender-queued}

-- the state after a call was taken by the port's new server
abbrev served : State → ℕ → ℕ → ℕ → ℕ → ℕ → List ℕ → ℕ → ℕ → State
served s p ran used port number others server caller = record (called s p ran used port number others server
    caller) { mutexes = with_server s.limits s.mutexes port (Some server) }

module _ (s : State) (reachable : IsReachable s) (lends : LendsQueued s)
    (p ran used before port number server caller : ℕ) (others : List ℕ)
    (runs : status_of s.records caller ≡ Some (Running p before))
    (there : at_number s.ports port ≡ Some (port_at s.ports port))
    (receivers : (port_at s.ports port).receivers ≡ server ∷ others) (owns : OwnsNothing s server)
    (no_cycle_now : HasNoCycle (funding_of (served s p ran used port number others server caller))) where
  -- the state afterwards, and that without the port's new server
  abbrev later : State
  later = served s p ran used port number others server caller

  abbrev without : State
  without = called s p ran used port number others server caller

  abbrev records_later : List Record
  records_later = left s p ran used number server caller

  order : IsInOrder s
  order = reachable-order s reachable

  receives : status_of s.records server ≡ Some (Receiving port)
  receives = (order.queues.receivers port (port_at s.ports port) there).each 0 server
      (ap (λ (ts : List ℕ). slice_get ts 0) receivers)

  apart : ¬ (caller ≡ server)
  apart same =
      let both : Some (Running p before) ≡ Some (Receiving port) = sym runs ∙ ap (status_of s.records) same
      ∙ receives in cc

  least : 1 ≤ port
  least = omega (arith, number-there s.ports port (port_at s.ports port) there)

  caller-now : status_of records_later caller ≡ Some (Served server)
  caller-now =
      status-now (λ r. with_ticks (ran + 1) (after_trap (Leaves (Served server)) p used s.limits r))
      (woken s number server) caller (Running p before) (Served server)
      (status-other (λ r. record r { status = Ready; delivered = Some number }) s.records server caller apart ∙ runs)
      (λ r. refl)

  server-now : status_of records_later server ≡ Some Ready
  server-now =
      status-other (λ r. with_ticks (ran + 1) (after_trap (Leaves (Served server)) p used s.limits r))
      (woken s number server) caller server (λ same. apart (sym same))
      ∙ status-now (λ r. record r { status = Ready; delivered = Some number }) s.records server
      (Receiving port) Ready receives (λ r. refl)

  other-now : (u : ℕ) → u ≢ caller → u ≢ server → status_of records_later u ≡ status_of s.records u
  other-now u first second =
      status-other (λ r. with_ticks (ran + 1) (after_trap (Leaves (Served server)) p used s.limits r))
      (woken s number server) caller u first
      ∙ status-other (λ r. record r { status = Ready; delivered = Some number }) s.records server u second

  -- nobody lends to the port then
  none-lends : (u : ℕ) → ¬ (at_number (funding_of without).lends u ≡ Some (ToMutex (holder_of s.limits port)))
  none-lends u is = by (cases_eq u caller) (cases_eq u server)
    where
      told : option_map (lend_of s.limits) (status_of records_later u) ≡ Some (ToMutex (holder_of s.limits port))
      told = sym (lend-is s.limits records_later u) ∙ is

      by : (u ≡ caller) ⊎ (¬ (u ≡ caller)) → (u ≡ server) ⊎ (¬ (u ≡ server)) → ⊥
      by (inl same) which =
          let never : Some (ToThread server) ≡ Some (ToMutex (holder_of s.limits port)) =
          sym (ap (λ x. option_map (lend_of s.limits) (status_of records_later x)) same
          ∙ ap (option_map (lend_of s.limits)) caller-now
          ∙ ap (λ (without : Bool). Some (if without then Nobody else ToThread server)) lends.0) ∙ told in cc
      by (inr differs) (inl same) =
          let never : Some Nobody ≡ Some (ToMutex (holder_of s.limits port)) =
          sym (ap (λ x. option_map (lend_of s.limits) (status_of records_later x)) same
          ∙ ap (option_map (lend_of s.limits)) server-now) ∙ told in cc
      by (inr differs) (inr other) =
          never-both s u server port reachable
          (lender-queued s port reachable least u (lend-is s.limits s.records u
          ∙ ap (option_map (lend_of s.limits)) (sym (other-now u differs other)) ∙ told)) receives

  owner-other : (m : ℕ) → m ≢ holder_of s.limits port → owner_of (funding_of later) m ≡ owner_of (funding_of s) m
  owner-other m differs =
      ap (λ (on : Bool). option_flatten (at_number (map (λ (x : Mutex). x.owner)
      (if on then set_number s.mutexes (holder_of s.limits port) (held_by (Some server)) else s.mutexes)) m)) lends.1
      ∙ ap (λ owners. option_flatten (at_number owners m))
      (owners-set s (holder_of s.limits port) (held_by (Some server)))
      ∙ by (number-set (map (λ (x : Mutex). x.owner) s.mutexes) (holder_of s.limits port) (Some server) m)
    where
      holder-is : suc (holder_of s.limits port - 1) ≡ holder_of s.limits port
      holder-is = omega (arith, least)

      by : (at_number (set_number (map (λ (x : Mutex). x.owner) s.mutexes) (holder_of s.limits port) (Some server)) m
          ≡ at_number (map (λ (x : Mutex). x.owner) s.mutexes) m)
          ⊎ ((m ≡ suc (holder_of s.limits port - 1)) × (at_number (set_number (map (λ (x : Mutex). x.owner) s.mutexes)
          (holder_of s.limits port) (Some server)) m ≡ Some (Some server)))
          → option_flatten
          (at_number (set_number (map (λ (x : Mutex). x.owner) s.mutexes) (holder_of s.limits port) (Some server)) m)
          ≡ owner_of (funding_of s) m
      by (inl same) = ap option_flatten same
      by (inr (at, is)) = absurd (differs (at ∙ holder-is))

  to-same : (u : ℕ) → borrower_of (funding_of later) u ≡ borrower_of (funding_of without) u
  to-same u = by (at_number (funding_of without).lends u) refl
    where
      by : (o : Option Lend) → at_number (funding_of without).lends u ≡ o
          → option_and_then (borrower (funding_of later)) o ≡ option_and_then (borrower (funding_of without)) o
      by None is = refl
      by (Some Nobody) is = refl
      by (Some (ToThread w)) is = refl
      by (Some (ToMutex m)) is = owner-other m (λ same. none-lends u (is ∙ ap (λ n. Some (ToMutex n)) same))

  called-cycle : HasNoCycle (funding_of without)
  called-cycle =
      untangled-same (funding_of without) (funding_of without).lends (funding_of later).owners to-same no_cycle_now

  worth-same : (v : ℕ) → value_of later v ≡ value_of without v
  worth-same v =
      let was = without in
      same-worth (funding_of was) (funding_of was).lends (funding_of later).owners (live_of was)
      (live_of was) refl called-cycle no_cycle_now order.funds_there to-same (λ u. refl) s.limits.unit v

  pub alone-server : value_of later server ≡ value_of s caller
  alone-server = worth-same server ∙ call-server s order lends.0 p ran used before port number server caller others runs
      there receivers owns called-cycle

  pub alone-others : (v : ℕ) → v ≢ server → value_of later v ≡ value_of s v
  alone-others v differs = worth-same v ∙ call-others s order lends.0 p ran used before port number server caller others
      runs there receivers owns called-cycle v differs

  pub alone-together : live_value later ≡ live_value s
  alone-together =
      let was = without in
      let is = later in
      sum-filter (value_of is) (is_live (live_of is)) (numbers is.records)
      ∙ sum-same (λ u. cond (is_live (live_of is) u) (value_of is u) 0) (λ u. cond (is_live (live_of was) u)
      (value_of was u) 0) (numbers was.records) (λ u. ap (λ w. cond (is_live (live_of was) u) w 0) (worth-same u))
      ∙ sym (sum-filter (value_of was) (is_live (live_of was)) (numbers was.records))
      ∙ call-together s order lends.0 p ran used before port number server caller others runs there receivers owns
      called-cycle

-- ---- the event

after-call : (P : State → Type 0) (s : State) (e : Event) (caller server : ℕ) → IsInOrder s
    → TakesCall s e caller server
    → ((p ran used before port number : ℕ) (others : List ℕ) → status_of s.records caller ≡ Some (Running p before)
    → at_number s.ports port ≡ Some (port_at s.ports port)
    → (port_at s.ports port).receivers ≡ server ∷ others
    → HasNoCycle (funding_of (served s p ran used port number others server caller))
    → P (served s p ran used port number others server caller))
    → P (step s e).state
after-call P s e caller server order (p, ran, port, number, ticks, ends, is, replied) holds =
    by (trap-done s p ran (Call port number) caller ticks (ServedBy server) ends (λ refusal same. cc)
    (ap (λ x. (step s x).reply) (sym is) ∙ replied))
  where
    by : IsDone s p ran (Call port number) caller (ServedBy server) (step s (Trap p ran (Call port number))).state
        → P (step s e).state
    by done =
        let taken = call s.records s.clients s.ports caller port number in
        let serves : served_at s caller port taken.outcome ≡ with_server s.limits s.mutexes port (Some server) =
        ap (served_at s caller port) done.came in
        let (others, receivers, state) = call-taken s p ran done.used port number caller server done.came in
        let here : (step s e).state ≡ served s p ran done.used port number others server caller =
        ap (λ x. (step s x).state) is ∙ done.state
        ∙ ap (λ mutexes. (finish_trap s p caller (ran + 1) done.used
        (record { state = record (of_ports s taken).state { mutexes = mutexes }; outcome = taken.outcome; after = taken.after })).state) serves
        ∙ ap (λ (x : State). record x { mutexes = with_server s.limits s.mutexes port (Some server) }) state in
        let now : HasNoCycle (funding_of (step s e).state) = (step-order s e order).no_cycle in
        subst P (sym here) (holds p ran done.used done.before port number others done.runs
        (port-there s port (all-pass ((is_none (at_number s.ports port), NoPort) ∷ []) done.passed).0) receivers
        (subst (λ x. HasNoCycle (funding_of x)) here now))

pub server-gets : (s : State) (e : Event) (caller server : ℕ) → IsReachable s → LendsQueued s
    → TakesCall s e caller server → OwnsNothing s server → value_of (step s e).state server ≡ value_of s caller
server-gets s e caller server reachable lends takes owns =
    after-call (λ x. value_of x server ≡ value_of s caller) s e caller server (reachable-order s reachable) takes
    (λ p ran used before port number others runs there receivers now.
    alone-server s reachable lends p ran used before port number server caller others runs there receivers owns now)

pub others-keep : (s : State) (e : Event) (caller server other : ℕ) → IsReachable s → LendsQueued s
    → TakesCall s e caller server → OwnsNothing s server → other ≢ server
    → value_of (step s e).state other ≡ value_of s other
others-keep s e caller server other reachable lends takes owns differs =
    after-call (λ x. value_of x other ≡ value_of s other) s e caller server (reachable-order s reachable) takes
    (λ p ran used before port number others runs there receivers now. alone-others s reachable lends p ran used before
    port number server caller others runs there receivers owns now other differs)

pub together-same : (s : State) (e : Event) (caller server : ℕ) → IsReachable s → LendsQueued s
    → TakesCall s e caller server → OwnsNothing s server → live_value (step s e).state ≡ live_value s
together-same s e caller server reachable lends takes owns =
    after-call (λ x. live_value x ≡ live_value s) s e caller server (reachable-order s reachable) takes
    (λ p ran used before port number others runs there receivers now.
    alone-together s reachable lends p ran used before port number server caller others runs there receivers owns now)
