-- A reply and the receipt of a queued call in one trap, with `queued_lend`: the values of threads afterwards.
use Rattle.lot_laws.proofs.Common.{Bool, Event, Funding, HasNoCycle, IsBacked, IsInOrder, IsLendChain, LendsLead, LendsQueued, LendsTo, List, NoPort, Nobody, None, NothingToReply, QueuedCall, Ready, Record, RepliedThenReceived, Running, Serve, Served, Serves, ServesNextAt, Some, State, ToThread, Trap, all-pass, ap, arith, at_number, borrower_of, cases_eq, change-length, clients_of, cond, drop, eq-eqb, false, finish_trap, first_client, funding_of, holder_of, inl, inr, is_none, is_to_mutex, lend_of, lends-of, lends_lead, lends_lead-exact, length, length-map, live_of, live_value, ne_eqb, numbers, of_ports, option_any, option_map, port_value, queue-clients, range_with_len, refl, serve, served_at, set_number, some-injective, status-now, status-other, status_of, step, step-order, subst, sum-filter, sum-same, sum_by, sym, true, value_of, waiters_for, with_server, ℕ, [], ◌+◌, ◌==◌, ◌∙◌, ◌∷◌, ◌≡◌, ◌≢◌, ◌⊎◌}
use Rattle.lot_machine.specs.declared.record.Status.TheVariants.{Queued as QueuedAt}
use Rattle.lot_laws.proofs.Trapped.{IsDone, trap-done, lend-is}
use Rattle.lot_laws.proofs.Lending.{leads-itself}
use Rattle.lot_laws.proofs.Blocked.{lead-itself, lead-other, lends-nobody, is-live, served-lends}
use Rattle.lot_laws.proofs.CallTaken.{port-there}
use Rattle.lot_laws.proofs.Replied.{woken, caller-first}
use Rattle.lot_laws.proofs.Served.{serve-receives}
use Rattle.lot_laws.proofs.LendersReady.{ready-cycle, ready-alone, ready-lends, ready-backed, ready-worth, ready-together, lender-keeps, chain-before, chain-then, lead-then}
use Rattle.lot_laws.proofs.QueueMoves.{moved, moves, moved-together, holder-held, first-queued}
use Rattle.lot_laws.proofs.MutexWaiters.{waiters-of, waiters-in, waiters-apart}

-- a caller that gets its reply
abbrev pub answered : ℕ → Record → Record
answered number r = record r { status = Ready; delivered = Some number }

-- the state between the reply and the receipt
abbrev pub between : State → ℕ → ℕ → ℕ → State
between s number caller server =
    record s { records = woken s number caller; clients = set_number s.clients server (drop 1 (clients_of s.clients server)) }

-- of two chains from one thread that end at threads which lend to nobody, both end at the same
ends-same : (f : Funding) (u : ℕ) (chain : List ℕ) (v : ℕ) (other : List ℕ) (w : ℕ) → borrower_of f v ≡ None
    → borrower_of f w ≡ None → IsLendChain f u chain v → IsLendChain f u other w → v ≡ w
ends-same f u [] v other w v_alone w_alone is also =
    leads-itself f v w v_alone (other, subst (λ x. IsLendChain f x other w) is also)
ends-same f u (x ∷ rest) v [] w v_alone w_alone is also = let never : None ≡ Some x = sym w_alone
    ∙ ap (borrower_of f) (sym also) ∙ is.0 in cc
ends-same f u (x ∷ rest) v (y ∷ more) w v_alone w_alone is also =
    let same : y ≡ x = some-injective y x (sym also.0 ∙ is.0) in
    ends-same f x rest v more w v_alone w_alone is.1 (subst (λ z. IsLendChain f z more w) same also.1)

module _ (s : State) (order : IsInOrder s) (lends : LendsQueued s)
    (p ran used before port number caller next server old : ℕ) (others : List QueuedCall)
    (runs : status_of s.records server ≡ Some (Running p before)) (first : first_client s.clients server ≡ Some caller)
    (queued : status_of s.records next ≡ Some (QueuedAt port))
    (serves : Serves s port old) (backed : IsBacked (funding_of s) (live_of s) old)
    (no_cycle_now : HasNoCycle
    (funding_of (moved (between s number caller server) p ran used port others next server))) where
  -- the states between the reply and the receipt, and afterwards
  abbrev middle : State
  middle = between s number caller server

  abbrev later : State
  later = moved middle p ran used port others next server

  served : status_of s.records caller ≡ Some (Served server)
  served = (queue-clients s.records s.clients s.ports s.mutexes order.queues server).each 0 caller first

  caller-server : ¬ (caller ≡ server)
  caller-server same =
      let both : Running p before ≡ Served server =
      some-injective (Running p before) (Served server) (sym runs ∙ ap (status_of s.records) (sym same) ∙ served) in cc

  next-caller : ¬ (next ≡ caller)
  next-caller same =
      let both : Served server ≡ QueuedAt port =
      some-injective (Served server) (QueuedAt port) (sym served ∙ ap (status_of s.records) (sym same) ∙ queued) in cc

  server-alone : borrower_of (funding_of s) server ≡ None
  server-alone = lends-nobody s server (Running p before) runs refl

  lent : LendsTo (funding_of s) caller server
  lent = lends-of s caller server (Served server) served (served-lends s server lends.0)

  runs-between : status_of (woken s number caller) server ≡ Some (Running p before)
  runs-between = status-other (answered number) s.records caller server (λ same. caller-server (sym same)) ∙ runs

  queued-between : status_of (woken s number caller) next ≡ Some (QueuedAt port)
  queued-between = status-other (answered number) s.records caller next next-caller ∙ queued

  caller-between : status_of (woken s number caller) caller ≡ Some Ready
  caller-between = status-now (answered number) s.records caller (Served server) Ready served (λ r. refl)

  cycle-between : HasNoCycle (funding_of middle)
  cycle-between = ready-cycle (answered number) (λ r. refl) s caller server order.no_cycle order.funds_there lent

  backed-between : IsBacked (funding_of middle) (live_of middle) old
  backed-between =
      ready-backed (answered number) (λ r. refl) s caller server order.no_cycle order.funds_there lent old backed

  -- ---- the reply: the server is worth less by what the caller is worth

  answers : (v : ℕ) → value_of s v ≡ value_of middle v + cond (v == server) (value_of s caller) 0
  answers v =
      ready-worth (answered number) (λ r. refl) s caller server order.no_cycle order.funds_there lent server-backed v
      ∙ ap (λ w. value_of middle v + cond (lends_lead (funding_of s) server v) w 0) (sym (lender-keeps (answered number)
      (λ r. refl) s caller server order.no_cycle order.funds_there lent server-backed caller lent))
      ∙ ap (λ on. value_of middle v + cond on (value_of s caller) 0) (by (cases_eq v server))
    where
      server-backed : IsBacked (funding_of s) (live_of s) server
      server-backed = (server, ([], refl), is-live s.records server (Running p before) runs refl)

      by : (v ≡ server) ⊎ (¬ (v ≡ server)) → lends_lead (funding_of s) server v ≡ (v == server)
      by (inl same) = ap (lends_lead (funding_of s) server) same ∙ lead-itself (funding_of s) server order.no_cycle
          ∙ sym (eq-eqb v server same)
      by (inr differs) = lead-other (funding_of s) server v order.no_cycle server-alone differs
          ∙ sym (ne_eqb v server differs)

  other-between : (v : ℕ) → v ≢ server → value_of middle v ≡ value_of s v
  other-between v differs = omega (arith, answers v, ap (λ on. cond on (value_of s caller) 0) (ne_eqb v server differs))

  -- ---- the queue is as it was

  -- whether a thread lends to the port
  abbrev in_queue : State → ℕ → Bool
  in_queue a u = option_any (is_to_mutex (holder_of s.limits port)) (at_number (funding_of a).lends u)

  lend-of-running : in_queue s server ≡ false
  lend-of-running = ap (option_any (is_to_mutex (holder_of s.limits port)))
      (lend-is s.limits s.records server ∙ ap (option_map (lend_of s.limits)) runs)

  lend-of-served : in_queue s caller ≡ false
  lend-of-served =
      ap (option_any (is_to_mutex (holder_of s.limits port))) (lend-is s.limits s.records caller
      ∙ ap (option_map (lend_of s.limits)) served
      ∙ ap (λ (without : Bool). Some (cond without Nobody (ToThread server))) lends.0)

  lend-of-ready : in_queue middle caller ≡ false
  lend-of-ready = ap (option_any (is_to_mutex (holder_of s.limits port)))
      (lend-is s.limits (woken s number caller) caller ∙ ap (option_map (lend_of s.limits)) caller-between)

  lend-between : (u : ℕ) → u ≢ caller → in_queue middle u ≡ in_queue s u
  lend-between u differs =
      ap (option_any (is_to_mutex (holder_of s.limits port))) (lend-is s.limits (woken s number caller) u
      ∙ ap (option_map (lend_of s.limits)) (status-other (answered number) s.records caller u differs)
      ∙ sym (lend-is s.limits s.records u))

  same-port : port_value middle port ≡ port_value s port
  same-port =
      sum-filter (value_of middle) (in_queue middle) (numbers (funding_of middle).lends)
      ∙ ap (λ n. sum_by (λ u. cond (in_queue middle u) (value_of middle u) 0) (range_with_len 1 n)) as-many
      ∙ sum-same (λ u. cond (in_queue middle u) (value_of middle u) 0) (λ u. cond (in_queue s u) (value_of s u) 0)
      (numbers (funding_of s).lends) (λ u. each u (cases_eq u caller) (cases_eq u server))
      ∙ sym (sum-filter (value_of s) (in_queue s) (numbers (funding_of s).lends))
    where
      as-many : length (funding_of middle).lends ≡ length (funding_of s).lends
      as-many = length-map (woken s number caller) (λ (r : Record). lend_of s.limits r.status) ∙ change-length
          (answered number) s.records caller ∙ sym (length-map s.records (λ (r : Record). lend_of s.limits r.status))

      neither : (on off : Bool) (w x : ℕ) → on ≡ false → off ≡ false → cond on w 0 ≡ cond off x 0
      neither on off w x is also = ap (λ b. cond b w 0) is ∙ sym (ap (λ b. cond b x 0) also)

      each : (u : ℕ) → (u ≡ caller) ⊎ (¬ (u ≡ caller)) → (u ≡ server) ⊎ (¬ (u ≡ server))
          → cond (in_queue middle u) (value_of middle u) 0 ≡ cond (in_queue s u) (value_of s u) 0
      each u (inl same) which =
          neither _ _ _ _ (ap (in_queue middle) same ∙ lend-of-ready) (ap (in_queue s) same ∙ lend-of-served)
      each u (inr differs) (inl same) = neither _ _ _ _
          (lend-between u differs ∙ ap (in_queue s) same ∙ lend-of-running) (ap (in_queue s) same ∙ lend-of-running)
      each u (inr differs) (inr other) = ap (λ on. cond on (value_of middle u) 0) (lend-between u differs)
          ∙ ap (λ w. cond (in_queue s u) w 0) (other-between u other)

  -- ---- the receipt

  moves-on : (v : ℕ) → value_of later v + cond (lends_lead (funding_of middle) old v)
      (port_value s port) 0 ≡ value_of middle v + cond (v == server) (port_value s port) 0
  moves-on v =
      ap (λ q. value_of later v + cond (lends_lead (funding_of middle) old v) q 0) (sym same-port)
      ∙ moves middle cycle-between order.funds_there lends p ran used before port next server others runs-between
      queued-between serves.0 (Some old) (holder-held s port old serves.1)
      (waiters_for (funding_of middle) (holder_of s.limits port))
      (waiters-apart (funding_of middle) (holder_of s.limits port)) (waiters-in (funding_of middle)
      (holder_of s.limits port)) (waiters-of (funding_of middle) (holder_of s.limits port))
      no_cycle_now old refl backed-between v
      ∙ ap (λ q. value_of middle v + cond (v == server) q 0) same-port

  pub serving-together : live_value later ≡ live_value s
  serving-together =
      moved-together middle cycle-between order.funds_there lends p ran used before port next server others runs-between
      queued-between serves.0 (Some old) (holder-held s port old serves.1)
      (waiters_for (funding_of middle) (holder_of s.limits port))
      (waiters-apart (funding_of middle) (holder_of s.limits port)) (waiters-in (funding_of middle)
      (holder_of s.limits port)) (waiters-of (funding_of middle) (holder_of s.limits port))
      no_cycle_now old refl backed-between
      ∙ sym (ready-together (answered number) (λ r. refl) s caller server order.no_cycle order.funds_there lent
      (server, ([], refl), is-live s.records server (Running p before) runs refl))

  -- to whom the old server's lends lead between the two
  leads-on : (v : ℕ) → v ≢ server → LendsLead (funding_of s) old v → LendsLead (funding_of middle) old v
  leads-on v differs (chain, is) = lead-then (answered number)
      (λ r. refl) s caller server order.no_cycle order.funds_there lent server-alone old chain v is differs

  leads-back : (v : ℕ) → LendsLead (funding_of middle) old v → LendsLead (funding_of s) old v
  leads-back v (chain, is) =
      (chain, chain-before (answered number) (λ r. refl) s caller server order.no_cycle order.funds_there lent old chain v is)

  led : (v : ℕ) → LendsLead (funding_of middle) old v → lends_lead (funding_of middle) old v ≡ true
  led v = (lends_lead-exact (funding_of middle) cycle-between.lends old v).1

  not-led : (v : ℕ) → ¬ LendsLead (funding_of middle) old v → lends_lead (funding_of middle) old v ≡ false
  not-led v off = by (lends_lead (funding_of middle) old v) refl
    where
      by : (b : Bool) → lends_lead (funding_of middle) old v ≡ b → b ≡ false
      by false is = refl
      by true is = absurd (off ((lends_lead-exact (funding_of middle) cycle-between.lends old v).0 is))

  counted : (v : ℕ) (on same : Bool) → lends_lead (funding_of middle) old v ≡ on → (v == server) ≡ same
      → value_of later v + cond on (port_value s port) 0 + cond same (value_of s caller) 0
      ≡ value_of s v + cond same (port_value s port) 0
  counted v on same is at =
      omega (arith, moves-on v, answers v, ap (λ b. cond b (port_value s port) 0) is, ap (λ b. cond b (port_value s port) 0) at, ap (λ b. cond b (value_of s caller) 0) at)

  pub serving-gains : ¬ LendsLead (funding_of s) old server
      → value_of later server + value_of s caller ≡ value_of s server + port_value s port
  serving-gains off = omega
      (arith, counted server false true (not-led server (λ lead. off (leads-back server lead))) (eq-eqb server server refl))

  -- the caller, which gets its reply, is between them
  pub serving-frees : LendsLead (funding_of s) old caller
      → value_of later server + value_of s caller ≡ value_of s server + port_value s port
  serving-frees on = omega (arith, counted server false true (not-led server off) (eq-eqb server server refl))
    where
      off : ¬ LendsLead (funding_of middle) old server
      off (chain, is) =
          let (other, also) = leads-on caller caller-server on in
          caller-server (ends-same (funding_of middle) old other caller chain server
          (ready-alone (answered number) (λ r. refl) s caller server order.no_cycle order.funds_there lent)
          (ready-lends (answered number) (λ r. refl) s caller server order.no_cycle order.funds_there lent server
          (λ same. caller-server (sym same)) ∙ server-alone) also is)

  pub serving-keeps : LendsLead (funding_of s) old server → ¬ LendsLead (funding_of s) old caller
      → value_of s server ≡ value_of later server + value_of s caller
  serving-keeps (chain, is) apart =
      omega (arith, counted server true true (led server (chain, chain-then (answered number) (λ r. refl) s caller server order.no_cycle order.funds_there lent old chain server is apart)) (eq-eqb server server refl))

  pub serving-loses : (v : ℕ) → LendsLead (funding_of s) old v → v ≢ server
      → value_of s v ≡ value_of later v + port_value s port
  serving-loses v on differs =
      omega (arith, counted v true false (led v (leads-on v differs on)) (ne_eqb v server differs))

  pub serving-others : (v : ℕ) → ¬ LendsLead (funding_of s) old v → v ≢ server → value_of later v ≡ value_of s v
  serving-others v off differs =
      omega (arith, counted v false false (not-led v (λ lead. off (leads-back v lead))) (ne_eqb v server differs))

-- ---- the event

pub after-serving : (P : State → Type 0) (s : State) (e : Event) (port caller next server : ℕ) → IsInOrder s
    → ServesNextAt s e port caller next server
    → ((p ran used before number : ℕ) (others : List QueuedCall) → status_of s.records server ≡ Some (Running p before)
    → first_client s.clients server ≡ Some caller → status_of s.records next ≡ Some (QueuedAt port)
    → HasNoCycle (funding_of (moved (between s number caller server) p ran used port others next server))
    → P (moved (between s number caller server) p ran used port others next server)) → P (step s e).state
after-serving P s e port caller next server order (p, ran, number, got, ticks, ends, is, replies) holds =
    by (trap-done s p ran (Serve port number) server ticks (RepliedThenReceived caller next got) ends
    (λ refusal same. cc) (ap (λ x. (step s x).reply) (sym is) ∙ replies))
  where
    by : IsDone s p ran (Serve port number) server (RepliedThenReceived caller next got)
        (step s (Trap p ran (Serve port number))).state → P (step s e).state
    by done =
        let served = serve s.records s.clients s.ports server port number in
        let serves : served_at s server port served.outcome ≡ with_server s.limits s.mutexes port (Some server) =
        ap (served_at s server port) done.came in
        let (queued, others, calls, next_is, same, state) =
        serve-receives s p ran done.used port number caller next got server done.came in
        let checks = all-pass ((is_none (at_number s.ports port), NoPort)
        ∷ (is_none (first_client s.clients server), NothingToReply) ∷ []) done.passed in
        let here : (step s e).state ≡ moved (between s number caller server) p ran done.used port others next server =
        ap (λ x. (step s x).state) is ∙ done.state
        ∙ ap (λ mutexes. (finish_trap s p server (ran + 1) done.used
        (record { state = record (of_ports s served).state { mutexes = mutexes }; outcome = served.outcome; after = served.after })).state) serves
        ∙ ap (λ (x : State). record x { mutexes = with_server s.limits s.mutexes port (Some server) }) state in
        let now : HasNoCycle (funding_of (step s e).state) = (step-order s e order).no_cycle in
        subst P (sym here)
        (holds p ran done.used done.before number others done.runs (caller-first s caller server same checks.1.0)
        (first-queued s order.queues port next queued others (port-there s port checks.0) calls next_is)
        (subst (λ x. HasNoCycle (funding_of x)) here now))

module _ (s : State) (e : Event) (port caller next server old : ℕ) (order : IsInOrder s) (lends : LendsQueued s)
    (serves_next : ServesNextAt s e port caller next server) (serves : Serves s port old)
    (backed : IsBacked (funding_of s) (live_of s) old) where
  pub server-gains : ¬ LendsLead (funding_of s) old server
      → value_of (step s e).state server + value_of s caller ≡ value_of s server + port_value s port
  server-gains off =
      after-serving (λ x. value_of x server + value_of s caller ≡ value_of s server + port_value s port) s e port caller
      next server order serves_next
      (λ p ran used before number others runs first queued now. serving-gains s order lends p ran used before port
      number caller next server old others runs first queued serves backed now off)

  pub server-frees : LendsLead (funding_of s) old caller
      → value_of (step s e).state server + value_of s caller ≡ value_of s server + port_value s port
  server-frees on =
      after-serving (λ x. value_of x server + value_of s caller ≡ value_of s server + port_value s port) s e port caller
      next server order serves_next
      (λ p ran used before number others runs first queued now. serving-frees s order lends p ran used before port
      number caller next server old others runs first queued serves backed now on)

  pub server-keeps : LendsLead (funding_of s) old server → ¬ LendsLead (funding_of s) old caller
      → value_of s server ≡ value_of (step s e).state server + value_of s caller
  server-keeps on apart =
      after-serving
      (λ x. value_of s server ≡ value_of x server + value_of s caller) s e port caller next server order serves_next
      (λ p ran used before number others runs first queued now. serving-keeps s order lends p ran used before port
      number caller next server old others runs first queued serves backed now on apart)

  pub behind-loses : (v : ℕ) → LendsLead (funding_of s) old v → v ≢ server
      → value_of s v ≡ value_of (step s e).state v + port_value s port
  behind-loses v on differs =
      after-serving (λ x. value_of s v ≡ value_of x v + port_value s port) s e port caller next server order serves_next
      (λ p ran used before number others runs first queued now. serving-loses s order lends p ran used before port
      number caller next server old others runs first queued serves backed now v on differs)

  pub others-keep : (v : ℕ) → ¬ LendsLead (funding_of s) old v → v ≢ server → value_of (step s e).state v ≡ value_of s v
  others-keep v off differs =
      after-serving (λ x. value_of x v ≡ value_of s v) s e port caller next server order serves_next
      (λ p ran used before number others runs first queued now. serving-others s order lends p ran used before port
      number caller next server old others runs first queued serves backed now v off differs)

  pub together-same : live_value (step s e).state ≡ live_value s
  together-same =
      after-serving (λ x. live_value x ≡ live_value s) s e port caller next server order serves_next
      (λ p ran used before number others runs first queued now. serving-together s order lends p ran used before port
      number caller next server old others runs first queued serves backed now)

-- the port's own server
pub own-keeps : (s : State) (e : Event) (port caller next server : ℕ) → IsInOrder s → LendsQueued s
    → ServesNextAt s e port caller next server → Serves s port server
    → value_of s server ≡ value_of (step s e).state server + value_of s caller
own-keeps s e port caller next server order lends serves_next serves =
    after-serving
    (λ x. value_of s server ≡ value_of x server + value_of s caller) s e port caller next server order serves_next
    (λ p ran used before number others runs first queued now.
    let alone = lends-nobody s server (Running p before) runs refl in
    let backed : IsBacked (funding_of s) (live_of s) server =
    (server, ([], refl), is-live s.records server (Running p before) runs refl) in
    serving-keeps s order lends p ran used before port number caller next server server others runs first queued serves
    backed now ([], refl)
    (λ lead. caller-server s order lends p ran used before port number caller next server server others runs first
    queued serves backed now (sym (leads-itself (funding_of s) server caller alone lead))))
