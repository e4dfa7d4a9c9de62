-- A call that a waiting server takes: the values of threads afterwards.
use Rattle.lot_laws.proofs.Common.{Call, Event, HasNoCycle, IsInOrder, IsQueue, Leaves, LendsServed, List, NoPort, Option, OwnsNothing, Port, Ready, Receiving, Record, Running, Served, ServedBy, Some, State, TakesCall, Trap, after_trap, all-pass, ap, arith, at_number, call, cases_eq, change-length, change_record, cond, counts-once, false, finish_trap, funding_of, inl, inr, is_live_status, is_none, lend_of, lends_lead, length, live_of, live_value, of_ports, option_map, port_at, refl, set_number, some-injective, some-of, status-now, status-other, status_of, step, step-order, subst, sym, unwrap_or, value_of, with_client, with_ticks, ℕ, [], ◌+◌, ◌∙◌, ◌∷◌, ◌≡◌, ◌≢◌, ◌⊎◌}
use Rattle.lot_laws.proofs.Trapped.{port-off, IsDone, trap-done}
use Rattle.lot_laws.proofs.Lending.{worth-nothing}
use Rattle.lot_laws.proofs.Blocked.{lead-itself, lead-other, lends-nobody, is-live, woken-worth, woken-own, served-lends}

-- a port that is there
pub port-there : (s : State) (port : ℕ) → is_none (at_number s.ports port) ≡ false
    → at_number s.ports port ≡ Some (port_at s.ports port)
port-there s port some =
    let (x, there) = some-of (at_number s.ports port) some in there
    ∙ ap Some (sym (ap (λ (o : Option Port). unwrap_or o (record { calls = []; receivers = [] })) there))

-- ---- the state

-- the records after the server woke, and after the caller left
abbrev pub woken : State → ℕ → ℕ → List Record
woken s number server = change_record (λ r. record r { status = Ready; delivered = Some number }) s.records server

abbrev pub left : State → ℕ → ℕ → ℕ → ℕ → ℕ → ℕ → List Record
left s p ran used number server caller = change_record
    (λ r. with_ticks (ran + 1) (after_trap (Leaves (Served server)) p used s.limits r)) (woken s number server) caller

-- the state after a call was taken
abbrev pub called : State → ℕ → ℕ → ℕ → ℕ → ℕ → List ℕ → ℕ → ℕ → State
called s p ran used port number others server caller = record s {
  records = left s p ran used number server caller;
  clients = with_client s.clients server caller;
  ports = set_number s.ports port (record { calls = (port_at s.ports port).calls; receivers = others });
}

-- the first of these receivers took the call, and this is the state then
abbrev pub IsCalled : State → ℕ → ℕ → ℕ → ℕ → ℕ → ℕ → ℕ → List ℕ → State → Type 0
IsCalled s p ran used port number caller server receivers after =
    (others : List ℕ) × (receivers ≡ server ∷ others) × (after ≡ called s p ran used port number others server caller)

pub call-taken : (s : State) (p ran used port number caller server : ℕ)
    → (call s.records s.clients s.ports caller port number).outcome ≡ ServedBy server
    → IsCalled s p ran used port number caller server (port_at s.ports port).receivers
    (finish_trap s p caller (ran + 1) used (of_ports s (call s.records s.clients s.ports caller port number))).state
call-taken s p ran used port number caller server = at (port_at s.ports port).receivers refl
  where
    at : (o : List ℕ) → (port_at s.ports port).receivers ≡ o
        → (call s.records s.clients s.ports caller port number).outcome ≡ ServedBy server
        → IsCalled s p ran used port number caller server o
        (finish_trap s p caller (ran + 1) used (of_ports s (call s.records s.clients s.ports caller port number))).state
    at [] is = rw is (λ came. cc)
    at (first ∷ others) is =
        rw is (λ came. let first_is : first ≡ server = cc in
        (others, ap (λ x. x ∷ others) first_is, ap (λ x. called s p ran used port number others x caller) first_is))

module _ (s : State) (order : IsInOrder s) (lends : s.limits.without_lending ≡ false)
    (p ran used before port number server caller : ℕ) (others : List ℕ)
    (runs : status_of s.records caller ≡ Some (Running p before))
    (there : at_number s.ports port ≡ Some (port_at s.ports port))
    (receivers : (port_at s.ports port).receivers ≡ server ∷ others) (owns : OwnsNothing s server)
    (no_cycle_now : HasNoCycle (funding_of (called s p ran used port number others server caller))) where
  records_now : List Record
  records_now = left s p ran used number server caller

  receives : status_of s.records server ≡ Some (Receiving port)
  receives =
      let queue : IsQueue s.records (Receiving port) (server ∷ others) = subst (λ ts.
      IsQueue s.records (Receiving port) ts) receivers (order.queues.receivers port (port_at s.ports port) there) in
      queue.each 0 server refl

  apart : ¬ (caller ≡ server)
  apart same =
      let both : Running p before ≡ Receiving port =
      some-injective (Running p before) (Receiving port) (sym runs ∙ ap (status_of s.records) same ∙ receives) in cc

  caller-now : status_of records_now caller ≡ Some (Served server)
  unfolding records_now
  caller-now =
      status-now (λ r. with_ticks (ran + 1) (after_trap (Leaves (Served server)) p used s.limits r))
      (woken s number server) caller (Running p before) (Served server)
      (status-other (λ r. record r { status = Ready; delivered = Some number }) s.records server caller apart ∙ runs)
      (λ r. refl)

  server-now : status_of records_now server ≡ Some Ready
  unfolding records_now
  server-now =
      status-other (λ r. with_ticks (ran + 1) (after_trap (Leaves (Served server)) p used s.limits r))
      (woken s number server) caller server (λ same. apart (sym same))
      ∙ status-now (λ r. record r { status = Ready; delivered = Some number }) s.records server
      (Receiving port) Ready receives (λ r. refl)

  other-now : (u : ℕ) → u ≢ caller → u ≢ server → status_of records_now u ≡ status_of s.records u
  unfolding records_now
  other-now u first second =
      status-other (λ r. with_ticks (ran + 1) (after_trap (Leaves (Served server)) p used s.limits r))
      (woken s number server) caller u first
      ∙ status-other (λ r. record r { status = Ready; delivered = Some number }) s.records server u second

  many : length records_now ≡ length s.records
  unfolding records_now
  many =
      change-length (λ r. with_ticks (ran + 1) (after_trap (Leaves (Served server)) p used s.limits r))
      (woken s number server) caller
      ∙ change-length (λ r. record r { status = Ready; delivered = Some number }) s.records server

  lends-same : (u : ℕ) → u ≢ caller
      → option_map (lend_of s.limits) (status_of records_now u) ≡ option_map (lend_of s.limits) (status_of s.records u)
  lends-same u differs = by (cases_eq u server)
    where
      by : (u ≡ server) ⊎ (¬ (u ≡ server)) → option_map (lend_of s.limits)
          (status_of records_now u) ≡ option_map (lend_of s.limits) (status_of s.records u)
      by (inl same) = ap (λ x. option_map (lend_of s.limits) (status_of records_now x)) same
          ∙ ap (option_map (lend_of s.limits)) server-now ∙ sym (ap (option_map (lend_of s.limits)) receives)
          ∙ ap (λ x. option_map (lend_of s.limits) (status_of s.records x)) (sym same)
      by (inr other) = ap (option_map (lend_of s.limits)) (other-now u differs other)

  lives-same : (u : ℕ) → u ≢ caller → u ≢ server
      → option_map is_live_status (status_of records_now u) ≡ option_map is_live_status (status_of s.records u)
  lives-same u first second = ap (option_map is_live_status) (other-now u first second)

  pub call-worth : (v : ℕ) → value_of (called s p ran used port number others server caller) v
      ≡ value_of s v + cond (lends_lead (funding_of s) server v) (value_of s caller) 0
  unfolding records_now
  call-worth =
      woken-worth s records_now caller server (Running p before) (Served server) many runs refl refl caller-now refl
      (served-lends s server lends) lends-same order.no_cycle order.funds_there no_cycle_now
      (is-live records_now server Ready server-now refl) lives-same owns

  pub call-together : live_value (called s p ran used port number others server caller) ≡ live_value s
  unfolding records_now
  call-together =
      counts-once (called s p ran used port number others server caller) no_cycle_now
      ∙ woken-own s records_now caller server (Running p before) (Served server) many runs refl refl caller-now refl
      (served-lends s server lends) lends-same order.no_cycle order.funds_there no_cycle_now
      (is-live records_now server Ready server-now refl) lives-same owns
      ∙ sym (counts-once s order.no_cycle)

  pub call-server : value_of (called s p ran used port number others server caller) server ≡ value_of s caller
  call-server =
      let none : value_of s server ≡ 0 =
      worth-nothing (funding_of s) (live_of s) s.limits.unit server order.no_cycle owns.0 owns.1 in
      call-worth server ∙ ap (λ b. value_of s server + cond b (value_of s caller) 0)
      (lead-itself (funding_of s) server order.no_cycle) ∙ omega (arith, none)

  pub call-others : (v : ℕ) → v ≢ server
      → value_of (called s p ran used port number others server caller) v ≡ value_of s v
  call-others v differs =
      let off : lends_lead (funding_of s) server v ≡ false = lead-other (funding_of s) server v order.no_cycle
      (lends-nobody s server (Receiving port) receives refl) differs in
      call-worth v ∙ ap (λ b. value_of s v + cond b (value_of s caller) 0) off ∙ omega arith

-- ---- the event

-- what holds of the state then, if it holds of each state of a call that is taken
after-call : (P : State → Type 0) (s : State) → s.limits.queued_lend ≡ false → (e : Event) (caller server : ℕ)
    → IsInOrder s → TakesCall s e caller server
    → ((p ran used before port number : ℕ) (others : List ℕ) → status_of s.records caller ≡ Some (Running p before)
    → at_number s.ports port ≡ Some (port_at s.ports port)
    → (port_at s.ports port).receivers ≡ server ∷ others
    → HasNoCycle (funding_of (called s p ran used port number others server caller))
    → P (called s p ran used port number others server caller))
    → P (step s e).state
after-call P s off e caller server order (p, ran, port, number, ticks, ends, is, replied) holds =
    by (trap-done s p ran (Call port number) caller ticks (ServedBy server) ends (λ refusal same. cc)
    (ap (λ x. (step s x).reply) (sym is) ∙ replied))
  where
    by : IsDone s p ran (Call port number) caller (ServedBy server) (step s (Trap p ran (Call port number))).state
        → P (step s e).state
    by done =
        let (others, receivers, state) = call-taken s p ran done.used port number caller server done.came in
        let here : (step s e).state ≡ called s p ran done.used port number others server caller =
        ap (λ x. (step s x).state) is ∙ done.state ∙ ap (λ x. (finish_trap s p caller (ran + 1) done.used x).state)
        (port-off s caller port (call s.records s.clients s.ports caller port number) off) ∙ state in
        let now : HasNoCycle (funding_of (step s e).state) = (step-order s e order).no_cycle in
        subst P (sym here) (holds p ran done.used done.before port number others done.runs
        (port-there s port (all-pass ((is_none (at_number s.ports port), NoPort) ∷ []) done.passed).0) receivers
        (subst (λ x. HasNoCycle (funding_of x)) here now))

pub server-gets : (s : State) (e : Event) (caller server : ℕ) → IsInOrder s → LendsServed s
    → TakesCall s e caller server → OwnsNothing s server → value_of (step s e).state server ≡ value_of s caller
server-gets s e caller server order lends takes owns =
    after-call (λ x. value_of x server ≡ value_of s caller) s lends.1 e caller server order takes
    (λ p ran used before port number others runs there receivers now.
    call-server s order lends.0 p ran used before port number server caller others runs there receivers owns now)

pub others-keep : (s : State) (e : Event) (caller server other : ℕ) → IsInOrder s → LendsServed s
    → TakesCall s e caller server → OwnsNothing s server → other ≢ server
    → value_of (step s e).state other ≡ value_of s other
others-keep s e caller server other order lends takes owns differs =
    after-call (λ x. value_of x other ≡ value_of s other) s lends.1 e caller server order takes
    (λ p ran used before port number others runs there receivers now. call-others s order lends.0 p ran used before port
    number server caller others runs there receivers owns now other differs)

pub together-same : (s : State) (e : Event) (caller server : ℕ) → IsInOrder s → LendsServed s
    → TakesCall s e caller server → OwnsNothing s server → live_value (step s e).state ≡ live_value s
together-same s e caller server order lends takes owns =
    after-call (λ x. live_value x ≡ live_value s) s lends.1 e caller server order takes
    (λ p ran used before port number others runs there receivers now.
    call-together s order lends.0 p ran used before port number server caller others runs there receivers owns now)
