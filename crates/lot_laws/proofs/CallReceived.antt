-- The receipt of a queued call: the values of threads afterwards, against the same state with the caller Ready.
use Rattle.lot_laws.proofs.Common.{Asleep, Bool, Dead, Event, FundsThere, GoesOn, HasNoCycle, IsBacked, IsInOrder, IsLendChain, IsLive, IsQueue, LendsServed, LendsTo, List, NoPort, Nobody, None, Option, OwnsNothing, QueuedCall, Ready, Receive, Received, Receiving, Record, Running, Served, Sizes, Some, State, Status, TakesQueuedCall, Ticket, Trap, Waiting, activates_within, after_trap, all-pass, ap, arith, at_number, backing_thread, borrower, borrower_of, cases_eq, change-length, change_record, cond, counts-once, cycle-nobody, false, finish_trap, funding_of, inl, inr, is_active, is_backed, is_backed-exact, is_live_status, is_none, is_thread, is_thread-is, lend_of, lends-off, lends_lead, lends_lead-exact, length, live_of, live_value, map, numbers, of_ports, option_and_then, option_map, own_value, port_at, receive, refl, set_number, some-injective, status-now, status-other, status_of, step, step-order, subst, sum-filter, sum-nothing, sum-same, sym, ticket_value, ticket_value-unfolds, true, value_of, with_client, with_ready, with_ticks, ℕ, [], ◌+◌, ◌∙◌, ◌∷◌, ◌≡◌, ◌≢◌, ◌⊎◌}
use Rattle.lot_machine.specs.declared.record.Status.TheVariants.{Queued as QueuedAt}
use Rattle.lot_machine.specs.declared.ticket.Target.TheVariants as target
use Rattle.lot_machine.proofs.Tickets as tickets
use Rattle.lot_laws.proofs.Trapped.{port-off, IsDone, trap-done, lend-is, live-is}
use Rattle.lot_laws.proofs.Lending.{same-borrower, leads-itself, worth-nothing, comes-alone}
use Rattle.lot_laws.proofs.Blocked.{lends_in, lead-itself, lead-other, lends-nobody, is-live, not-live, blocked-worth, blocked-own, served-lends}
use Rattle.lot_laws.proofs.CallTaken.{port-there}
use Rattle.lot_laws.proofs.Replied.{lends-on, lives-on}

-- ---- the state

-- the records after the server took the call, and after it went on
abbrev pub taken : State → ℕ → ℕ → List Record
taken s caller server = change_record (λ r. record r { status = Served server }) s.records caller

abbrev pub gone_on : State → ℕ → ℕ → ℕ → ℕ → ℕ → List Record
gone_on s p ran used caller server =
    change_record (λ r. with_ticks (ran + 1) (after_trap GoesOn p used s.limits r)) (taken s caller server) server

-- the state after a receipt
abbrev pub received : State → ℕ → ℕ → ℕ → ℕ → List QueuedCall → ℕ → ℕ → State
received s p ran used port others caller server = record s {
  records = gone_on s p ran used caller server;
  clients = with_client s.clients server caller;
  ports = set_number s.ports port (record { calls = others; receivers = (port_at s.ports port).receivers });
}

-- the first of these calls was the caller's, and this is the state then
abbrev IsReceived : State → ℕ → ℕ → ℕ → ℕ → ℕ → ℕ → List QueuedCall → State → Type 0
IsReceived s p ran used port caller server calls after =
    (first : QueuedCall) × (others : List QueuedCall) × (calls ≡ first ∷ others) × (first.caller ≡ caller)
    × (after ≡ received s p ran used port others caller server)

pub call-received : (s : State) (p ran used port number caller server : ℕ)
    → (receive s.records s.clients s.ports server port).outcome ≡ Received caller number
    → IsReceived s p ran used port caller server (port_at s.ports port).calls
    (finish_trap s p server (ran + 1) used (of_ports s (receive s.records s.clients s.ports server port))).state
call-received s p ran used port number caller server = at (port_at s.ports port).calls refl
  where
    at : (o : List QueuedCall) → (port_at s.ports port).calls ≡ o
        → (receive s.records s.clients s.ports server port).outcome ≡ Received caller number
        → IsReceived s p ran used port caller server o
        (finish_trap s p server (ran + 1) used (of_ports s (receive s.records s.clients s.ports server port))).state
    at [] is = rw is (λ came. cc)
    at (first ∷ others) is =
        rw is (λ came. let same : first.caller ≡ caller = cc in
        (first, others, refl, same, ap (λ x. received s p ran used port others x server) same))

-- ---- what a blocked thread is worth that lends to nobody

pub live-nobody : (without : Sizes) (status : Status) → is_live_status status ≡ true → lend_of without status ≡ Nobody
live-nobody without Ready e = refl
live-nobody without (Running p used) e = refl
live-nobody without (Receiving port) e = cc
live-nobody without (QueuedAt port) e = cc
live-nobody without (Served server) e = cc
live-nobody without (Waiting m) e = cc
live-nobody without Asleep e = cc
live-nobody without Dead e = cc

-- a live thread lends to nobody
live-alone : (s : State) (u : ℕ) → IsLive (live_of s) u → borrower_of (funding_of s) u ≡ None
live-alone s u alive = by (status_of s.records u) refl
  where
    by : (o : Option Status) → status_of s.records u ≡ o → borrower_of (funding_of s) u ≡ None
    by None is = let never : None ≡ Some true = sym (ap (option_map is_live_status) is) ∙ sym (live-is s.records u)
        ∙ alive in cc
    by (Some status) is =
        let live : is_live_status status ≡ true = some-injective (is_live_status status) true
        (sym (ap (option_map is_live_status) is) ∙ sym (live-is s.records u) ∙ alive) in
        lends-nobody s u status is (live-nobody s.limits status live)

module _ (s : State) (t : ℕ) (no_cycle : HasNoCycle (funding_of s)) (there : FundsThere (funding_of s))
    (nobody : borrower_of (funding_of s) t ≡ None) (blocked : ¬ IsLive (live_of s) t) where
  -- a chain from a thread that leads there ends there, and so leads to no live thread
  ends : (u : ℕ) (chain : List ℕ) → IsLendChain (funding_of s) u chain t → (v : ℕ) (other : List ℕ)
      → IsLendChain (funding_of s) u other v → IsLive (live_of s) v → ⊥
  ends u [] is v other leads alive =
      let same : u ≡ v = leads-itself (funding_of s) u v (ap (borrower_of (funding_of s)) is ∙ nobody) (other, leads) in
      blocked (subst (IsLive (live_of s)) (sym same ∙ is) alive)
  ends u (w ∷ rest) is v [] leads alive = let never : None ≡ Some w = sym (live-alone s v alive)
      ∙ ap (borrower_of (funding_of s)) (sym leads) ∙ is.0 in cc
  ends u (w ∷ rest) is v (x ∷ more) leads alive =
      let same : x ≡ w = some-injective x w (sym leads.0 ∙ is.0) in
      ends w rest is.1 v more (subst (λ y. IsLendChain (funding_of s) y more v) same leads.1) alive

  pub unbacked : (u : ℕ) → lends_lead (funding_of s) u t ≡ true → is_backed (funding_of s) (live_of s) u ≡ false
  unbacked u leads = by (is_backed (funding_of s) (live_of s) u) refl
    where
      by : (b : Bool) → is_backed (funding_of s) (live_of s) u ≡ b → b ≡ false
      by false is = refl
      by true is =
          let (chain, to) = (lends_lead-exact (funding_of s) no_cycle.lends u t).0 leads in
          let (v, (other, on), alive) = (is_backed-exact (funding_of s) no_cycle.lends (live_of s) u).0 is in
          absurd (ends u chain to v other on alive)

  own-nothing : (u : ℕ) → is_backed (funding_of s) (live_of s) u ≡ false
      → own_value s.limits.unit (funding_of s) (live_of s) u ≡ 0
  own-nothing u none =
      tickets.sum-same (ticket_value s.limits.unit (funding_of s) (live_of s)) (λ x. 0) (λ x. is_thread u x.target)
      s.tickets (λ i x at funds. each x (is_thread-is u x.target funds)) ∙ sum-nothing (backing_thread (funding_of s) u)
    where
      each : (x : Ticket) → x.target ≡ target.Thread u → ticket_value s.limits.unit (funding_of s) (live_of s) x ≡ 0
      each x funds =
          let off : is_active (funding_of s) (live_of s) x ≡ false =
          ap (activates_within (length (funding_of s).currencies) (funding_of s) (live_of s)) funds ∙ none in
          ticket_value-unfolds (funding_of s) no_cycle there s.limits.unit (live_of s) x ∙ rw off refl

  pub blocked-nothing : value_of s t ≡ 0
  blocked-nothing =
      sum-filter (own_value s.limits.unit (funding_of s) (live_of s)) (λ u. lends_lead (funding_of s) u t)
      (numbers (funding_of s).lends)
      ∙ sum-same (λ u. cond (lends_lead (funding_of s) u t) (own_value s.limits.unit (funding_of s) (live_of s) u) 0)
      (λ u. 0) (numbers (funding_of s).lends) (λ u. each u (lends_lead (funding_of s) u t) refl)
      ∙ sum-nothing (numbers (funding_of s).lends)
    where
      each : (u : ℕ) (b : Bool) → lends_lead (funding_of s) u t ≡ b
          → cond b (own_value s.limits.unit (funding_of s) (live_of s) u) 0 ≡ 0
      each u false is = refl
      each u true is = own-nothing u (unbacked u is)

-- ---- the receipt, against the same state with the caller Ready

module _ (s : State) (order : IsInOrder s) (p ran used before port caller server : ℕ) (first : QueuedCall)
    (others : List QueuedCall)
    (runs : status_of s.records server ≡ Some (Running p before))
    (there : at_number s.ports port ≡ Some (port_at s.ports port))
    (calls : (port_at s.ports port).calls ≡ first ∷ others) (caller_is : first.caller ≡ caller)
    (no_cycle_now : HasNoCycle (funding_of (received s p ran used port others caller server))) where
  queued : status_of s.records caller ≡ Some (QueuedAt port)
  queued =
      let queue : IsQueue s.records (QueuedAt port) (map (λ (c : QueuedCall). c.caller) (first ∷ others)) =
      subst (λ cs. IsQueue s.records (QueuedAt port) (map (λ (c : QueuedCall). c.caller) cs)) calls
      (order.queues.callers port (port_at s.ports port) there) in
      queue.each 0 caller (ap Some caller_is)

  apart : ¬ (caller ≡ server)
  apart same =
      let both : Running p before ≡ QueuedAt port =
      some-injective (Running p before) (QueuedAt port) (sym runs ∙ ap (status_of s.records) (sym same) ∙ queued) in cc

  records_ready : List Record
  records_ready = change_record (λ r. record r { status = Ready }) s.records caller

  records_now : List Record
  records_now = gone_on s p ran used caller server

  caller-ready : status_of records_ready caller ≡ Some Ready
  unfolding records_ready
  caller-ready = status-now (λ r. record r { status = Ready }) s.records caller (QueuedAt port) Ready queued (λ r. refl)

  server-ready : status_of records_ready server ≡ Some (Running p before)
  unfolding records_ready
  server-ready = status-other (λ r. record r { status = Ready }) s.records caller server (λ same. apart (sym same))
      ∙ runs

  server-then : status_of (taken s caller server) server ≡ Some (Running p before)
  server-then =
      status-other (λ r. record r { status = Served server }) s.records caller server (λ same. apart (sym same)) ∙ runs

  caller-now : status_of records_now caller ≡ Some (Served server)
  unfolding records_now
  caller-now =
      status-other (λ r. with_ticks (ran + 1) (after_trap GoesOn p used s.limits r))
      (taken s caller server) server caller apart
      ∙ status-now (λ r. record r { status = Served server }) s.records caller (QueuedAt port) (Served server) queued
      (λ r. refl)

  other-now : (u : ℕ) → u ≢ caller → u ≢ server → status_of records_now u ≡ status_of records_ready u
  unfolding records_now records_ready
  other-now u one two =
      status-other (λ r. with_ticks (ran + 1) (after_trap GoesOn p used s.limits r))
      (taken s caller server) server u two
      ∙ status-other (λ r. record r { status = Served server }) s.records caller u one
      ∙ sym (status-other (λ r. record r { status = Ready }) s.records caller u one)

  server-lend : option_map (lend_of s.limits) (status_of records_now server) ≡ Some Nobody
  unfolding records_now
  server-lend = lends-on s.limits (taken s caller server) server p used (ran + 1) s.limits before server-then

  server-live : option_map is_live_status (status_of records_now server) ≡ Some true
  unfolding records_now
  server-live = lives-on (taken s caller server) server p used (ran + 1) s.limits before server-then

  many : length records_now ≡ length records_ready
  unfolding records_now records_ready
  many =
      change-length (λ r. with_ticks (ran + 1) (after_trap GoesOn p used s.limits r)) (taken s caller server) server
      ∙ change-length (λ r. record r { status = Served server }) s.records caller
      ∙ sym (change-length (λ r. record r { status = Ready }) s.records caller)

  lends-same : (u : ℕ) → u ≢ caller → option_map (lend_of s.limits)
      (status_of records_now u) ≡ option_map (lend_of s.limits) (status_of records_ready u)
  lends-same u differs = by (cases_eq u server)
    where
      by : (u ≡ server) ⊎ (¬ (u ≡ server)) → option_map (lend_of s.limits)
          (status_of records_now u) ≡ option_map (lend_of s.limits) (status_of records_ready u)
      by (inl same) = ap (λ x. option_map (lend_of s.limits) (status_of records_now x)) same ∙ server-lend
          ∙ sym (ap (option_map (lend_of s.limits)) server-ready)
          ∙ ap (λ x. option_map (lend_of s.limits) (status_of records_ready x)) (sym same)
      by (inr other) = ap (option_map (lend_of s.limits)) (other-now u differs other)

  lives-same : (u : ℕ) → u ≢ caller
      → option_map is_live_status (status_of records_now u) ≡ option_map is_live_status (status_of records_ready u)
  lives-same u differs = by (cases_eq u server)
    where
      by : (u ≡ server) ⊎ (¬ (u ≡ server))
          → option_map is_live_status (status_of records_now u) ≡ option_map is_live_status (status_of records_ready u)
      by (inl same) =
          ap (λ x. option_map is_live_status (status_of records_now x)) same ∙ server-live
          ∙ sym (ap (option_map is_live_status) server-ready)
          ∙ ap (λ x. option_map is_live_status (status_of records_ready x)) (sym same)
      by (inr other) = ap (option_map is_live_status) (other-now u differs other)

  no_cycle_ready : HasNoCycle (funding_of (with_ready s caller))
  no_cycle_ready = cycle-nobody s (λ r. record r { status = Ready }) caller (λ r. refl) order.no_cycle

  server-backed : IsBacked (funding_of (with_ready s caller)) (live_of (with_ready s caller)) server
  unfolding records_ready
  server-backed = (server, ([], refl), is-live records_ready server (Running p before) server-ready refl)

  pub receipt-worth : s.limits.without_lending ≡ false → (v : ℕ)
      → value_of (received s p ran used port others caller server) v
      ≡ value_of (with_ready s caller) v + cond (lends_lead (funding_of (with_ready s caller)) server v)
      (value_of (with_ready s caller) caller) 0
  unfolding records_now records_ready
  receipt-worth lends =
      blocked-worth (with_ready s caller) records_now caller server Ready
      (Served server) many caller-ready refl refl caller-now refl (served-lends (with_ready s caller) server lends)
      lends-same no_cycle_ready order.funds_there no_cycle_now lives-same server-backed

  pub receipt-together : s.limits.without_lending ≡ false
      → live_value (received s p ran used port others caller server) ≡ live_value (with_ready s caller)
  unfolding records_now records_ready
  receipt-together lends =
      counts-once (received s p ran used port others caller server) no_cycle_now
      ∙ blocked-own (with_ready s caller) records_now caller server Ready
      (Served server) many caller-ready refl refl caller-now refl (served-lends (with_ready s caller) server lends)
      lends-same no_cycle_ready order.funds_there no_cycle_now lives-same server-backed
      ∙ sym (counts-once (with_ready s caller) no_cycle_ready)

  pub receipt-others : s.limits.without_lending ≡ false → (v : ℕ) → v ≢ server
      → value_of (received s p ran used port others caller server) v ≡ value_of (with_ready s caller) v
  unfolding records_ready
  receipt-others lends v differs =
      let ready = with_ready s caller in
      let off : lends_lead (funding_of ready) server v ≡ false = lead-other (funding_of ready) server v no_cycle_ready
      (lends-nobody ready server (Running p before) server-ready refl) differs in
      receipt-worth lends v ∙ ap (λ b. value_of ready v + cond b (value_of ready caller) 0) off ∙ omega arith

  pub receipt-server : s.limits.without_lending ≡ false
      → value_of (received s p ran used port others caller server) server
      ≡ value_of (with_ready s caller) server + value_of (with_ready s caller) caller
  receipt-server lends =
      let ready = with_ready s caller in
      receipt-worth lends server ∙ ap (λ b. value_of ready server + cond b (value_of ready caller) 0)
      (lead-itself (funding_of ready) server no_cycle_ready)

  -- a server with nothing of its own has nothing if the caller is Ready
  pub receipt-alone : s.limits.without_lending ≡ false → OwnsNothing s server
      → value_of (received s p ran used port others caller server) server ≡ value_of (with_ready s caller) caller
  unfolding records_ready
  receipt-alone lends owns =
      let ready = with_ready s caller in
      comes-alone (value_of (received s p ran used port others caller server) server) (value_of ready server)
      (value_of ready caller) (receipt-server lends)
      (worth-nothing (funding_of ready) (live_of ready) s.limits.unit server no_cycle_ready owns.0
      (λ u lends. owns.1 u (by u lends (cases_eq u caller))))
    where
      by : (u : ℕ) → LendsTo (funding_of (with_ready s caller)) u server → (u ≡ caller) ⊎ (¬ (u ≡ caller))
          → LendsTo (funding_of s) u server
      by u lends (inl same) =
          let never : None ≡ Some server = sym (lends-nobody (with_ready s caller) caller Ready caller-ready refl)
          ∙ ap (borrower_of (funding_of (with_ready s caller))) (sym same) ∙ lends in cc
      by u lends (inr differs) =
          ap (option_and_then (borrower (funding_of s)))
          (lend-is s.limits s.records u ∙ ap (option_map (lend_of s.limits)) (sym (status-other
          (λ r. record r { status = Ready }) s.records caller u differs)) ∙ sym (lend-is s.limits records_ready u))
          ∙ sym (same-borrower (funding_of s) (lends_in s.limits records_ready)
          (at_number (lends_in s.limits records_ready) u)) ∙ lends

  pub caller-nothing : s.limits.queued_lend ≡ false → value_of s caller ≡ 0
  caller-nothing off = blocked-nothing s caller order.no_cycle order.funds_there (lends-nobody s caller
      (QueuedAt port) queued (lends-off s.limits port off)) (not-live s.records caller (QueuedAt port) queued refl)

-- ---- the event

-- what holds of the state then, if it holds of each state after a receipt
after-receipt : (P : State → Type 0) (s : State) → s.limits.queued_lend ≡ false → (e : Event) (caller server : ℕ)
    → IsInOrder s → TakesQueuedCall s e caller server
    → ((p ran used before port : ℕ) (first : QueuedCall) (others : List QueuedCall)
    → status_of s.records server ≡ Some (Running p before) → at_number s.ports port ≡ Some (port_at s.ports port)
    → (port_at s.ports port).calls ≡ first ∷ others → first.caller ≡ caller
    → HasNoCycle (funding_of (received s p ran used port others caller server))
    → P (received s p ran used port others caller server))
    → P (step s e).state
after-receipt P s off e caller server order (p, ran, port, number, ticks, ends_now, is, replied) holds =
    by (trap-done s p ran (Receive port) server ticks (Received caller number) ends_now (λ refusal same. cc)
    (ap (λ x. (step s x).reply) (sym is) ∙ replied))
  where
    by : IsDone s p ran (Receive port) server (Received caller number) (step s (Trap p ran (Receive port))).state
        → P (step s e).state
    by done =
        let (first, others, calls, caller_is, state) =
        call-received s p ran done.used port number caller server done.came in
        let here : (step s e).state ≡ received s p ran done.used port others caller server =
        ap (λ x. (step s x).state) is ∙ done.state ∙ ap (λ x. (finish_trap s p server (ran + 1) done.used x).state)
        (port-off s server port (receive s.records s.clients s.ports server port) off) ∙ state in
        let now : HasNoCycle (funding_of (step s e).state) = (step-order s e order).no_cycle in
        subst P (sym here) (holds p ran done.used done.before port first others done.runs
        (port-there s port (all-pass ((is_none (at_number s.ports port), NoPort) ∷ []) done.passed).0) calls caller_is
        (subst (λ x. HasNoCycle (funding_of x)) here now))

pub server-gets : (s : State) (e : Event) (caller server : ℕ) → IsInOrder s → LendsServed s
    → TakesQueuedCall s e caller server
    → value_of (step s e).state server ≡ value_of (with_ready s caller) server + value_of (with_ready s caller) caller
server-gets s e caller server order lends takes =
    after-receipt (λ x. value_of x server ≡ value_of (with_ready s caller) server + value_of
    (with_ready s caller) caller) s lends.1 e caller server order takes
    (λ p ran used before port first others runs there calls caller_is now.
    receipt-server s order p ran used before port caller server first others runs there calls caller_is now lends.0)

pub alone-gets : (s : State) (e : Event) (caller server : ℕ) → IsInOrder s → LendsServed s
    → TakesQueuedCall s e caller server → OwnsNothing s server
    → value_of (step s e).state server ≡ value_of (with_ready s caller) caller
alone-gets s e caller server order lends takes owns =
    after-receipt (λ x. value_of x server ≡ value_of (with_ready s caller) caller) s lends.1 e caller server order takes
    (λ p ran used before port first others runs there calls caller_is now.
    receipt-alone s order p ran used before port caller server first others runs there calls caller_is now lends.0 owns)

pub others-keep : (s : State) (e : Event) (caller server other : ℕ) → IsInOrder s → LendsServed s
    → TakesQueuedCall s e caller server → other ≢ server
    → value_of (step s e).state other ≡ value_of (with_ready s caller) other
others-keep s e caller server other order lends takes differs =
    after-receipt (λ x. value_of x other ≡ value_of (with_ready s caller) other) s lends.1 e caller server order takes
    (λ p ran used before port first others runs there calls caller_is now. receipt-others s order p ran used before port
    caller server first others runs there calls caller_is now lends.0 other differs)

pub together-same : (s : State) (e : Event) (caller server : ℕ) → IsInOrder s → LendsServed s
    → TakesQueuedCall s e caller server → live_value (step s e).state ≡ live_value (with_ready s caller)
together-same s e caller server order lends takes =
    after-receipt (λ x. live_value x ≡ live_value (with_ready s caller)) s lends.1 e caller server order takes
    (λ p ran used before port first others runs there calls caller_is now.
    receipt-together s order p ran used before port caller server first others runs there calls caller_is now lends.0)

pub waits-for-nothing : (s : State) (e : Event) (caller server : ℕ) → IsInOrder s → s.limits.queued_lend ≡ false
    → TakesQueuedCall s e caller server → value_of s caller ≡ 0
waits-for-nothing s e caller server order off takes =
    after-receipt (λ x. value_of s caller ≡ 0) s off e caller server order takes
    (λ p ran used before port first others runs there calls caller_is now.
    caller-nothing s order p ran used before port caller server first others runs there calls caller_is now off)
