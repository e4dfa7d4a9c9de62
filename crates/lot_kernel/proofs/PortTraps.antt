-- The tables after a trap at a port, and what its contract shows of them.
use Rattle.lot_kernel.proofs.Common.{Action, After, Contains, Effect, Freed, HasHolders, HasNoCycle, IfSome, IsInOrder, IsLive, IsNowhere, IsQueue, IsRunning, KeepsStale, List, MakesStale, MakesStaleIn, Mutex, Node, Option, Outcome, Port, PortTrap, QueueLists, QueuedCall, Ready, Receiving, Record, Running, Sizes, Snapshot, Some, State, Threaded, ap, at_number, at_port, call, change_record, effect_of, funding_of, held, length, live-status, live_in, of_ports, option_map, port_at, receive, refl, serve, served_at, status-now, subst, sym, taker, with_ports, with_records, ℕ, [], ◌∙◌, ◌∷◌, ◌≡◌}
use Rattle.lot_machine.specs.declared.reply.Outcome.TheVariants as outcome
use Rattle.lot_kernel.proofs.Holding.{IsHeld, makes-held, snapshot_of}
use Rattle.lot_kernel.proofs.Leaving.{effect-leaves, receivers-queue}
use Rattle.lot_kernel.proofs.Serving.{holders-ports, makes-served, served-same}
use Rattle.lot_kernel.proofs.Trapping.{Keeps, ports-held, ports-state, running-nowhere}

-- the answer is the effect's, and so is the state; nothing is counted, and what gets stale is what the change touches
pub record Shows (old new : Snapshot) (effect : Effect) (said : Outcome) (then : After) : Type 0 where
  pub outcome : said ≡ effect.outcome
  pub after : then ≡ effect.after
  pub state : new.state ≡ effect.state
  pub stale : MakesStale old new
  pub kept : KeepsStale old new
  pub meter : new.meter ≡ old.meter

module _ (sizes : Sizes) (freed : Freed) (names : List (Option (List ℕ))) (v : Threaded) (q : QueueLists) where
  -- a thread that runs, as the tables are seen, waits nowhere
  pub runner-nowhere : (now : Snapshot) (t : ℕ) → snapshot_of sizes freed names q v ≡ now → IsInOrder now.state
      → IsRunning now.state.records t → IsNowhere q t
  runner-nowhere now t view order runs =
      running-nowhere sizes freed names v q t (subst (λ (s : Snapshot). IsInOrder s.state) (sym view) order)
      (subst (λ (s : Snapshot). IsRunning s.state.records t) (sym view) runs)

  -- a trap leaves the threads those of the state, as many records and clients as before, and the holders
  pub port-leaves : (new : Threaded) (left : QueueLists) (trap : PortTrap) → IsHeld sizes freed names v q
      → HasHolders sizes q → Keeps v.records q.clients q.ports trap → new ≡ with_records v trap.records new.stale
      → left ≡ with_ports q trap
      → IsHeld sizes freed names new left × (length new.records ≡ length v.records)
      × (length left.clients ≡ length q.clients) × HasHolders sizes left
  port-leaves new left trap was holders keeps is left_is = (
    ports-held sizes freed names v new q left was trap is left_is,
    ap (λ (w : Threaded). length w.records) is ∙ keeps.records,
    ap (λ (l : QueueLists). length l.clients) left_is ∙ keeps.clients,
    holders-ports sizes q left trap holders keeps.ports left_is,
  )

  -- a trap that changes no server shows its effect
  pub port-shows : (new : Threaded) (left : QueueLists) (trap : PortTrap) (effect : Effect) (said : Outcome)
      (then : After) → IsHeld sizes freed names v q → effect ≡ of_ports (held sizes freed names v q) trap
      → said ≡ trap.outcome → then ≡ trap.after
      → new ≡ with_records v trap.records new.stale → left ≡ with_ports q trap → MakesStaleIn v new
      → ((x : Node) → Contains v.stale x → Contains new.stale x)
      → Shows (snapshot_of sizes freed names q v) (snapshot_of sizes freed names left new) effect said then
  port-shows new left trap effect said then was done outcome after is left_is makes kept = record {
    outcome = outcome ∙ sym (ap (λ (e : Effect). e.outcome) done);
    after = after ∙ sym (ap (λ (e : Effect). e.after) done);
    state = ports-state sizes freed names v new q left was trap is left_is ∙ sym (ap (λ (e : Effect). e.state) done);
    stale = makes-held sizes freed names names v new q left was
        (ports-held sizes freed names v new q left was trap is left_is) makes;
    kept = kept;
    meter = ap (λ (w : Threaded). w.meter) is;
  }

  -- and one that is followed by the note of the port's server
  pub served-shows : (new : Threaded) (left : QueueLists) (trap : PortTrap) (end : Snapshot) (effect : Effect)
      (said : Outcome) (then : After) (t p : ℕ) → IsHeld sizes freed names v q
      → effect ≡ at_port (held sizes freed names v q) t p trap → said ≡ trap.outcome → then ≡ trap.after
      → new ≡ with_records v trap.records new.stale → left ≡ with_ports q trap → MakesStaleIn v new
      → ((x : Node) → Contains v.stale x → Contains new.stale x)
      → (trap.outcome ≡ outcome.Queued → trap.records ≡ v.records)
      → end.state
      ≡ record (held sizes freed names new left) { mutexes = served_at (held sizes freed names new left) t p said }
      → MakesStale (snapshot_of sizes freed names left new) end
      → KeepsStale (snapshot_of sizes freed names left new) end → end.meter ≡ new.meter
      → Shows (snapshot_of sizes freed names q v) end effect said then
  served-shows new left trap end effect said then t p was done said_is after is left_is makes kept idle state notes
      keeps meter =
      let s = held sizes freed names v q in
      let first = port-shows new left trap (of_ports s trap) said then was refl said_is after is left_is makes kept in
      record {
        outcome = said_is ∙ sym (ap (λ (e : Effect). e.outcome) done);
        after = after ∙ sym (ap (λ (e : Effect). e.after) done);
        state = state ∙ ap (λ (x : State). record x { mutexes = served_at x t p said }) first.state
            ∙ ap (λ (ms : List Mutex). record (of_ports s trap).state { mutexes = ms })
            (ap (served_at (of_ports s trap).state t p) said_is ∙ served-same s trap t p idle)
            ∙ sym (ap (λ (e : Effect). e.state) done);
        stale = makes-served (snapshot_of sizes freed names q v) (snapshot_of sizes freed names left new) end _ refl
            (ap (λ (w : Threaded). w.tickets) is) (ap (λ (l : QueueLists). l.mutexes) left_is) state first.stale notes;
        kept = λ x stale. keeps x (kept x stale);
        meter = meter ∙ first.meter;
      }

-- ---- who takes a call

module _ (records : List Record) (clients : List (List ℕ)) (ports : List Port) (t port : ℕ) where
  -- the receiver does, or nobody
  pub receive-takes : (P : ℕ → Type 0) → P t → IfSome (taker t (receive records clients ports t port).outcome) P
  receive-takes P here = by (port_at ports port).calls refl
    where
      by : (o : List QueuedCall) → (port_at ports port).calls ≡ o
          → IfSome (taker t (receive records clients ports t port).outcome) P
      by [] is = rw is tt
      by (first ∷ others) is = rw is here

  pub serve-takes : (number : ℕ) (P : ℕ → Type 0) → P t
      → IfSome (taker t (serve records clients ports t port number).outcome) P
  serve-takes number P here = by (port_at ports port).calls refl
    where
      by : (o : List QueuedCall) → (port_at ports port).calls ≡ o
          → IfSome (taker t (serve records clients ports t port number).outcome) P
      by [] is = rw is tt
      by (first ∷ others) is = rw is here

  -- no receipt queues a call
  pub receive-queues : {A : Type 0} → (receive records clients ports t port).outcome ≡ outcome.Queued → A
  receive-queues {A} = by (port_at ports port).calls refl
    where
      by : (o : List QueuedCall) → (port_at ports port).calls ≡ o
          → (receive records clients ports t port).outcome ≡ outcome.Queued → A
      by [] is = rw is (λ e. cc)
      by (first ∷ others) is = rw is (λ e. cc)

  pub serve-queues : {A : Type 0} (number : ℕ) → (serve records clients ports t port number).outcome ≡ outcome.Queued
      → A
  serve-queues {A} number = by (port_at ports port).calls refl
    where
      by : (o : List QueuedCall) → (port_at ports port).calls ≡ o
          → (serve records clients ports t port number).outcome ≡ outcome.Queued → A
      by [] is = rw is (λ e. cc)
      by (first ∷ others) is = rw is (λ e. cc)

  -- a call that is queued changes no record
  pub call-idle : (number : ℕ) → (call records clients ports t port number).outcome ≡ outcome.Queued
      → (call records clients ports t port number).records ≡ records
  call-idle number = by (port_at ports port).receivers refl
    where
      by : (o : List ℕ) → (port_at ports port).receivers ≡ o → (call records clients ports t port number).outcome
          ≡ outcome.Queued → (call records clients ports t port number).records ≡ records
      by [] is = rw is (λ e. refl)
      by (server ∷ others) is = rw is (λ e. cc)

module _ (s : State) (t : ℕ) (order : IsInOrder s) (runs : IsRunning s.records t) where
  -- who takes a call at once is Ready then
  pub call-takes : (port number : ℕ) → IfSome (taker t (call s.records s.clients s.ports t port number).outcome)
      (IsLive (live_in (call s.records s.clients s.ports t port number).records))
  call-takes port number = by (port_at s.ports port).receivers refl
    where
      by : (o : List ℕ) → (port_at s.ports port).receivers ≡ o
          → IfSome (taker t (call s.records s.clients s.ports t port number).outcome)
          (IsLive (live_in (call s.records s.clients s.ports t port number).records))
      by [] is = rw is tt
      by (server ∷ others) is =
          let queue : IsQueue s.records (Receiving port) (server ∷ others) =
          subst (λ ts. IsQueue s.records (Receiving port) ts) is
          (receivers-queue s.records t runs.0 runs.1.0 runs.1.1 s.clients s.ports s.mutexes order.queues port) in
          let change : Record → Record = λ r. record r { status = Ready; delivered = Some number } in
          rw is (live-status (change_record change s.records server) server Ready
          (status-now change s.records server (Receiving port) Ready (queue.each 0 server refl) (λ r. refl)) refl)

  -- who makes the trap still runs
  pub runs-still : (port : ℕ) (action : Action) (trap : PortTrap) → effect_of s t action ≡ at_port s t port trap
      → IsLive (live_in trap.records) t
  runs-still port action trap done =
      let left = ap (λ (e : Effect). at_number e.state.records t) (sym done)
      ∙ effect-leaves s t runs.0 runs.1.0 action runs.1.1 order.queues in
      live-status trap.records t (Running runs.0 runs.1.0)
      (ap (option_map (λ (r : Record). r.status)) left ∙ runs.1.1) refl

  -- and nothing is lent in a circle, if no record changes
  pub untied-still : (trap : PortTrap) → trap.records ≡ s.records → HasNoCycle (funding_of (of_ports s trap).state)
  untied-still trap idle = subst (λ (rs : List Record). HasNoCycle
      (funding_of (record s { records = rs; clients = trap.clients; ports = trap.ports }))) (sym idle) order.no_cycle
