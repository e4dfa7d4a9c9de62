-- A whole trap: its effect, and then the disposition of its thread.
use Rattle.lot_kernel.proofs.Common.{Action, After, Bool, Call, Effect, Ends, Exit, Funding, GoesOn, IsApart, IsBorrower, IsInOrder, IsQueue, IsThere, Leaves, Lend, List, Lock, MakesStale, Mutex, NoPort, Nobody, Node, None, Option, Outcome, Queued, QueuedCall, Ready, Receive, Receiving, Record, Running, RunsAlone, Serve, Served, Sizes, Snapshot, Some, State, Status, ToMutex, ToThread, TrapRefusal, Trapped, Unlock, Waiting, Yield, after_trap, all-pass, ap, arith, at_number, before_lock, change_record, cond, effect-apart, effect_of, ends_quantum, false, finish_trap, funding_of, holder_of, holders, is_none, lend_node, lend_of, length, length-map, length-set, makes-last, map, mutex_at, nat_le, port_at, refl, runs-alone, served_at, set_number, status_of, subst, sym, threads_of, trap_effect, trap_refusal, true, with_records, with_ticks, ℕ, [], ◌&&◌, ◌++◌, ◌+◌, ◌-◌, ◌<◌, ◌∙◌, ◌∷◌, ◌≡◌}
use Rattle.lot_machine.specs.declared.trap.Trap.TheVariants.{Reply as ReplyTo}
use Rattle.lot_machine.specs.declared.reply.Outcome.TheVariants as outcome
use Rattle.lot_kernel.proofs.Leaving.{receivers-queue}
use Rattle.lot_kernel.proofs.Refusing.{le-of}
use Rattle.lot_kernel.proofs.Serving.{before-count, served-count}
use Rattle.lot_kernel.proofs.Trapping.{change-count, lock-there, number-within, status-there}

-- a trap leaves the limits
pub effect-limits : (s : State) (t : ℕ) (action : Action) → (effect_of s t action).state.limits ≡ s.limits
effect-limits s t action = by (trap_refusal s t action) refl
  where
    done : (a : Action) → (trap_effect s t a).state.limits ≡ s.limits
    done Yield = refl
    done a = refl

    by : (o : Option TrapRefusal) → trap_refusal s t action ≡ o → (effect_of s t action).state.limits ≡ s.limits
    by None is = rw is (done action)
    by (Some refusal) is = rw is refl

-- its thread still has its processor alone, and leaves it with a status that isn't Running
pub effect-runs : (s : State) (t p used : ℕ) (action : Action) → IsInOrder s → status_of s.records t
    ≡ Some (Running p used) → IsApart p t (effect_of s t action).state.records (effect_of s t action).after
effect-runs s t p used action order runs = by (trap_refusal s t action) refl
  where
    alone : RunsAlone s.records p t
    alone = runs-alone s.records p t used order.runs_apart runs

    by : (o : Option TrapRefusal) → trap_refusal s t action ≡ o
        → IsApart p t (effect_of s t action).state.records (effect_of s t action).after
    by None is = rw is (effect-apart s p t t action order.runs_apart alone)
    by (Some refusal) is = rw is (order.runs_apart, alone, tt)

-- ---- whom a thread that leaves lends to

-- whoever leaves this way lends to somebody that is there, or to nobody
abbrev LendsThere : State → After → Type 0
LendsThere s after = (status : Status) → after ≡ Leaves status → (node : Node)
    → lend_node (lend_of s.limits status) ≡ Some node → IsBorrower (funding_of s) (lend_of s.limits status)

leaves-same : (now then : Status) → Leaves now ≡ Leaves then → now ≡ then
leaves-same now then e = cc

goes-nowhere : (status : Status) → ¬ (GoesOn ≡ Leaves status)
goes-nowhere status e = cc

ends-nowhere : (status : Status) → ¬ (Ends ≡ Leaves status)
ends-nowhere status e = cc

-- who leaves this way lends to nobody
lends-nothing : (limits : Sizes) (now status : Status) → lend_of limits now ≡ Nobody → Leaves now ≡ Leaves status
    → (node : Node) → ¬ (lend_node (lend_of limits status) ≡ Some node)
lends-nothing limits now status nobody e node to =
    let none : None ≡ Some node = ap lend_node (sym nobody ∙ ap (lend_of limits) (leaves-same now status e)) ∙ to in
    cc

idle-there : (s : State) (now : Status) → lend_of s.limits now ≡ Nobody → LendsThere s (Leaves now)
idle-there s now nobody status e node to = absurd (lends-nothing s.limits now status nobody e node to)

-- or to a thread or a mutex that is there
served-there : (limits : Sizes) (f : Funding) (records : List Record) (server : ℕ) → IsThere records server
    → f.lends ≡ map (λ r. lend_of limits r.status) records
    → (status : Status) → Leaves (Served server) ≡ Leaves status → (node : Node)
    → lend_node (lend_of limits status) ≡ Some node → IsBorrower f (lend_of limits status)
served-there limits f records server there lends status e =
    subst (λ (now : Status). (node : Node) → lend_node (lend_of limits now) ≡ Some node
    → IsBorrower f (lend_of limits now)) (leaves-same (Served server) status e) (by limits.without_lending count)
  where
    count : length f.lends ≡ length records
    count = ap (λ (ls : List Lend). length ls) lends ∙ length-map records (λ (r : Record). lend_of limits r.status)

    by : (b : Bool) → length f.lends ≡ length records → (node : Node)
        → lend_node (cond b Nobody (ToThread server)) ≡ Some node → IsBorrower f (cond b Nobody (ToThread server))
    by true many node to = cc
    by false many node to = (there.0, omega (arith, there.1, many))

waits-there : (limits : Sizes) (f : Funding) (mutexes : List Mutex) (m : ℕ) → IsThere mutexes m
    → f.owners ≡ map (λ x. x.owner) mutexes
    → (status : Status) → Leaves (Waiting m) ≡ Leaves status → (node : Node)
    → lend_node (lend_of limits status) ≡ Some node → IsBorrower f (lend_of limits status)
waits-there limits f mutexes m there owners status e =
    subst (λ (now : Status). (node : Node) → lend_node (lend_of limits now) ≡ Some node
    → IsBorrower f (lend_of limits now)) (leaves-same (Waiting m) status e) (by limits.without_lending)
  where
    by : (b : Bool) → (node : Node) → lend_node (cond b Nobody (ToMutex m)) ≡ Some node
        → IsBorrower f (cond b Nobody (ToMutex m))
    by true node to = cc
    by false node to = (there.0, omega (arith, there.1, ap (λ (os : List (Option ℕ)). length os) owners, length-map mutexes (λ (x : Mutex). x.owner)))

-- or to the holder of a port's server, if there is one for each port
queued-there : (limits : Sizes) (f : Funding) (mutexes : List Mutex) (port : ℕ) → 0 < port
    → length mutexes ≡ holders limits → f.owners ≡ map (λ x. x.owner) mutexes
    → (status : Status) → Leaves (Queued port) ≡ Leaves status → (node : Node)
    → lend_node (lend_of limits status) ≡ Some node → IsBorrower f (lend_of limits status)
queued-there limits f mutexes port some many owners status e =
    subst (λ (now : Status). (node : Node) → lend_node (lend_of limits now) ≡ Some node
    → IsBorrower f (lend_of limits now)) (leaves-same (Queued port) status e)
    (by limits.without_lending limits.queued_lend (nat_le port limits.ports) refl refl)
  where
    count : length f.owners ≡ holders limits
    count = ap (λ (os : List (Option ℕ)). length os) owners ∙ length-map mutexes (λ (x : Mutex). x.owner) ∙ many

    by : (without lends below : Bool) → limits.queued_lend ≡ lends → nat_le port limits.ports ≡ below → (node : Node)
        → lend_node (cond without Nobody (cond (lends && below) (ToMutex (holder_of limits port)) Nobody)) ≡ Some node
        → IsBorrower f (cond without Nobody (cond (lends && below) (ToMutex (holder_of limits port)) Nobody))
    by true lends below on low node to = cc
    by false false below on low node to = cc
    by false true false on low node to = cc
    by false true true on low node to =
        (omega (arith, some), omega (arith, count, ap (λ b. limits.mutexes + cond b limits.ports 0) on, le-of port limits.ports low))

module _ (s : State) (t p used : ℕ) (order : IsInOrder s) (runs : status_of s.records t ≡ Some (Running p used))
    (many : length s.mutexes ≡ holders s.limits) where
  call-there : (port number : ℕ) → IsThere s.ports port
      → LendsThere (trap_effect s t (Call port number)).state (trap_effect s t (Call port number)).after
  call-there port number at_port = by (port_at s.ports port).receivers refl
    where
      by : (o : List ℕ) → (port_at s.ports port).receivers ≡ o
          → LendsThere (trap_effect s t (Call port number)).state (trap_effect s t (Call port number)).after
      by [] is = rw is (queued-there s.limits (funding_of (record s { mutexes = served_at s t port outcome.Queued }))
          (served_at s t port outcome.Queued) port at_port.0 (served-count s t port outcome.Queued ∙ many) refl)
      by (server ∷ others) is =
          let queue : IsQueue s.records (Receiving port) (server ∷ others) =
          subst (λ ts. IsQueue s.records (Receiving port) ts) is
          (receivers-queue s.records t p used runs s.clients s.ports s.mutexes order.queues port) in
          let there = status-there s.records server (Receiving port) (queue.each 0 server refl) in
          let count = change-count (λ r. record r { status = Ready; delivered = Some number }) s.records server in
          rw is (served-there s.limits (funding_of
          (record s { records = change_record (λ r. record r { status = Ready; delivered = Some number }) s.records server; mutexes = served_at s t port (outcome.ServedBy server) }))
          (change_record (λ r. record r { status = Ready; delivered = Some number }) s.records server) server
          (there.0, omega (arith, there.1, count)) refl)

  receive-there : (port : ℕ) → LendsThere (trap_effect s t (Receive port)).state (trap_effect s t (Receive port)).after
  receive-there port = by (port_at s.ports port).calls refl
    where
      by : (o : List QueuedCall) → (port_at s.ports port).calls ≡ o
          → LendsThere (trap_effect s t (Receive port)).state (trap_effect s t (Receive port)).after
      by [] is = rw is (λ status e node to. absurd (lends-nothing s.limits (Receiving port) status refl e node to))
      by (first ∷ others) is = rw is (λ status e. absurd (goes-nowhere status e))

  serve-there : (port number : ℕ)
      → LendsThere (trap_effect s t (Serve port number)).state (trap_effect s t (Serve port number)).after
  serve-there port number = by (port_at s.ports port).calls refl
    where
      by : (o : List QueuedCall) → (port_at s.ports port).calls ≡ o
          → LendsThere (trap_effect s t (Serve port number)).state (trap_effect s t (Serve port number)).after
      by [] is = rw is (λ status e node to. absurd (lends-nothing s.limits (Receiving port) status refl e node to))
      by (first ∷ others) is = rw is (λ status e. absurd (goes-nowhere status e))

  lock-lends : (m : ℕ) → trap_refusal s t (Lock m) ≡ None
      → LendsThere (trap_effect s t (Lock m)).state (trap_effect s t (Lock m)).after
  lock-lends m allowed = by (mutex_at before m).owner refl
    where
      before : List Mutex
      before = before_lock s t m

      by : (o : Option ℕ) → (mutex_at before m).owner ≡ o
          → LendsThere (trap_effect s t (Lock m)).state (trap_effect s t (Lock m)).after
      by None is = rw is (λ status e. absurd (goes-nowhere status e))
      by (Some owner) is =
          let there = (lock-there s t m allowed).0 in
          let new : Mutex = record { owner = Some owner; waiters = (mutex_at before m).waiters ++ t ∷ [] } in
          rw is (waits-there s.limits (record (funding_of s) { owners = map (λ x. x.owner) (set_number before m new) })
          (set_number before m new) m
          (there.0, omega (arith, there.1, length-set before (m - 1) new, before-count s t m)) refl)

  unlock-there : (m d : ℕ) → LendsThere (trap_effect s t (Unlock m d)).state (trap_effect s t (Unlock m d)).after
  unlock-there m d = by (mutex_at s.mutexes m).waiters refl
    where
      by : (o : List ℕ) → (mutex_at s.mutexes m).waiters ≡ o
          → LendsThere (trap_effect s t (Unlock m d)).state (trap_effect s t (Unlock m d)).after
      by [] is = rw is (λ status e. absurd (goes-nowhere status e))
      by (w ∷ ws) is = rw is (λ status e node to. absurd (lends-nothing s.limits Ready status refl e node to))

  pub lends-there : (action : Action) → LendsThere (effect_of s t action).state (effect_of s t action).after
  lends-there action = by (trap_refusal s t action) refl
    where
      done : (a : Action) → trap_refusal s t a ≡ None → LendsThere (trap_effect s t a).state (trap_effect s t a).after
      done (Call port number) allowed = call-there port number
          (number-within s.ports port (all-pass ((is_none (at_number s.ports port), NoPort) ∷ []) allowed).0)
      done (Receive port) allowed = receive-there port
      done (ReplyTo number) allowed = λ status e. absurd (goes-nowhere status e)
      done (Serve port number) allowed = serve-there port number
      done (Lock m) allowed = lock-lends m allowed
      done (Unlock m d) allowed = unlock-there m d
      done Exit allowed = λ status e. absurd (ends-nowhere status e)
      done a allowed = idle-there s _ refl

      by : (o : Option TrapRefusal) → trap_refusal s t action ≡ o
          → LendsThere (effect_of s t action).state (effect_of s t action).after
      by None allowed = rw allowed (done action allowed)
      by (Some refusal) refused = rw refused (λ status e. absurd (goes-nowhere status e))

-- ---- the end of a trap

module _ (s now : State) (p t ticks used : ℕ) (e : Effect) (after : After) (state : now ≡ e.state)
    (limits : now.limits ≡ s.limits) (same : after ≡ e.after) where
  pub finished-state : record now { records = change_record (λ r. with_ticks ticks (after_trap after p used now.limits r)) now.records t }
      ≡ (finish_trap s p t ticks used e).state
  finished-state = rw (← limits, ← state, ← same) refl

-- what the whole trap answers
pub finished-reply : (s : State) (p t ticks used : ℕ) (e : Effect) (came : Outcome) (after : After) (ends : Bool)
    → came ≡ e.outcome → after ≡ e.after → ends ≡ ends_quantum after used s.limits.quantum
    → Trapped t ticks came ends ≡ (finish_trap s p t ticks used e).reply
finished-reply s p t ticks used e came after ends same_outcome same is =
    ap (λ o. Trapped t ticks o ends) same_outcome
    ∙ ap (Trapped t ticks e.outcome) (is ∙ ap (λ a. ends_quantum a used s.limits.quantum) same)

-- what a trap makes stale, and its thread's last change
pub makes-trap : (old mid new : Snapshot) → mid.state.limits ≡ old.state.limits → (t : ℕ) (change : Record → Record)
    (was : Record) → at_number old.state.records t ≡ Some was → at_number mid.state.records t ≡ Some was
    → new.state ≡ record mid.state { records = change_record change mid.state.records t } → MakesStale old mid
    → MakesStale mid new → MakesStale old new
makes-trap old mid new lending t change was left there is =
    makes-last (threads_of old.state old.stale old.meter) (threads_of mid.state mid.stale mid.meter)
    (threads_of new.state new.stale mid.meter) lending t was (change was) left there last
  where
    set : change_record change mid.state.records t ≡ set_number mid.state.records t (change was)
    set = rw there refl

    last : threads_of new.state new.stale mid.meter ≡ with_records (threads_of mid.state mid.stale mid.meter)
        (set_number mid.state.records t (change was)) new.stale
    last = ap (λ (x : State). threads_of x new.stale mid.meter) is
        ∙ ap (λ (records : List Record). with_records (threads_of mid.state mid.stale mid.meter) records new.stale) set
