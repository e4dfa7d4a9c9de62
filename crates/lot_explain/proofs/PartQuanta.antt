-- A thread is compensated only for less than a whole quantum, unless an event charged it more than one.
use Rattle.lot_explain.proofs.Common.{Action, After, All, All-push, All-set, Bool, Call, Command, Drawn, Ends, Event, Exit, GoesOn, IfSome, Kill, Leaves, List, Lock, MakeFunded, MakeThread, Mutex, None, Option, Port, QueuedCall, Receive, Record, Refusal, Serve, Sizes, Sleep, Some, State, Step, TrapRefusal, Unlock, Yield, after_trap, arith, at_number, at_number-suc, before_lock, call, change_each, change_record, checked_effect, command_effect, command_refusal, command_step, compensation_for, cond, draw, ended, event_effect, event_refusal, false, first_client, free_threads, get_or_from_slice_get, killed, lock, ltb-true, map, mutex_at, nat_lt, newborn, option_map, placed, port_at, ready_threads, receive, refl, released, released_by, reply, slice_get_within, slice_index, step, subst, suc, sym, thread_meant, thread_there, trap_effect, trap_refusal, true, unless_refused, unlock, unwrap_or, used_there, value_of, weight_of, winner, with_ticks, zero, ℕ, [], ◌+◌, ◌-◌, ◌<◌, ◌∙◌, ◌∷◌, ◌≡◌}
use Rattle.lot_machine.specs.declared.trap.Trap.TheVariants.{Reply as ReplyTo}
use Rattle.lot_machine.specs.declared.event.Event.TheVariants as event
use Rattle.lot_machine.specs.declared.record.Status.TheVariants as status

-- a thread that is compensated used a part of a quantum
abbrev pub IsPart : ℕ → Record → Type 0
IsPart quantum r = IfSome r.compensation (λ used. (0 < used) × (used < quantum))

-- so did each of these
abbrev pub AreParts : ℕ → List Record → Type 0
AreParts quantum records = All (IsPart quantum) records

-- the record of one of them
pub part-at : (quantum : ℕ) (records : List Record) (t : ℕ) (r : Record) → AreParts quantum records
    → at_number records t ≡ Some r → IsPart quantum r
part-at quantum records zero r parts is = cc
part-at quantum records (suc i) r parts is =
    let place = sym (at_number-suc records i) ∙ is in
    subst (IsPart quantum) (get_or_from_slice_get records i r r place) (parts i r (slice_get_within records i r place))

-- what a trap leaves of a compensation: the ticks used, if they are less than a quantum
after-part : (after : After) (p used : ℕ) (limits : Sizes) → 0 < used → (r : Record) → IsPart limits.quantum r
    → IsPart limits.quantum (after_trap after p used limits r)
after-part GoesOn p used limits some r part = at (nat_lt used limits.quantum)
  where
    at : (b : Bool) → IsPart limits.quantum
        (cond b (record r { status = status.Running p used }) (record r { status = status.Ready; compensation = None }))
    at true = part
    at false = tt
after-part (Leaves now) p used limits some r part = at (nat_lt used limits.quantum) refl
  where
    compensated : (b : Bool) → used < limits.quantum
        → IfSome (cond b None (Some used)) (λ ticks. (0 < ticks) × (ticks < limits.quantum))
    compensated true less = tt
    compensated false less = (some, less)

    at : (b : Bool) → nat_lt used limits.quantum ≡ b
        → IfSome (cond b (compensation_for limits used) None) (λ ticks. (0 < ticks) × (ticks < limits.quantum))
    at true less = compensated limits.without_compensation (ltb-true used limits.quantum less)
    at false more = tt
after-part Ends p used limits some r part = tt

-- a step that is refused changes nothing
unless-parts : (quantum : ℕ) (s : State) (o : Option Refusal) (next : Step) → AreParts quantum s.records
    → AreParts quantum next.state.records → AreParts quantum (unless_refused s o next).state.records
unless-parts quantum s None next parts after = after
unless-parts quantum s (Some refusal) next parts after = parts

module _ (quantum : ℕ) where
  -- one record changes
  change-parts : (change : Record → Record) → ((r : Record) → IsPart quantum r → IsPart quantum (change r))
      → (records : List Record) (t : ℕ) → AreParts quantum records → AreParts quantum (change_record change records t)
  change-parts change keeps records t parts = at (at_number records t) refl
    where
      at : (o : Option Record) → at_number records t ≡ o → AreParts quantum (change_record change records t)
      at None is = rw is parts
      at (Some r) is = rw is
          (All-set (IsPart quantum) records (t - 1) (change r) (keeps r (part-at quantum records t r parts is)) parts)

  -- several become Ready
  each-parts : (records : List Record) (threads : List ℕ) → AreParts quantum records
      → AreParts quantum (change_each released records threads)
  each-parts records [] parts = parts
  each-parts records (t ∷ threads) parts =
      each-parts (change_record released records t) threads (change-parts released (λ r part. part) records t parts)

  -- a new thread has no compensation
  placed-parts : (records : List Record) (free : List ℕ) → AreParts quantum records
      → AreParts quantum (placed records free newborn)
  placed-parts records [] parts = All-push (IsPart quantum) records newborn parts tt
  placed-parts records (place ∷ free) parts = All-set (IsPart quantum) records place newborn tt parts

  -- ---- traps

  call-parts : (s : State) (t port number : ℕ) → AreParts quantum s.records
      → AreParts quantum (call s.records s.clients s.ports t port number).records
  call-parts s t port number parts = at (port_at s.ports port).receivers refl
    where
      at : (o : List ℕ) → (port_at s.ports port).receivers ≡ o
          → AreParts quantum (call s.records s.clients s.ports t port number).records
      at [] is = rw is parts
      at (server ∷ others) is = rw is (change-parts (λ r. record r { status = status.Ready; delivered = Some number })
          (λ r part. part) s.records server parts)

  receive-parts : (records : List Record) (clients : List (List ℕ)) (ports : List Port) (server port : ℕ)
      → AreParts quantum records → AreParts quantum (receive records clients ports server port).records
  receive-parts records clients ports server port parts = at (port_at ports port).calls refl
    where
      at : (o : List QueuedCall) → (port_at ports port).calls ≡ o
          → AreParts quantum (receive records clients ports server port).records
      at [] is = rw is parts
      at (first ∷ others) is = rw is
          (change-parts (λ r. record r { status = status.Served server }) (λ r part. part) records first.caller parts)

  reply-parts : (s : State) (server number : ℕ) → AreParts quantum s.records
      → AreParts quantum (reply s.records s.clients s.ports server number).records
  reply-parts s server number parts =
      change-parts (λ r. record r { status = status.Ready; delivered = Some number }) (λ r part. part) s.records
      (unwrap_or (first_client s.clients server) 0) parts

  lock-parts : (records : List Record) (mutexes : List Mutex) (t m : ℕ) → AreParts quantum records
      → AreParts quantum (lock records mutexes t m).records
  lock-parts records mutexes t m parts = at (mutex_at mutexes m).owner refl
    where
      at : (o : Option ℕ) → (mutex_at mutexes m).owner ≡ o → AreParts quantum (lock records mutexes t m).records
      at None is = rw is parts
      at (Some owner) is = rw is parts

  unlock-parts : (s : State) (value : ℕ → ℕ) (m d : ℕ) → AreParts quantum s.records
      → AreParts quantum (unlock s.records s.mutexes value m d).records
  unlock-parts s value m d parts = at (mutex_at s.mutexes m).waiters refl
    where
      at : (o : List ℕ) → (mutex_at s.mutexes m).waiters ≡ o
          → AreParts quantum (unlock s.records s.mutexes value m d).records
      at [] is = rw is parts
      at (w ∷ ws) is =
          let place = unwrap_or (option_map (λ (drawn : Drawn). drawn.place) (winner (map value (w ∷ ws)) d)) 0 in
          rw is (change-parts (λ r. record r { status = status.Ready }) (λ r part. part) s.records
          (slice_index (w ∷ ws) place) parts)

  effect-parts : (s : State) (t : ℕ) (action : Action) → AreParts quantum s.records
      → AreParts quantum (trap_effect s t action).state.records
  effect-parts s t (Call port number) parts = call-parts s t port number parts
  effect-parts s t (Receive port) parts = receive-parts s.records s.clients s.ports t port parts
  effect-parts s t (ReplyTo number) parts = reply-parts s t number parts
  effect-parts s t (Serve port number) parts =
      let first = reply s.records s.clients s.ports t number in
      receive-parts first.records first.clients first.ports t port (reply-parts s t number parts)
  effect-parts s t (Lock m) parts = lock-parts s.records (before_lock s t m) t m parts
  effect-parts s t (Unlock m d) parts = unlock-parts s (value_of s) m d parts
  effect-parts s t action parts = parts

  checked-parts : (s : State) (t : ℕ) (action : Action) (o : Option TrapRefusal) → AreParts quantum s.records
      → AreParts quantum (checked_effect s o (trap_effect s t action)).state.records
  checked-parts s t action None parts = effect-parts s t action parts
  checked-parts s t action (Some refusal) parts = parts

  -- ---- draws

  draw-parts : (s : State) (p d : ℕ) → AreParts quantum s.records → AreParts quantum (draw s p d).state.records
  draw-parts s p d parts = at (winner (map (weight_of s) (ready_threads s.records)) d) refl
    where
      at : (o : Option Drawn) → winner (map (weight_of s) (ready_threads s.records)) d ≡ o
          → AreParts quantum (draw s p d).state.records
      at None is = rw is parts
      at (Some w) is =
          rw is (change-parts _ (λ r part. tt) s.records (slice_index (ready_threads s.records) w.place) parts)

  -- ---- commands

  killed-parts : (s : State) (t : ℕ) → AreParts quantum s.records → AreParts quantum (killed s t).records
  killed-parts s t parts = change-parts ended (λ r part. tt) (change_each released s.records (released_by s t)) t
      (each-parts s.records (released_by s t) parts)

  -- a command makes threads without a compensation, and ends some
  pub command-parts : (s : State) (c : Command) → AreParts quantum s.records
      → AreParts quantum (command_step s c).state.records
  command-parts s c parts = unless-parts quantum s (command_refusal s c) (command_effect s c) parts (of c)
    where
      of : (c : Command) → AreParts quantum (command_effect s c).state.records
      of (MakeThread name script) = placed-parts s.records (free_threads s) parts
      of (MakeFunded amount currency name script) = placed-parts s.records (free_threads s) parts
      of (Kill thread) = killed-parts s (unwrap_or (thread_meant s thread) 0) parts
      of other = parts

-- ---- events

-- no quantum ends late
abbrev pub IsOnTime : Event → Type 0
IsOnTime (event.Overrun p late) = ⊥
IsOnTime other = Unit {0}

-- such an event compensates only for less than a quantum
pub step-parts : (s : State) (e : Event) → IsOnTime e → AreParts s.limits.quantum s.records
    → AreParts s.limits.quantum (step s e).state.records
step-parts s e on_time parts =
    unless-parts s.limits.quantum s (event_refusal s e) (event_effect s e) parts (of e on_time)
  where
    quantum : ℕ
    quantum = s.limits.quantum

    of : (e : Event) → IsOnTime e → AreParts s.limits.quantum (event_effect s e).state.records
    of (event.Command c) on_time = command-parts quantum s c parts
    of (event.Draw p d) on_time = draw-parts quantum s p d parts
    of (event.Expire p) on_time = change-parts quantum _ (λ r part. tt) s.records (thread_there s p) parts
    of (event.Preempt p ticks) on_time = change-parts quantum _ (λ r part. tt) s.records (thread_there s p) parts
    of (event.Overrun p late) on_time = absurd on_time
    of (event.Wake t) on_time =
        change-parts quantum (λ r. record r { status = status.Ready }) (λ r part. part) s.records t parts
    of (event.Trap p ran action) on_time =
        let t = thread_there s p in
        let used = used_there s p + ran + 1 in
        let o = trap_refusal s t action in
        let effect = checked_effect s o (trap_effect s t action) in
        change-parts quantum (λ r. with_ticks (ran + 1) (after_trap effect.after p used s.limits r)) (after-part
        effect.after p used s.limits (omega arith)) effect.state.records t (checked-parts quantum s t action o parts)
