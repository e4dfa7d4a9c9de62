-- A state in order stays so through each event, and is sound.
use Rattle.lot_machine.proofs.Common.{Action, After, All-nil, AlreadyOwner, BadProcessor, BadTicks, Bool, Busy, Call, Command, DeadThread, Drawn, Effect, Ends, Event, Exit, FundsThere, GoesOn, HasEachOnce, HasNoCycle, HasQueues, IsGap, IsInOrder, IsQueue, IsSound, IsWithinBounds, Kill, Lend, LendsTo, List, Lock, LockCycle, Mutex, NoMutex, NoPort, NoThread, Nobody, None, NotAsleep, NotOwner, NotRunning, NothingToReply, Option, Port, QueuedCall, Receive, Record, Serve, Sizes, Some, State, Status, Target, ThreadRef, Ticket, TrapRefusal, Unlock, after_trap, ap, arith, at_number, before_lock, borrower, call, change_record, checked_effect, clients_of, command_effect, command_step, compensation_for, draw, event_effect, false, first_client, funding_of, get_or, get_or_from_slice_get, get_or_past, holders, inl, inr, is_asleep, is_bad_processor, is_dead_in, is_meant_by, is_no_mutex, is_none, is_ready, is_some, issuer_of, killed, left_by, lend_of, lends_on_to, length, map, mutex_at, nat_le, nat_lt, not, numbers, opening, option_and_then, option_any, option_flatten, option_map, or_parts, owns, port_holders, position, position-Some, ready_threads, receive, refl, replicate, reply, serve, slice_get, slice_get_cases, slice_get_within, slice_index, started, state_after, status_of, step, stopped, subst, suc, sym, target_of, thread_at, thread_meant, thread_on, thread_there, trap, trap_effect, trap_refusal, true, unwrap_or, used_there, value_of, wake, weight_of, winner, with_ticks, without_servers, zero, ℕ, [], ◌+◌, ◌-◌, ◌<◌, ◌==◌, ◌^◌, ◌∙◌, ◌∷◌, ◌≡◌, ◌≤◌, ◌⊎◌}
use Rattle.lot_machine.specs.declared.ticket.Target.TheVariants as target
use Rattle.lot_machine.specs.declared.record.Thread.{Thread}
use Rattle.lot_machine.specs.declared.record.Status.TheVariants as status
use Rattle.lot_machine.specs.declared.trap.Trap.TheVariants.{Reply as ReplyTo}
use Rattle.lot_machine.specs.declared.reference.ThreadRef.TheVariants as thread_ref
use Rattle.lot_machine.specs.declared.event.Event.TheVariants as event
use Rattle.lot_machine.proofs.Tickets.{at_number-suc, some-injective}
use Rattle.lot_machine.proofs.CommandsKept.{unrefused, all-pass}
use Rattle.lot_machine.proofs.EachOnce.{contains-nothing}
use Rattle.lot_machine.proofs.RecordsKept.{RunsAlone, apart}
use Rattle.lot_machine.proofs.Idle.{IsAlive, alive-of, filter-passes, is-ready, is-asleep, there-runs, there-alone, free-of, used-of, used-elsewhere}
use Rattle.lot_machine.proofs.StepChanges.{By, On, Leads, kept, Apart, Queues, HasAmount, HasRoom, AreRemovedDead, change-apart, change-gone, change-removed, change-room, change-there, change-queues, command-keeps, command-leads, kill-leads, not-dead, draw-leads, stopped-leads, wake-leads, checked-leads, finish-leads, passes, Console, IsConsole, HasGaps, AreRemovedIdle, HasSizesOf, change-sizes, change-idle, change-gaps}
use Rattle.lot_machine.proofs.KillKept.{kill-cycle, kill-queues, killed-idle}
use Rattle.lot_machine.proofs.Queues.{queue-empty, queues-changed, queues-live}
use Rattle.lot_machine.proofs.TrapQueues.{nowhere-from, stay-queues, call-queues, receive-queues, reply-queues, replied-queues, lock-queues, unlock-queues}
use Rattle.lot_machine.proofs.TrapCycles.{cycle-nobody, call-cycle, receive-cycle, reply-cycle, replied-cycle, lock-cycle, unlock-cycle, cycle-unserved_each, serve-server}
use Rattle.lot_machine.proofs.Servers.{queues-unserved, queues-served, lock-there, lock-queues_then, lock-fails, lock-untied, lock-apart}
use Rattle.lot_machine.proofs.Serving.{checked-clients}
use Rattle.lot_machine.proofs.BaseKept.{base-bounded}
use Rattle.lot_machine.proofs.Bounded.{sound}

-- ---- what allowed changes keep of the order

-- all but cycles, queues and what tickets fund
frame-order : {by : By} (s b : State) → IsInOrder s → Leads by s b → HasNoCycle (funding_of b)
    → FundsThere (funding_of b) → Queues b → AreRemovedDead b → AreRemovedIdle b → IsInOrder b
frame-order {by} s b order leads no_cycle there queues removed idle =
    let room = kept HasRoom (change-room by s) leads (order.amounts, order.ticket_count, order.bounds) in
    let runs = kept Apart (change-apart by s order.runs_apart) leads order.runs_apart in
    record { no_cycle = no_cycle; funds_there = there; runs_apart = runs; queues = queues; removed = removed; idle = idle; gaps = kept HasGaps (change-gaps by s) leads order.gaps; amounts = room.0; ticket_count = room.1; bounds = room.2 }

-- nothing makes a cycle, and those who wait stand where their statuses say
abbrev IsUntangled : State → Type 0
IsUntangled s = HasNoCycle (funding_of s) × Queues s

-- a thread that was dead and served nobody serves nobody
abbrev KeepsIdle : State → State → Type 0
KeepsIdle s b = (u : ℕ) → status_of s.records u ≡ Some status.Dead → clients_of s.clients u ≡ []
    → clients_of b.clients u ≡ []

-- what isn't the console's leaves what tickets fund
other-order : {by : By} (s b : State) → ¬ IsConsole by → IsInOrder s → Leads by s b → IsUntangled b → KeepsIdle s b
    → IsInOrder b
other-order {by} s b other order leads (no_cycle, queues) idle =
    let same = kept (HasSizesOf s) (change-sizes by s other) leads (refl, refl, refl) in
    frame-order s b order leads no_cycle
    (kept (λ a. FundsThere (funding_of a)) (change-there by s other) leads order.funds_there) queues
    (kept (λ a. (a.threads ≡ s.threads) × AreRemovedDead a) (change-removed by s other order.queues order.removed) leads
    (refl, order.removed)).1
    (λ u gone. let before : at_number s.threads u ≡ Some None = ap (λ (threads : List (Option Thread)).
    at_number threads u) (sym same.2) ∙ gone in idle u (order.removed u before) (order.idle u before))

-- a thread that a command means was made
pub meant-within : (s : State) (thread : ThreadRef) (t : ℕ) → thread_meant s thread ≡ Some t
    → (1 ≤ t) × (t ≤ length s.threads)
meant-within s (thread_ref.Named name) t e =
    from (position (option_any (λ (x : Thread). is_meant_by name x.name)) s.threads) refl e
  where
    from : (o : Option ℕ) → position (option_any (λ (x : Thread). is_meant_by name x.name)) s.threads ≡ o
        → option_map (λ place. place + 1) o ≡ Some t → (1 ≤ t) × (t ≤ length s.threads)
    from None is none = cc
    from (Some place) is some =
        let found = position-Some (option_any (λ (x : Thread). is_meant_by name x.name)) s.threads place None is in
        let next : place + 1 ≡ t = some-injective (place + 1) t some in
        let below : place < length s.threads = found.0 in (omega (arith, next), omega (arith, next, below))
meant-within s (thread_ref.Numbered zero) t e = cc
meant-within s (thread_ref.Numbered (suc i)) t e = from (slice_get s.threads i) refl
    (sym (ap (λ (o : Option (Option Thread)). option_map (λ (x : Thread). suc i) (option_flatten o))
    (at_number-suc s.threads i)) ∙ e)
  where
    from : (o : Option (Option Thread)) → slice_get s.threads i ≡ o
        → option_map (λ (x : Thread). suc i) (option_flatten o) ≡ Some t → (1 ≤ t) × (t ≤ length s.threads)
    from None is none = cc
    from (Some x) is some =
        let below : i < length s.threads = slice_get_within s.threads i x is in
        let next : suc i ≡ t = number x some in (omega (arith, next), omega (arith, next, below))
      where
        number : (x : Option Thread) → option_map (λ (y : Thread). suc i) x ≡ Some t → suc i ≡ t
        number None h = cc
        number (Some y) h = some-injective (suc i) t h

-- so it has a number
pub meant-number : (s : State) (thread : ThreadRef) (t : ℕ) → thread_meant s thread ≡ Some t → suc (t - 1) ≡ t
meant-number s thread t meant = omega (arith, (meant-within s thread t meant).0)

-- a thread that isn't dead is killed
kill-order : (s : State) (t : ℕ) → suc (t - 1) ≡ t → IsAlive s.records t → IsInOrder s → IsInOrder (killed s t)
kill-order s t number alive order = other-order s (killed s t) (λ e. cc) order (kill-leads s t alive)
    (kill-cycle s t order.no_cycle, kill-queues s order.queues t number) (λ u dead idle. killed-idle s t u idle)

command-order : (s : State) (c : Command) → IsInOrder s → IsInOrder (command_step s c).state
command-order s (Kill thread) order =
    unrefused IsInOrder s _ (command_effect s (Kill thread)) order (λ e.
    let passed = all-pass ((is_none (thread_meant s thread), NoThread)
    ∷ (option_any (is_dead_in s) (thread_meant s thread), DeadThread) ∷ []) e in
    at (thread_meant s thread) refl passed.0 passed.1.0)
  where
    at : (o : Option ℕ) → thread_meant s thread ≡ o → is_none o ≡ false → option_any (is_dead_in s) o ≡ false
        → IsInOrder (killed s (unwrap_or o 0))
    at None meant named alive = cc
    at (Some t) meant named alive = kill-order s t (meant-number s thread t meant) (not-dead s t alive) order
command-order s c order =
    let leads = command-leads s c in
    let funded = command-keeps s c order.no_cycle order.funds_there in
    frame-order s (command_step s c).state order leads funded.0 funded.1
    (kept Queues (change-queues (Console c) s refl order.gaps order.removed) leads order.queues)
    (kept AreRemovedDead (change-gone (Console c) s refl) leads order.removed)
    (kept AreRemovedIdle (change-idle (Console c) s refl order.queues) leads order.idle)

-- nor does an event of a processor
processor-order : (p : ℕ) (s b : State) → IsInOrder s → Leads (On p) s b → IsUntangled b → KeepsIdle s b → IsInOrder b
processor-order p s b order leads untangled idle = other-order s b (λ e. cc) order leads untangled idle

-- ---- draws and expiries

-- who stands at a place of the Ready threads changes
ready-queues : (s : State) (change : Record → Record) (place : ℕ) → Queues s → HasQueues
    (change_record change s.records (slice_index (ready_threads s.records) place)) s.clients s.ports s.mutexes
ready-queues s change place queues = from (slice_get_cases (ready_threads s.records) place).1
  where
    here : (t : ℕ) → slice_get (ready_threads s.records) place ≡ Some t → HasQueues
        (change_record change s.records (slice_index (ready_threads s.records) place)) s.clients s.ports s.mutexes
    here t is =
        let ready = is-ready (status_of s.records t)
        (filter-passes (λ u. option_any is_ready (status_of s.records u)) (numbers s.records) place t is) in
        let drawn : slice_index (ready_threads s.records) place ≡ t =
        get_or_from_slice_get (ready_threads s.records) place t 0 is in
        subst (λ u. HasQueues (change_record change s.records u) s.clients s.ports s.mutexes) (sym drawn)
        (queues-live s.records s.clients s.ports s.mutexes queues change t status.Ready ready refl)

    from : ((x : ℕ) × (place < length (ready_threads s.records)) × (slice_get (ready_threads s.records) place ≡ Some x)
        × (get_or (ready_threads s.records) place x ≡ x))
        ⊎ ((length (ready_threads s.records) ≤ place) × (slice_get (ready_threads s.records) place ≡ None)) → HasQueues
        (change_record change s.records (slice_index (ready_threads s.records) place)) s.clients s.ports s.mutexes
    from (inl (x, below, is, same)) = here x is
    from (inr (past, none)) =
        let nobody : slice_index (ready_threads s.records) place ≡ 0 =
        get_or_past (ready_threads s.records) place 0 past in
        subst (λ u. HasQueues (change_record change s.records u) s.clients s.ports s.mutexes) (sym nobody) queues

draw-order : (s : State) (p d : ℕ) → thread_on s.records p ≡ None → IsInOrder s → IsInOrder (draw s p d).state
draw-order s p d free order = processor-order p s (draw s p d).state order (draw-leads s p d free)
    (at (winner (map (weight_of s) (ready_threads s.records)) d) refl)
    (λ u dead idle. clients u (winner (map (weight_of s) (ready_threads s.records)) d) refl ∙ idle)
  where
    clients : (u : ℕ) (o : Option Drawn) → winner (map (weight_of s) (ready_threads s.records)) d ≡ o
        → clients_of (draw s p d).state.clients u ≡ clients_of s.clients u
    clients u None is = rw is refl
    clients u (Some w) is = rw is refl

    at : (o : Option Drawn) → winner (map (weight_of s) (ready_threads s.records)) d ≡ o
        → IsUntangled (draw s p d).state
    at None is = rw is (order.no_cycle, order.queues)
    at (Some w) is =
        let t = slice_index (ready_threads s.records) w.place in
        rw is (cycle-nobody s (started p) t (λ r. refl) order.no_cycle, ready-queues s (started p) w.place order.queues)

-- who sleeps stands in no queue
queues-sleeper : (s : State) (change : Record → Record) (t : ℕ) → status_of s.records t ≡ Some status.Asleep → Queues s
    → HasQueues (change_record change s.records t) s.clients s.ports s.mutexes
queues-sleeper s change t sleeps queues =
    queues-changed s.records s.clients s.ports s.mutexes queues change t
    (nowhere-from s.records s.clients s.ports s.mutexes t status.Asleep queues sleeps (λ p port e. cc) (λ p port e. cc)
    (λ m mutex e. cc) (λ server threads e. cc))

-- the thread that runs on the processor is taken off it
stopped-order : (s : State) (p ticks : ℕ) (compensation : Option ℕ) → is_none (thread_on s.records p) ≡ false
    → IsInOrder s → IsInOrder (stopped s (thread_there s p) ticks compensation).state
stopped-order s p ticks compensation some order =
    let there = there-runs s p some in
    let change : Record → Record =
    λ r. with_ticks ticks (record r { status = status.Ready; compensation = compensation }) in
    processor-order p s (stopped s (thread_there s p) ticks compensation).state order
    (stopped-leads s p ticks compensation some)
    (cycle-nobody s change (thread_there s p) (λ r. refl) order.no_cycle, queues-live s.records s.clients s.ports s.mutexes order.queues change (thread_there s p) (status.Running p there.0) there.1 refl)
    (λ u dead idle. idle)

-- a thread that sleeps is woken
wake-order : (s : State) (t : ℕ) → status_of s.records t ≡ Some status.Asleep → IsInOrder s → IsInOrder (wake s t).state
wake-order s t sleeps order =
    let change : Record → Record = λ r. record r { status = status.Ready } in
    other-order s (wake s t).state (λ e. cc) order (wake-leads s t sleeps)
    (cycle-nobody s change t (λ r. refl) order.no_cycle, queues-sleeper s change t sleeps order.queues)
    (λ u dead idle. idle)

-- ---- traps

-- if there is one, it is what stands in its place by default
default-of : {A : Type 0} (o : Option A) (d : A) → is_none o ≡ false → o ≡ Some (unwrap_or o d)
default-of None d e = cc
default-of (Some x) d e = refl

module _ (s : State) (order : IsInOrder s) (t p before ticks used : ℕ)
    (runs : status_of s.records t ≡ Some (status.Running p before)) where
  -- what becomes of the thread that made the trap
  abbrev finish : After → Record → Record
  finish after r = with_ticks ticks (after_trap after p used s.limits r)

  -- one that goes on lends to nobody
  goes-on : (r : Record) → lend_of s.limits (finish GoesOn r).status ≡ Nobody
  goes-on r = at (nat_lt used s.limits.quantum) refl
    where
      at : (b : Bool) → nat_lt used s.limits.quantum ≡ b → lend_of s.limits (finish GoesOn r).status ≡ Nobody
      at true is = rw is refl
      at false is = rw is refl

  -- the state after an effect
  abbrev finished : Effect → State
  finished e = record e.state { records = change_record (finish e.after) e.state.records t }

  -- one that changes nothing besides
  nothing-else : (after : After) → ((r : Record) → lend_of s.limits (finish after r).status ≡ Nobody)
      → IsUntangled (record s { records = change_record (finish after) s.records t })
  nothing-else after nobody =
      (cycle-nobody s (finish after) t nobody order.no_cycle, stay-queues finish (λ st r. refl) s.records s.clients s.ports s.mutexes order.queues t p before runs after)

  effect-untangled : (action : Action) → trap_refusal s t action ≡ None
      → IsUntangled (finished (trap_effect s t action))
  effect-untangled Exit allowed =
      let gone : State = record s { mutexes = left_by s t } in (
        cycle-nobody gone (finish Ends) t (λ r. refl)
            (cycle-unserved_each (λ server. server == t) s (port_holders s.limits) order.no_cycle),
        stay-queues finish (λ st r. refl) s.records s.clients s.ports gone.mutexes (queues-unserved s.records s.clients
            s.ports (λ server. server == t) s.mutexes (port_holders s.limits) order.queues) t p before runs Ends,
      )
  effect-untangled (Call port number) allowed =
      let passed = all-pass ((is_none (at_number s.ports port), NoPort) ∷ []) allowed in
      let there = default-of (at_number s.ports port) (record { calls = []; receivers = [] }) passed.0 in
      let called = call s.records s.clients s.ports t port number in (
        call-cycle finish (λ st r. refl) s goes-on order.no_cycle order.queues t p before runs port number there,
        queues-served (change_record (finish called.after) called.records t) called.clients called.ports s t port
            called.outcome (call-queues finish
            (λ st r. refl) s.records s.clients s.ports s.mutexes order.queues t p before runs port number there),
      )
  effect-untangled (Receive port) allowed =
      let passed = all-pass ((is_none (at_number s.ports port), NoPort) ∷ []) allowed in
      let there = default-of (at_number s.ports port) (record { calls = []; receivers = [] }) passed.0 in
      let received = receive s.records s.clients s.ports t port in (
        receive-cycle finish (λ st r. refl) s goes-on order.no_cycle order.queues t p before runs port there,
        queues-served (change_record (finish received.after) received.records t) received.clients received.ports s t
            port received.outcome (receive-queues finish
            (λ st r. refl) s.records s.clients s.ports s.mutexes order.queues t p before runs port there),
      )
  effect-untangled (ReplyTo number) allowed =
      let passed = all-pass ((is_none (first_client s.clients t), NothingToReply) ∷ []) allowed in
      (reply-cycle finish (λ st r. refl) s goes-on order.no_cycle order.queues t p before runs number, reply-queues finish (λ st r. refl) s.records s.clients s.ports s.mutexes order.queues t p before runs number passed.0)
  effect-untangled (Serve port number) allowed =
      let passed = all-pass ((is_none (at_number s.ports port), NoPort)
      ∷ (is_none (first_client s.clients t), NothingToReply) ∷ []) allowed in
      let there = default-of (at_number s.ports port) (record { calls = []; receivers = [] }) passed.0 in
      let replied = reply s.records s.clients s.ports t number in
      let middle : State = record s { records = replied.records; clients = replied.clients; ports = replied.ports } in
      let left = replied-queues finish
      (λ st r. refl) s.records s.clients s.ports s.mutexes order.queues t p before runs number passed.1.0 in
      let no_cycle = replied-cycle finish (λ st r. refl) s goes-on order.no_cycle order.queues t p before runs number in
      let served = serve s.records s.clients s.ports t port number in (
        subst (λ mutexes. HasNoCycle (funding_of
            (record s { records = change_record (finish served.after) served.records t; mutexes = mutexes })))
            (sym (serve-server s t port number))
            (receive-cycle finish (λ st r. refl) middle goes-on no_cycle left.0 t p before left.1 port there),
        queues-served (change_record (finish served.after) served.records t) served.clients served.ports s t port
            served.outcome (receive-queues finish
            (λ st r. refl) replied.records replied.clients replied.ports s.mutexes left.0 t p before left.1 port there),
      )
  effect-untangled (Lock m) allowed =
      let passed = all-pass ((is_no_mutex s m, NoMutex) ∷ (owns s t m, AlreadyOwner)
      ∷ (option_any (λ owner. lends_on_to (without_servers s) owner t) (mutex_at s.mutexes m).owner, LockCycle)
      ∷ []) allowed in
      let exists = (or_parts (is_none (at_number s.mutexes m)) (nat_lt s.limits.mutexes m) passed.0).0 in
      let there = default-of (at_number (before_lock s t m) m) (record { owner = None; waiters = [] })
      (lock-there s order.no_cycle t m exists) in
      let locking : State = record s { mutexes = before_lock s t m } in
      let queues = lock-queues_then s order.no_cycle t m order.queues in
      let other = lock-fails s order.no_cycle t m (λ owner. owner == t) passed.1.0 in (
        lock-cycle finish (λ st r. refl) locking goes-on (lock-untied s order.no_cycle t m) queues t p before runs m
            there other (lock-apart s order.no_cycle t m passed.1.1.0),
        lock-queues finish (λ st r. refl) s.records s.clients s.ports
            (before_lock s t m) queues t p before runs m there other,
      )
  effect-untangled (Unlock m d) allowed =
      let passed = all-pass ((is_no_mutex s m, NoMutex) ∷ (not (owns s t m), NotOwner) ∷ []) allowed in
      let there = default-of (at_number s.mutexes m) (record { owner = None; waiters = [] })
      (or_parts (is_none (at_number s.mutexes m)) (nat_lt s.limits.mutexes m) passed.0).0 in
      (unlock-cycle finish (λ st r. refl) s goes-on order.no_cycle order.queues t p before runs (value_of s) m d, unlock-queues finish (λ st r. refl) s.records s.clients s.ports s.mutexes order.queues t p before runs (value_of s) m d there)
  effect-untangled other allowed = nothing-else (trap_effect s t other).after (λ r. refl)

  checked-untangled : (action : Action) (o : Option TrapRefusal) → trap_refusal s t action ≡ o
      → IsUntangled (finished (checked_effect s o (trap_effect s t action)))
  checked-untangled action None allowed = effect-untangled action allowed
  checked-untangled action (Some refusal) refused = nothing-else GoesOn goes-on

pub trap-order : (s : State) (p t before used ran : ℕ) (action : Action)
    → status_of s.records t ≡ Some (status.Running p before) → RunsAlone s.records p t → IsInOrder s
    → IsInOrder (trap s p t used ran action).state
trap-order s p t before used ran action runs alone order =
    let effect = checked_effect s (trap_refusal s t action) (trap_effect s t action) in
    let works = checked-leads s t action (trap_refusal s t action) in
    let leads = finish-leads s p t (ran + 1) (used + ran + 1) effect works
    (alive-of s.records t (status.Running p before) runs (λ e. cc)) (λ queues q other. used-of s.records q t
    (status.Running p before) runs (used-elsewhere q p before (λ same. other (sym same)))) (λ apart. alone) in
    processor-order p s (trap s p t used ran action).state order leads
    (checked-untangled s order t p before (ran + 1) (used + ran + 1) runs action (trap_refusal s t action) refl)
    (λ u dead idle. checked-clients s order.queues t p before runs u dead action (trap_refusal s t action) ∙ idle)

-- ---- events and runs

pub step-order : (s : State) (e : Event) → IsInOrder s → IsInOrder (step s e).state
step-order s (event.Command command) order = command-order s command order
step-order s (event.Draw p d) order =
    unrefused IsInOrder s _ (draw s p d) order (λ e.
    let passed = all-pass ((is_bad_processor s p, BadProcessor) ∷ (is_some (thread_on s.records p), Busy) ∷ []) e in
    draw-order s p d (free-of (thread_on s.records p) passed.1.0) order)
step-order s (event.Expire p) order =
    unrefused IsInOrder s _ (event_effect s (event.Expire p)) order (λ e.
    let passed =
    all-pass ((is_bad_processor s p, BadProcessor) ∷ (is_none (thread_on s.records p), NotRunning) ∷ []) e in
    stopped-order s p (s.limits.quantum - used_there s p) None passed.1.0 order)
step-order s (event.Preempt p ticks) order =
    unrefused IsInOrder s _ (event_effect s (event.Preempt p ticks)) order (λ e.
    let passed = all-pass ((is_bad_processor s p, BadProcessor) ∷ (is_none (thread_on s.records p), NotRunning)
    ∷ (nat_lt s.limits.quantum (used_there s p + ticks), BadTicks) ∷ []) e in
    stopped-order s p ticks None passed.1.0 order)
step-order s (event.Overrun p ticks) order =
    unrefused IsInOrder s _ (event_effect s (event.Overrun p ticks)) order (λ e.
    let passed = all-pass ((is_bad_processor s p, BadProcessor) ∷ (is_none (thread_on s.records p), NotRunning)
    ∷ (nat_le (2 ^ 32) (s.limits.quantum + ticks), BadTicks) ∷ []) e in
    stopped-order s p (s.limits.quantum - used_there s p + ticks)
    (compensation_for s.limits (s.limits.quantum + ticks)) passed.1.0 order)
step-order s (event.Wake t) order =
    unrefused IsInOrder s _ (event_effect s (event.Wake t)) order (λ e.
    let passed = all-pass ((is_none (thread_at s.threads t), NoThread)
    ∷ (not (option_any is_asleep (status_of s.records t)), NotAsleep) ∷ []) e in
    wake-order s t
    (is-asleep (status_of s.records t) (passes (option_any is_asleep (status_of s.records t)) passed.1.0)) order)
step-order s (event.Trap p ran action) order =
    unrefused IsInOrder s _ (event_effect s (event.Trap p ran action)) order (λ e.
    let passed = all-pass ((is_bad_processor s p, BadProcessor) ∷ (is_none (thread_on s.records p), NotRunning)
    ∷ (nat_lt s.limits.quantum (used_there s p + ran + 1), BadTicks) ∷ []) e in
    let there = there-runs s p passed.1.0 in
    trap-order s p (thread_there s p) there.0 (used_there s p) ran action there.1
    (there-alone s p passed.1.0 order.runs_apart) order)

pub run-order : (s : State) (events : List Event) → IsInOrder s → IsInOrder (state_after s events)
run-order s [] order = order
run-order s (e ∷ events) order = run-order (step s e).state events (step-order s e order)

pub order-sound : (s : State) → IsInOrder s → IsSound s
order-sound s order = sound s order.no_cycle order.funds_there order.bounds order.runs_apart
    (base-bounded s order.amounts order.ticket_count order.bounds)

-- ---- the start

number-empty : {A : Type 0} (n : ℕ) → at_number {A = A} [] n ≡ None
number-empty zero = refl
number-empty (suc i) = at_number-suc [] i

place-replicate : {A : Type 0} (count : ℕ) (x y : A) (i : ℕ) → slice_get (replicate count x) i ≡ Some y → y ≡ x
place-replicate zero x y i e = cc
place-replicate (suc count) x y zero e = some-injective y x (sym e)
place-replicate (suc count) x y (suc i) e = place-replicate count x y i e

pub number-replicate : {A : Type 0} (count : ℕ) (x y : A) (n : ℕ) → at_number (replicate count x) n ≡ Some y → y ≡ x
number-replicate count x y zero e = cc
number-replicate count x y (suc i) e = place-replicate count x y i (sym (at_number-suc (replicate count x) i) ∙ e)

pub opening-order : (limits : Sizes) → IsWithinBounds limits → IsInOrder (opening limits)
opening-order limits bounds = record {
  no_cycle = record { funding = λ c (first, rest, issued, is). no-ticket first c issued; lends = λ t (s, lends, lead). no-lend t s lends };
  funds_there = λ n c funds. absurd (no-target n (target.Currency c) funds);
  runs_apart = apart [] (λ t u p used more on_t on_u. absurd (no-thread t (status.Running p used) on_t));
  queues = record {
    receivers = λ p port there. subst (λ (x : Port). IsQueue [] (status.Receiving p) x.receivers) (sym (number-replicate
        limits.ports (record { calls = []; receivers = [] }) port p there)) (queue-empty [] (status.Receiving p));
    callers = λ p port there.
        subst (λ (x : Port). IsQueue [] (status.Queued p) (map (λ (call : QueuedCall). call.caller) x.calls))
        (sym (number-replicate limits.ports (record { calls = []; receivers = [] }) port p there))
        (queue-empty [] (status.Queued p));
    waiters = λ m mutex there. subst (λ (x : Mutex). IsQueue [] (status.Waiting m) x.waiters) (sym (number-replicate
        (holders limits) (record { owner = None; waiters = [] }) mutex m there)) (queue-empty [] (status.Waiting m));
    served = λ server threads there. absurd (no-client server threads there);
    own_clients = λ server threads there. absurd (no-client server threads there);
    own_waiters = λ m owner mutex there owned.
        let free : None ≡ Some owner = sym (ap (λ (x : Mutex). x.owner) (number-replicate (holders limits)
        (record { owner = None; waiters = [] }) mutex m there)) ∙ owned in absurd (unowned owner free);
  };
  removed = λ t there. absurd (nobody t there);
  idle = λ t there. absurd (nobody t there);
  gaps = λ on. record { tickets = none-free; currencies = no-gap; threads = none-free };
  amounts = All-nil HasAmount;
  ticket_count = omega arith;
  bounds = bounds;
}
  where
    unowned : (owner : ℕ) → None ≡ Some owner → ⊥
    unowned owner e = cc

    no-place : {A : Type 0} (place : ℕ) (x : A) → ¬ (slice_get {X = A} [] place ≡ Some x)
    no-place place x e = cc

    none-free : {A : Type 0} → HasEachOnce [] (IsGap {A = A} [])
    none-free = record { each = λ place in_free. absurd (contains-nothing place in_free); all = λ place gap. absurd (no-place place None gap); once = λ x place other e f. absurd (no-place place x e) }

    no-gap : HasEachOnce [] (IsGap (opening limits).currencies)
    no-gap = record { each = λ place in_free. absurd (contains-nothing place in_free); all = λ place gap. absurd (named place gap); once = λ x place other e f. absurd (no-place place x e) }
      where
        named : (place : ℕ) → ¬ IsGap (opening limits).currencies place
        named zero gap = cc
        named (suc place) gap = cc

    nobody : (t : ℕ) → at_number {A = Option Thread} [] t ≡ Some None → ⊥
    nobody t e = let none : None ≡ Some None = sym (number-empty {A = Option Thread} t) ∙ e in cc

    no-ticket : (n c : ℕ) → issuer_of (funding_of (opening limits)) n ≡ Some c → ⊥
    no-ticket n c e = let none : None ≡ Some c =
        sym (ap (λ o. option_map (λ (t : Ticket). t.issuer) (option_flatten o)) (number-empty {A = Option Ticket} n))
        ∙ e in cc

    no-target : (n : ℕ) (to : Target) → target_of (funding_of (opening limits)) n ≡ Some to → ⊥
    no-target n to e = let none : None ≡ Some to =
        sym (ap (λ o. option_map (λ (t : Ticket). t.target) (option_flatten o)) (number-empty {A = Option Ticket} n))
        ∙ e in cc

    no-lend : (t s : ℕ) → LendsTo (funding_of (opening limits)) t s → ⊥
    no-lend t s e = let none : None ≡ Some s =
        sym (ap (option_and_then (borrower (funding_of (opening limits)))) (number-empty {A = Lend} t)) ∙ e in cc

    no-thread : (t : ℕ) (now : Status) → status_of [] t ≡ Some now → ⊥
    no-thread t now e = let none : None ≡ Some now =
        sym (ap (option_map (λ (r : Record). r.status)) (number-empty {A = Record} t)) ∙ e in cc

    no-client : (server : ℕ) (threads : List ℕ) → at_number {A = List ℕ} [] server ≡ Some threads → ⊥
    no-client server threads e = let none : None ≡ Some threads = sym (number-empty {A = List ℕ} server) ∙ e in cc

-- each state that is reached is in order
pub reached-order : (limits : Sizes) (events : List Event) → IsWithinBounds limits
    → IsInOrder (state_after (opening limits) events)
reached-order limits events bounds = run-order (opening limits) events (opening-order limits bounds)

-- and so it is sound
pub reached-sound : (limits : Sizes) (events : List Event) → IsWithinBounds limits
    → IsSound (state_after (opening limits) events)
reached-sound limits events bounds =
    order-sound (state_after (opening limits) events) (reached-order limits events bounds)
