-- A trap leaves the record of the thread that makes it.
use Rattle.lot_kernel.proofs.Common.{Action, Call, Drawn, Exit, HasQueues, IsQueue, List, Lock, Mutex, NoPort, None, NothingToReply, Option, Port, Queued, QueuedCall, Ready, Receive, Receiving, Record, Running, Serve, Served, Sizes, Sleep, Some, State, Status, TrapRefusal, Unlock, Waiting, Yield, after_trap, all-pass, ap, at_number, before_lock, call, checked_effect, effect_of, false, first_client, get_or, get_or_from_slice_get, get_or_past, inl, inr, is_none, length, lock, map, mutex_at, option_map, port_at, queue-clients, queue-empty, receive, refl, replied-queues, reply, serve, slice_get, slice_get_cases, slice_index, some-injective, status_of, subst, sym, trap_effect, trap_refusal, unlock, unwrap_or, value_of, winner, ℕ, [], ◌<◌, ◌∙◌, ◌∷◌, ◌≡◌, ◌≤◌, ◌⊎◌}
use Rattle.lot_machine.specs.declared.trap.Trap.TheVariants.{Reply as ReplyTo}
use Rattle.lot_ports.proofs.Serving.{record-other}

-- a lock changes no record
lock-leaves : (records : List Record) (mutexes : List Mutex) (t m : ℕ)
    → at_number (lock records mutexes t m).records t ≡ at_number records t
lock-leaves records mutexes t m = by (mutex_at mutexes m).owner refl
  where
    by : (o : Option ℕ) → (mutex_at mutexes m).owner ≡ o
        → at_number (lock records mutexes t m).records t ≡ at_number records t
    by None is = rw is refl
    by (Some owner) is = rw is refl

module _ (records : List Record) (t p used : ℕ) (runs : status_of records t ≡ Some (Running p used)) where
  -- who has another status is another thread
  differ : (u : ℕ) (now : Status) → ¬ (Running p used ≡ now) → status_of records u ≡ Some now → ¬ (t ≡ u)
  differ u now differs is same =
      differs (some-injective (Running p used) now (sym runs ∙ ap (status_of records) same ∙ is))

  not-receiving : (port : ℕ) → ¬ (Running p used ≡ Receiving port)
  not-receiving port e = cc

  not-queued : (port : ℕ) → ¬ (Running p used ≡ Queued port)
  not-queued port e = cc

  not-served : (server : ℕ) → ¬ (Running p used ≡ Served server)
  not-served server e = cc

  not-waiting : (m : ℕ) → ¬ (Running p used ≡ Waiting m)
  not-waiting m e = cc

  -- who stands at a place of a queue of another status, or number 0 beyond it, is another thread
  queue-differ : (status : Status) (queue : List ℕ) (place : ℕ) → ¬ (Running p used ≡ status)
      → IsQueue records status queue → ¬ (t ≡ slice_index queue place)
  queue-differ status queue place differs is = from (slice_get_cases queue place).1
    where
      nobody : ¬ (t ≡ 0)
      nobody same = let none : None ≡ Some (Running p used) = sym (ap (status_of records) same) ∙ runs in cc

      from : ((x : ℕ) × (place < length queue) × (slice_get queue place ≡ Some x) × (get_or queue place x ≡ x))
          ⊎ ((length queue ≤ place) × (slice_get queue place ≡ None)) → ¬ (t ≡ slice_index queue place)
      from (inl (x, below, there, same)) e =
          differ x status differs (is.each place x there) (e ∙ get_or_from_slice_get queue place x 0 there)
      from (inr (past, none)) e = nobody (e ∙ get_or_past queue place 0 past)

  module _ (clients : List (List ℕ)) (ports : List Port) (mutexes : List Mutex)
      (queues : HasQueues records clients ports mutexes) where
    -- those who receive at a port, if it is there, do
    pub receivers-queue : (port : ℕ) → IsQueue records (Receiving port) (port_at ports port).receivers
    receivers-queue port = by (at_number ports port) refl
      where
        by : (o : Option Port) → at_number ports port ≡ o
            → IsQueue records (Receiving port) (unwrap_or o (record { calls = []; receivers = [] })).receivers
        by None none = queue-empty records (Receiving port)
        by (Some found) some = queues.receivers port found some

    callers-queue : (port : ℕ)
        → IsQueue records (Queued port) (map (λ (call : QueuedCall). call.caller) (port_at ports port).calls)
    callers-queue port = by (at_number ports port) refl
      where
        by : (o : Option Port) → at_number ports port ≡ o → IsQueue records (Queued port)
            (map (λ (call : QueuedCall). call.caller) (unwrap_or o (record { calls = []; receivers = [] })).calls)
        by None none = queue-empty records (Queued port)
        by (Some found) some = queues.callers port found some

    pub waiters-queue : (m : ℕ) → IsQueue records (Waiting m) (mutex_at mutexes m).waiters
    waiters-queue m = by (at_number mutexes m) refl
      where
        by : (o : Option Mutex) → at_number mutexes m ≡ o
            → IsQueue records (Waiting m) (unwrap_or o (record { owner = None; waiters = [] })).waiters
        by None none = queue-empty records (Waiting m)
        by (Some found) some = queues.waiters m found some

    call-leaves : (port number : ℕ)
        → at_number (call records clients ports t port number).records t ≡ at_number records t
    call-leaves port number = by (port_at ports port).receivers refl
      where
        by : (o : List ℕ) → (port_at ports port).receivers ≡ o
            → at_number (call records clients ports t port number).records t ≡ at_number records t
        by [] is = rw is refl
        by (server ∷ others) is =
            let queue : IsQueue records (Receiving port) (server ∷ others) =
            subst (λ ts. IsQueue records (Receiving port) ts) is (receivers-queue port) in
            rw is (record-other (λ r. record r { status = Ready; delivered = Some number }) records server t
            (differ server (Receiving port) (not-receiving port) (queue.each 0 server refl)))

    receive-leaves : (port : ℕ) → at_number (receive records clients ports t port).records t ≡ at_number records t
    receive-leaves port = by (port_at ports port).calls refl
      where
        by : (o : List QueuedCall) → (port_at ports port).calls ≡ o
            → at_number (receive records clients ports t port).records t ≡ at_number records t
        by [] is = rw is refl
        by (first ∷ others) is =
            let queue : IsQueue records (Queued port) (first.caller ∷ map (λ (call : QueuedCall). call.caller) others) =
            subst (λ (calls : List QueuedCall).
            IsQueue records (Queued port) (map (λ (call : QueuedCall). call.caller) calls)) is (callers-queue port) in
            rw is (record-other (λ r. record r { status = Served t }) records first.caller t
            (differ first.caller (Queued port) (not-queued port) (queue.each 0 first.caller refl)))

    reply-leaves : (number : ℕ) → is_none (first_client clients t) ≡ false
        → at_number (reply records clients ports t number).records t ≡ at_number records t
    reply-leaves number some = by (first_client clients t) refl some
      where
        by : (o : Option ℕ) → first_client clients t ≡ o → is_none o ≡ false
            → at_number (reply records clients ports t number).records t ≡ at_number records t
        by None none e = cc
        by (Some client) is e =
            rw is (record-other (λ r. record r { status = Ready; delivered = Some number }) records client t (differ
            client (Served t) (not-served t) ((queue-clients records clients ports mutexes queues t).each 0 client is)))

    unlock-leaves : (value : ℕ → ℕ) (m d : ℕ)
        → at_number (unlock records mutexes value m d).records t ≡ at_number records t
    unlock-leaves value m d = by (mutex_at mutexes m).waiters refl
      where
        by : (o : List ℕ) → (mutex_at mutexes m).waiters ≡ o
            → at_number (unlock records mutexes value m d).records t ≡ at_number records t
        by [] is = rw is refl
        by (w ∷ ws) is =
            let queue : IsQueue records (Waiting m) (w ∷ ws) =
            subst (λ ts. IsQueue records (Waiting m) ts) is (waiters-queue m) in
            let place = unwrap_or (option_map (λ (drawn : Drawn). drawn.place) (winner (map value (w ∷ ws)) d)) 0 in
            rw is (record-other (λ r. record r { status = Ready }) records (slice_index (w ∷ ws) place) t
            (queue-differ (Waiting m) (w ∷ ws) place (not-waiting m) queue))

-- a reply, and then a receipt
serve-leaves : (limits : Sizes) (records : List Record) (t p used : ℕ)
    (runs : status_of records t ≡ Some (Running p used)) (clients : List (List ℕ)) (ports : List Port)
    (mutexes : List Mutex) → HasQueues records clients ports mutexes
    → (port number : ℕ) → is_none (first_client clients t) ≡ false
    → at_number (serve records clients ports t port number).records t ≡ at_number records t
serve-leaves limits records t p used runs clients ports mutexes queues port number some =
    let replied = reply records clients ports t number in
    let left = replied-queues (λ after r. after_trap after 0 0 limits r)
    (λ st r. refl) records clients ports mutexes queues t p used runs number some in
    receive-leaves replied.records t p used left.1 replied.clients replied.ports mutexes left.0 port
    ∙ reply-leaves records t p used runs clients ports mutexes queues number some

-- a trap that is refused, or not
pub effect-leaves : (s : State) (t p used : ℕ) (action : Action) → status_of s.records t ≡ Some (Running p used)
    → HasQueues s.records s.clients s.ports s.mutexes
    → at_number (effect_of s t action).state.records t ≡ at_number s.records t
effect-leaves s t p used action runs queues = checked (trap_refusal s t action) refl
  where
    passed : (a : Action) → trap_refusal s t a ≡ None
        → at_number (trap_effect s t a).state.records t ≡ at_number s.records t
    passed (Call port number) allowed =
        call-leaves s.records t p used runs s.clients s.ports s.mutexes queues port number
    passed (Receive port) allowed = receive-leaves s.records t p used runs s.clients s.ports s.mutexes queues port
    passed (ReplyTo number) allowed = reply-leaves s.records t p used runs s.clients s.ports s.mutexes queues number
        (all-pass ((is_none (first_client s.clients t), NothingToReply) ∷ []) allowed).0
    passed (Serve port number) allowed =
        serve-leaves s.limits s.records t p used runs s.clients s.ports s.mutexes queues port number
        (all-pass ((is_none (at_number s.ports port), NoPort) ∷ (is_none (first_client s.clients t), NothingToReply)
        ∷ []) allowed).1.0
    passed (Lock m) allowed = lock-leaves s.records (before_lock s t m) t m
    passed (Unlock m d) allowed =
        unlock-leaves s.records t p used runs s.clients s.ports s.mutexes queues (value_of s) m d
    passed a allowed = refl

    checked : (o : Option TrapRefusal) → trap_refusal s t action ≡ o → at_number
        (checked_effect s (trap_refusal s t action) (trap_effect s t action)).state.records t ≡ at_number s.records t
    checked None allowed = rw allowed (passed action allowed)
    checked (Some refusal) refused = rw refused refl
