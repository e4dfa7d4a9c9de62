-- In a reachable state each served thread is among the clients of its server.
use Rattle.lot_laws.proofs.Common.{Action, After, BadProcessor, BadTicks, Bool, By, Call, Command, DeadThread, Drawn, Effect, Ends, Event, Exit, GoesOn, IsAmong, IsInOrder, IsReachable, Keeps, Kill, Leaves, List, Lock, MakeFunded, MakeThread, Mutex, NewThread, NoPort, NoThread, None, NotRunning, NothingToReply, Option, Port, PutClients, PutRecord, QueuedCall, Receive, Record, Serve, Some, State, Status, TrapRefusal, Unlock, after_trap, all-pass, among-append_left, among-append_right, ap, arith, at_number, at_number-map, at_number-suc, before_lock, by_event, call, change_each, change_record, checked_effect, client-waits, clients_of, command_effect, command_refusal, command_step, compensation_for, cond, contains-at, draw, drop, each-now, ended, event_effect, false, first_client, free_threads, get_or, inl, inr, is_bad_processor, is_dead_in, is_none, kept, killed, killed-dead, killed-either, length, length-append, length-set, lock, map, meant-number, mutex_at, nat_lt, newborn, next_place, number-next, number-placed, number-set, number-set_same, number-there, numbered, of_mutexes, of_ports, opening, opening-order, option_any, option_map, placed, port_at, ready_threads, receive, refl, released, released_by, reply, set_number, slice_get, slice_get_cases, slice_index, some-injective, started, state_after, status-changed, status-now, status-other, status_of, step, step-leads, step-order, stopped, subst, suc, sym, there-runs, thread_meant, thread_on, thread_there, trap, trap_effect, trap_refusal, true, unlock, unrefused, unwrap_or, used_there, value_of, weight_of, winner, with_ticks, without, zero, ℕ, [], ◌++◌, ◌+◌, ◌-◌, ◌<◌, ◌∙◌, ◌∷◌, ◌≡◌, ◌≤◌, ◌⊎◌}
use Rattle.lot_machine.specs.declared.record.Status.TheVariants as status
use Rattle.lot_machine.specs.declared.trap.Trap.TheVariants.{Reply as ReplyTo}
use Rattle.lot_machine.specs.declared.event.Event.TheVariants as event
use Rattle.lot_laws.proofs.WaitsListed.{left-threads}

-- as many lists of clients as records
abbrev HasLists : State → Type 0
HasLists s = length s.clients ≡ length s.records

-- each thread that is served is among the clients of its server
abbrev pub AreListed : List Record → List (List ℕ) → Type 0
AreListed records clients = (u server : ℕ) → status_of records u ≡ Some (status.Served server)
    → IsAmong (clients_of clients server) u

served-same : (m n : ℕ) → status.Served m ≡ status.Served n → m ≡ n
served-same m n e = cc

change-lists : (by : By) (s : State) → Keeps by s HasLists
change-lists by s a (NewThread t) allowed same = by-free (free_threads a)
  where
    by-free : (free : List ℕ) → length (placed a.clients free []) ≡ length (placed a.records free newborn)
    by-free [] = length-append a.clients ([] ∷ []) ∙ ap (λ n. n + 1) same ∙ sym (length-append a.records (newborn ∷ []))
    by-free (i ∷ free) = length-set a.clients i [] ∙ same ∙ sym (length-set a.records i newborn)
change-lists by s a (PutRecord t r) allowed same = same ∙ sym (length-set a.records (t - 1) r)
change-lists by s a (PutClients t clients) allowed same = length-set a.clients (t - 1) clients ∙ same
change-lists by s a other allowed same = same

step-lists : (s : State) (e : Event) → HasLists s → HasLists (step s e).state
step-lists s e same = kept HasLists (change-lists (by_event s e) s) (step-leads s e) same

-- ---- changes

-- a thread that isn't served afterwards
keep-change : (change : Record → Record) (records : List Record) (clients : List (List ℕ)) (t : ℕ)
    → ((r : Record) (v : ℕ) → ¬ ((change r).status ≡ status.Served v)) → AreListed records clients
    → AreListed (change_record change records t) clients
keep-change change records clients t other listed u v is = from (status-changed change records t u)
  where
    from : (status_of (change_record change records t) u ≡ status_of records u) ⊎ ((u ≡ t) × ((r : Record)
        × (at_number records t ≡ Some r) × (status_of (change_record change records t) u ≡ Some (change r).status)))
        → IsAmong (clients_of clients v) u
    from (inl same) = listed u v (sym same ∙ is)
    from (inr (at, (r, there, new))) =
        absurd (other r v (some-injective (change r).status (status.Served v) (sym new ∙ is)))

-- what stands at a number that is set
set-clients : (clients : List (List ℕ)) (server v : ℕ) (x : List ℕ)
    → (clients_of (set_number clients server x) v ≡ clients_of clients v)
    ⊎ ((v ≡ suc (server - 1)) × (clients_of (set_number clients server x) v ≡ x))
set-clients clients server v x = from (number-set clients server x v)
  where
    from : (at_number (set_number clients server x) v ≡ at_number clients v)
        ⊎ ((v ≡ suc (server - 1)) × (at_number (set_number clients server x) v ≡ Some x))
        → (clients_of (set_number clients server x) v ≡ clients_of clients v)
        ⊎ ((v ≡ suc (server - 1)) × (clients_of (set_number clients server x) v ≡ x))
    from (inl same) = inl (ap (λ (o : Option (List ℕ)). unwrap_or o []) same)
    from (inr (at, new)) = inr (at, ap (λ (o : Option (List ℕ)). unwrap_or o []) new)

-- a thread that is served afterwards, by a server whose last client it is
keep-serve : (change : Record → Record) (records : List Record) (clients : List (List ℕ)) (caller server : ℕ)
    (these : List ℕ) → at_number clients server ≡ Some these → ((r : Record) → (change r).status ≡ status.Served server)
    → AreListed records clients → AreListed (change_record change records caller)
    (set_number clients server (clients_of clients server ++ caller ∷ []))
keep-serve change records clients caller server these there serves listed u v is =
    from (status-changed change records caller u)
  where
    here : clients_of (set_number clients server (clients_of clients server ++ caller ∷ [])) server
        ≡ clients_of clients server ++ caller ∷ []
    here = ap (λ (o : Option (List ℕ)). unwrap_or o [])
        (number-set_same clients server (clients_of clients server ++ caller ∷ []) these there)

    older : IsAmong (clients_of clients v) u
        → (clients_of (set_number clients server (clients_of clients server ++ caller ∷ [])) v ≡ clients_of clients v)
        ⊎ ((v ≡ suc (server - 1)) × (clients_of (set_number clients server (clients_of clients server ++ caller ∷ [])) v
        ≡ clients_of clients server ++ caller ∷ []))
        → IsAmong (clients_of (set_number clients server (clients_of clients server ++ caller ∷ [])) v) u
    older among (inl same) = subst (λ (xs : List ℕ). IsAmong xs u) (sym same) among
    older among (inr (at, new)) =
        let number : v ≡ server = at ∙ number-there clients server these there in
        let before : IsAmong (clients_of clients server) u =
        subst (λ k. IsAmong (clients_of clients k) u) number among in
        subst (λ (xs : List ℕ). IsAmong xs u) (sym new)
        (among-append_left (clients_of clients server) (caller ∷ []) before.0 u before.1)

    from : (status_of (change_record change records caller) u ≡ status_of records u)
        ⊎ ((u ≡ caller) × ((r : Record) × (at_number records caller ≡ Some r)
        × (status_of (change_record change records caller) u ≡ Some (change r).status)))
        → IsAmong (clients_of (set_number clients server (clients_of clients server ++ caller ∷ [])) v) u
    from (inl same) =
        older (listed u v (sym same ∙ is)) (set-clients clients server v (clients_of clients server ++ caller ∷ []))
    from (inr (at, (r, found, new))) =
        let number : server ≡ v = served-same server v
        (some-injective (status.Served server) (status.Served v) (sym (ap Some (serves r)) ∙ sym new ∙ is)) in
        subst
        (λ k. IsAmong (clients_of (set_number clients server (clients_of clients server ++ caller ∷ [])) k) u) number
        (subst (λ (xs : List ℕ). IsAmong xs u) (sym here)
        (among-append_right (clients_of clients server) (caller ∷ []) 0 u (ap Some (sym at))))

-- the first client of a server, which isn't served afterwards
keep-reply : (change : Record → Record) (records : List Record) (clients : List (List ℕ)) (client server : ℕ)
    → first_client clients server ≡ Some client → status_of records client ≡ Some (status.Served server)
    → ((r : Record) → (change r).status ≡ status.Ready) → AreListed records clients
    → AreListed (change_record change records client) (set_number clients server (drop 1 (clients_of clients server)))
keep-reply change records clients client server first waits ready listed u v is =
    from (status-changed change records client u)
  where
    other : ¬ (u ≡ client)
    other same =
        let now : status_of (change_record change records client) u ≡ Some status.Ready =
        ap (status_of (change_record change records client)) same
        ∙ status-now change records client (status.Served server) status.Ready waits ready in
        let never : Some status.Ready ≡ Some (status.Served v) = sym now ∙ is in cc

    rest : (xs : List ℕ) → slice_get xs 0 ≡ Some client → IsAmong xs u → IsAmong (drop 1 xs) u
    rest [] at (place, e) = cc
    rest (x ∷ xs) at (zero, e) = absurd (other (sym (some-injective x u e) ∙ some-injective x client at))
    rest (x ∷ xs) at (suc place, e) = (place, e)

    older : IsAmong (clients_of clients v) u
        → (clients_of (set_number clients server (drop 1 (clients_of clients server))) v ≡ clients_of clients v)
        ⊎ ((v ≡ suc (server - 1)) × (clients_of (set_number clients server (drop 1 (clients_of clients server))) v
        ≡ drop 1 (clients_of clients server)))
        → IsAmong (clients_of (set_number clients server (drop 1 (clients_of clients server))) v) u
    older among (inl same) = subst (λ (xs : List ℕ). IsAmong xs u) (sym same) among
    older among (inr (at, new)) =
        let number : v ≡ server = at ∙ positive server first in
        subst (λ (xs : List ℕ). IsAmong xs u) (sym new)
        (rest (clients_of clients server) first (subst (λ k. IsAmong (clients_of clients k) u) number among))
      where
        positive : (k : ℕ) → first_client clients k ≡ Some client → suc (k - 1) ≡ k
        positive zero e = cc
        positive (suc i) e = omega arith

    from : (status_of (change_record change records client) u ≡ status_of records u)
        ⊎ ((u ≡ client) × ((r : Record) × (at_number records client ≡ Some r)
        × (status_of (change_record change records client) u ≡ Some (change r).status)))
        → IsAmong (clients_of (set_number clients server (drop 1 (clients_of clients server))) v) u
    from (inl same) =
        older (listed u v (sym same ∙ is)) (set-clients clients server v (drop 1 (clients_of clients server)))
    from (inr (at, _)) = absurd (other at)

-- ---- traps

-- a thread that has a status has a list of clients
list-there : (s : State) (t : ℕ) (now : Status) → HasLists s → status_of s.records t ≡ Some now
    → (these : List ℕ) × (at_number s.clients t ≡ Some these)
list-there s zero now same is = cc
list-there s (suc i) now same is = let within = numbered s.records (suc i) now is in
    from (slice_get_cases s.clients i).1 (omega (arith, within.1, same))
  where
    from : ((x : List ℕ) × (i < length s.clients) × (slice_get s.clients i ≡ Some x) × (get_or s.clients i x ≡ x))
        ⊎ ((length s.clients ≤ i) × (slice_get s.clients i ≡ None)) → i < length s.clients
        → (these : List ℕ) × (at_number s.clients (suc i) ≡ Some these)
    from (inl (x, _, here, _)) low = (x, at_number-suc s.clients i ∙ here)
    from (inr (past, _)) low = absurd (omega (arith, past, low))

-- The thread that makes a trap, which runs. How it leaves its processor says its new status; if it stays or ends it isn't served.
module _ (finish : After → Record → Record)
    (leaves : (now : Status) (r : Record) → (finish (Leaves now) r).status ≡ now)
    (stays : (r : Record) (v : ℕ) → ¬ ((finish GoesOn r).status ≡ status.Served v))
    (ends : (r : Record) (v : ℕ) → ¬ ((finish Ends r).status ≡ status.Served v)) (s : State) (order : IsInOrder s)
    (lists : HasLists s) (listed : AreListed s.records s.clients) (t p used : ℕ)
    (runs : status_of s.records t ≡ Some (status.Running p used)) where
  -- with a status that isn't Served
  leaves-other : (now : Status) → ((v : ℕ) → ¬ (now ≡ status.Served v)) → (r : Record) (v : ℕ)
      → ¬ ((finish (Leaves now) r).status ≡ status.Served v)
  leaves-other now other r v e = other v (sym (leaves now r) ∙ e)

  -- the state after an effect
  abbrev Done : Effect → Type 0
  Done e = AreListed (change_record (finish e.after) e.state.records t) e.state.clients

  ready-not : (r : Record) (v : ℕ) → ¬ (status.Ready ≡ status.Served v)
  ready-not r v e = cc

  call-listed : (port number : ℕ) → Done (of_ports s (call s.records s.clients s.ports t port number))
  call-listed port number = at (port_at s.ports port).receivers refl
    where
      served : (server : ℕ) (others : List ℕ) → (port_at s.ports port).receivers ≡ server ∷ others
          → AreListed (change_record (finish (Leaves (status.Served server)))
          (change_record (λ r. record r { status = status.Ready; delivered = Some number }) s.records server) t)
          (set_number s.clients server (clients_of s.clients server ++ t ∷ []))
      served server others is =
          let (these, there) = list-there s server (status.Receiving port) lists (receives server others is) in
          keep-serve (finish (Leaves (status.Served server)))
          (change_record (λ r. record r { status = status.Ready; delivered = Some number }) s.records server) s.clients
          t server these there (leaves (status.Served server))
          (keep-change (λ r. record r { status = status.Ready; delivered = Some number }) s.records s.clients server
          (λ r v e. ready-not r v e) listed)
        where
          receives : (server : ℕ) (others : List ℕ) → (port_at s.ports port).receivers ≡ server ∷ others
              → status_of s.records server ≡ Some (status.Receiving port)
          receives server others = by (at_number s.ports port) refl
            where
              by : (o : Option Port) → at_number s.ports port ≡ o
                  → (unwrap_or o (record { calls = []; receivers = [] })).receivers ≡ server ∷ others
                  → status_of s.records server ≡ Some (status.Receiving port)
              by None there e = cc
              by (Some x) there e =
                  (order.queues.receivers port x there).each 0 server (ap (λ (xs : List ℕ). slice_get xs 0) e)

      at : (o : List ℕ) → (port_at s.ports port).receivers ≡ o
          → Done (of_ports s (call s.records s.clients s.ports t port number))
      at [] is = rw is (keep-change (finish (Leaves (status.Queued port))) s.records s.clients t
          (leaves-other (status.Queued port) (λ v e. cc)) listed)
      at (server ∷ others) is = rw is (served server others is)

  -- after a reply, or at once
  receive-listed : (a : State) (port : ℕ) (these : List ℕ) → at_number a.clients t ≡ Some these
      → AreListed a.records a.clients → Done (of_ports a (receive a.records a.clients a.ports t port))
  receive-listed a port these there before = at (port_at a.ports port).calls refl
    where
      at : (o : List QueuedCall) → (port_at a.ports port).calls ≡ o
          → Done (of_ports a (receive a.records a.clients a.ports t port))
      at [] is = rw is (keep-change (finish (Leaves (status.Receiving port))) a.records a.clients t
          (leaves-other (status.Receiving port) (λ v e. cc)) before)
      at (first ∷ others) is =
          rw is
          (keep-change (finish GoesOn) (change_record (λ r. record r { status = status.Served t }) a.records
          first.caller) (set_number a.clients t (clients_of a.clients t ++ first.caller ∷ [])) t stays
          (keep-serve (λ r. record r { status = status.Served t }) a.records a.clients first.caller t these there
          (λ r. refl) before))

  replied-listed : (number : ℕ) → is_none (first_client s.clients t) ≡ false → AreListed
      (reply s.records s.clients s.ports t number).records (reply s.records s.clients s.ports t number).clients
  replied-listed number some = at (first_client s.clients t) refl some
    where
      at : (o : Option ℕ) → first_client s.clients t ≡ o → is_none o ≡ false → AreListed
          (reply s.records s.clients s.ports t number).records (reply s.records s.clients s.ports t number).clients
      at None is none = cc
      at (Some client) is some_client =
          rw is (keep-reply (λ r. record r { status = status.Ready; delivered = Some number }) s.records s.clients
          client t is (client-waits s order.queues t client (0, is)) (λ r. refl) listed)

  own-list : (these : List ℕ) × (at_number s.clients t ≡ Some these)
  own-list = list-there s t (status.Running p used) lists runs

  lock-listed : (mutexes : List Mutex) (m : ℕ) → Done (of_mutexes s (lock s.records mutexes t m))
  lock-listed mutexes m = at (mutex_at mutexes m).owner refl
    where
      at : (o : Option ℕ) → (mutex_at mutexes m).owner ≡ o → Done (of_mutexes s (lock s.records mutexes t m))
      at None is = rw is (keep-change (finish GoesOn) s.records s.clients t stays listed)
      at (Some owner) is = rw is (keep-change (finish (Leaves (status.Waiting m))) s.records s.clients t
          (leaves-other (status.Waiting m) (λ v e. cc)) listed)

  unlock-listed : (value : ℕ → ℕ) (m d : ℕ) → Done (of_mutexes s (unlock s.records s.mutexes value m d))
  unlock-listed value m d = at (mutex_at s.mutexes m).waiters refl
    where
      at : (o : List ℕ) → (mutex_at s.mutexes m).waiters ≡ o
          → Done (of_mutexes s (unlock s.records s.mutexes value m d))
      at [] is = rw is (keep-change (finish GoesOn) s.records s.clients t stays listed)
      at (w ∷ ws) is =
          let place = unwrap_or (option_map (λ (drawn : Drawn). drawn.place) (winner (map value (w ∷ ws)) d)) 0 in
          let passed = slice_index (w ∷ ws) place in
          rw is
          (keep-change (finish (Leaves status.Ready)) (change_record (λ r. record r { status = status.Ready }) s.records
          passed) s.clients t (leaves-other status.Ready (λ v e. cc))
          (keep-change (λ r. record r { status = status.Ready }) s.records s.clients passed
          (λ r v e. ready-not r v e) listed))

  effect-listed : (action : Action) → trap_refusal s t action ≡ None → Done (trap_effect s t action)
  effect-listed Exit allowed = keep-change (finish Ends) s.records s.clients t ends listed
  effect-listed (Call port number) allowed = call-listed port number
  effect-listed (Receive port) allowed = receive-listed s port own-list.0 own-list.1 listed
  effect-listed (ReplyTo number) allowed =
      let passed = all-pass ((is_none (first_client s.clients t), NothingToReply) ∷ []) allowed in
      let replied = reply s.records s.clients s.ports t number in
      keep-change (finish GoesOn) replied.records replied.clients t stays (replied-listed number passed.0)
  effect-listed (Serve port number) allowed =
      let passed = all-pass ((is_none (at_number s.ports port), NoPort)
      ∷ (is_none (first_client s.clients t), NothingToReply) ∷ []) allowed in
      receive-listed (of_ports s (reply s.records s.clients s.ports t number)).state port (drop 1
      (clients_of s.clients t)) (number-set_same s.clients t (drop 1 (clients_of s.clients t)) own-list.0 own-list.1)
      (replied-listed number passed.1.0)
  effect-listed (Lock m) allowed = lock-listed (before_lock s t m) m
  effect-listed (Unlock m d) allowed = unlock-listed (value_of s) m d
  effect-listed other allowed =
      keep-change (finish (trap_effect s t other).after) s.records s.clients t (leaves-other _ (λ v e. cc)) listed

  checked-listed : (action : Action) (o : Option TrapRefusal) → trap_refusal s t action ≡ o
      → Done (checked_effect s o (trap_effect s t action))
  checked-listed action None allowed = effect-listed action allowed
  checked-listed action (Some refusal) refused = keep-change (finish GoesOn) s.records s.clients t stays listed

-- ---- commands

-- the thread of the first free place, if there is one, serves nobody
abbrev FirstIsIdle : List (List ℕ) → List ℕ → Type 0
FirstIsIdle clients free = (place : ℕ) → slice_get free 0 ≡ Some place → clients_of clients (suc place) ≡ []

-- a thread that leaves a free place serves nobody
free-idle : (s : State) → IsInOrder s → FirstIsIdle s.clients (free_threads s)
free-idle s order place = by s.limits.reuse refl
  where
    by : (reuse : Bool) → s.limits.reuse ≡ reuse → slice_get (cond {A = List ℕ} reuse s.freed.threads []) 0 ≡ Some place
        → clients_of s.clients (suc place) ≡ []
    by false is first = cc
    by true is first = order.idle (suc place)
        (at_number-suc s.threads place ∙ (order.gaps is).threads.each place (contains-at s.freed.threads 0 place first))

-- one thread more, which is Ready and serves nobody
keep-thread : (records : List Record) (clients : List (List ℕ)) (free : List ℕ) → FirstIsIdle clients free
    → AreListed records clients → AreListed (placed records free newborn) (placed clients free [])
keep-thread records clients free idle listed u v is = from (number-placed records free newborn u)
  where
    nothing : IsAmong [] u → ⊥
    nothing (place, e) = cc

    more : IsAmong (clients_of clients v) u
        → (at_number (placed clients free []) v ≡ at_number clients v)
        ⊎ ((v ≡ next_place clients free + 1) × (at_number (placed clients free []) v ≡ Some [])
        × ((at_number clients v ≡ None) ⊎ (slice_get free 0 ≡ Some (v - 1))))
        → IsAmong (clients_of (placed clients free []) v) u
    more among (inl same) = subst (λ (o : Option (List ℕ)). IsAmong (unwrap_or o []) u) (sym same) among
    more among (inr (next, new, inl none)) = let empty : IsAmong [] u =
        subst (λ (o : Option (List ℕ)). IsAmong (unwrap_or o []) u) none among in absurd (nothing empty)
    more among (inr (next, new, inr first)) =
        let number : suc (v - 1) ≡ v = omega (arith, next) in
        let none : clients_of clients v ≡ [] = ap (clients_of clients) (sym number) ∙ idle (v - 1) first in
        let empty : IsAmong [] u = subst (λ (xs : List ℕ). IsAmong xs u) none among in absurd (nothing empty)

    from : (at_number (placed records free newborn) u ≡ at_number records u)
        ⊎ (at_number (placed records free newborn) u ≡ Some newborn) → IsAmong (clients_of (placed clients free []) v) u
    from (inl same) =
        more (listed u v (ap (option_map (λ (r : Record). r.status)) (sym same) ∙ is)) (number-next clients free [] v)
    from (inr new) = let never : Some status.Ready ≡ Some (status.Served v) =
        sym (ap (option_map (λ (r : Record). r.status)) new) ∙ is in cc

-- a kill
keep-kill : (s : State) (t : ℕ) → suc (t - 1) ≡ t → AreListed s.records s.clients
    → AreListed (killed s t).records (killed s t).clients
keep-kill s t number listed u v is = from (killed-either s t u)
  where
    before : status_of (killed s t).records u ≡ status_of s.records u → status_of s.records u ≡ Some (status.Served v)
    before same = sym same ∙ is

    other : status_of (killed s t).records u ≡ status_of s.records u → ¬ (u ≡ t)
    other same at =
        let dead = killed-dead s t (status.Served v) (ap (status_of s.records) (sym at) ∙ before same) in
        let never : Some status.Dead ≡ Some (status.Served v) = sym dead ∙ ap (status_of (killed s t).records) (sym at)
        ∙ is in cc

    -- a client of the killed thread is Ready
    not-client : status_of (killed s t).records u ≡ status_of s.records u → ¬ (v ≡ t)
    not-client same at =
        let among : IsAmong (clients_of s.clients t) u =
        subst (λ k. IsAmong (clients_of s.clients k) u) at (listed u v (before same)) in
        let here = among-append_left (clients_of s.clients t) _ among.0 u among.1 in
        let ready : status_of (killed s t).records u ≡ Some status.Ready =
        status-other ended (change_each released s.records (released_by s t)) t u (other same) ∙ each-now released
        status.Ready (λ r. refl) s.records (released_by s t) here.0 u (status.Served v) here.1 (before same) in
        let never : Some status.Ready ≡ Some (status.Served v) = sym ready ∙ is in cc

    among : status_of (killed s t).records u ≡ status_of s.records u
        → IsAmong (clients_of (set_number (map (without t) s.clients) t []) v) u
    among same = place (set-clients (map (without t) s.clients) t v [])
      where
        mapped : (o : Option (List ℕ)) → IsAmong (unwrap_or o []) u
            → IsAmong (unwrap_or (option_map (without t) o) []) u
        mapped None (i, h) = (i, h)
        mapped (Some xs) there = left-threads t xs u (other same) there

        place : (clients_of (set_number (map (without t) s.clients) t []) v ≡ clients_of (map (without t) s.clients) v)
            ⊎ ((v ≡ suc (t - 1)) × (clients_of (set_number (map (without t) s.clients) t []) v ≡ []))
            → IsAmong (clients_of (set_number (map (without t) s.clients) t []) v) u
        place (inl kept_list) =
            subst (λ (xs : List ℕ). IsAmong xs u) (sym (kept_list ∙ ap (λ (o : Option (List ℕ)). unwrap_or o [])
            (at_number-map (without t) s.clients v))) (mapped (at_number s.clients v) (listed u v (before same)))
        place (inr (at, _)) = absurd (not-client same (at ∙ number))

    from : (status_of (killed s t).records u ≡ status_of s.records u)
        ⊎ ((status_of (killed s t).records u ≡ Some status.Ready)
        ⊎ (status_of (killed s t).records u ≡ Some status.Dead)) → IsAmong (clients_of (killed s t).clients v) u
    from (inl same) = among same
    from (inr (inl ready)) = let never : Some status.Ready ≡ Some (status.Served v) = sym ready ∙ is in cc
    from (inr (inr dead)) = let never : Some status.Dead ≡ Some (status.Served v) = sym dead ∙ is in cc

abbrev ListedIn : State → Type 0
ListedIn s = AreListed s.records s.clients

command-listed : (s : State) (c : Command) → IsInOrder s → ListedIn s → ListedIn (command_step s c).state
command-listed s (MakeThread name script) order listed =
    unrefused ListedIn s _ (command_effect s (MakeThread name script)) listed
    (λ _. keep-thread s.records s.clients (free_threads s) (free-idle s order) listed)
command-listed s (MakeFunded amount currency name script) order listed =
    unrefused ListedIn s _ (command_effect s (MakeFunded amount currency name script)) listed
    (λ _. keep-thread s.records s.clients (free_threads s) (free-idle s order) listed)
command-listed s (Kill thread) order listed =
    unrefused ListedIn s _ (command_effect s (Kill thread)) listed (λ e.
    let passed = all-pass ((is_none (thread_meant s thread), NoThread)
    ∷ (option_any (is_dead_in s) (thread_meant s thread), DeadThread) ∷ []) e in
    at (thread_meant s thread) refl passed.0)
  where
    at : (o : Option ℕ) → thread_meant s thread ≡ o → is_none o ≡ false → ListedIn (killed s (unwrap_or o 0))
    at None meant named = cc
    at (Some t) meant named = keep-kill s t (meant-number s thread t meant) listed
command-listed s other order listed =
    unrefused ListedIn s (command_refusal s other) (command_effect s other) listed (λ _. listed)

-- ---- events and runs

trap-listed : (s : State) (p t before used ran : ℕ) (action : Action)
    → status_of s.records t ≡ Some (status.Running p before) → IsInOrder s → HasLists s → ListedIn s
    → ListedIn (trap s p t used ran action).state
trap-listed s p t before used ran action runs order lists listed =
    checked-listed (λ after r. with_ticks (ran + 1) (after_trap after p (used + ran + 1) s.limits r))
    (λ now r. refl) stays (λ r v e. cc) s order lists listed t p before runs action (trap_refusal s t action) refl
  where
    stays : (r : Record) (v : ℕ)
        → ¬ ((with_ticks (ran + 1) (after_trap GoesOn p (used + ran + 1) s.limits r)).status ≡ status.Served v)
    stays r v e = at (nat_lt (used + ran + 1) s.limits.quantum) refl
      where
        at : (b : Bool) → nat_lt (used + ran + 1) s.limits.quantum ≡ b → ⊥
        at true on = let never : status.Running p (used + ran + 1) ≡ status.Served v = rw on at e in cc
        at false on = let never : status.Ready ≡ status.Served v = rw on at e in cc

draw-listed : (s : State) (p d : ℕ) → ListedIn s → ListedIn (draw s p d).state
draw-listed s p d listed = at (winner (map (weight_of s) (ready_threads s.records)) d) refl
  where
    at : (o : Option Drawn) → winner (map (weight_of s) (ready_threads s.records)) d ≡ o → ListedIn (draw s p d).state
    at None is = rw is listed
    at (Some w) is = rw is (keep-change (started p) s.records s.clients (slice_index (ready_threads s.records) w.place)
        (λ r v e. cc) listed)

stopped-listed : (s : State) (t ticks : ℕ) (compensation : Option ℕ) → ListedIn s
    → ListedIn (stopped s t ticks compensation).state
stopped-listed s t ticks compensation listed = keep-change (λ r. with_ticks ticks
    (record r { status = status.Ready; compensation = compensation })) s.records s.clients t (λ r v e. cc) listed

event-listed : (s : State) (e : Event) → IsInOrder s → HasLists s → ListedIn s → ListedIn (step s e).state
event-listed s (event.Command command) order lists listed = command-listed s command order listed
event-listed s (event.Draw p d) order lists listed =
    unrefused ListedIn s _ (draw s p d) listed (λ _. draw-listed s p d listed)
event-listed s (event.Expire p) order lists listed = unrefused ListedIn s _ (event_effect s (event.Expire p)) listed
    (λ _. stopped-listed s (thread_there s p) (s.limits.quantum - used_there s p) None listed)
event-listed s (event.Preempt p ticks) order lists listed = unrefused ListedIn s _
    (event_effect s (event.Preempt p ticks)) listed (λ _. stopped-listed s (thread_there s p) ticks None listed)
event-listed s (event.Overrun p late) order lists listed =
    unrefused ListedIn s _ (event_effect s (event.Overrun p late)) listed (λ _. stopped-listed s (thread_there s p)
    (s.limits.quantum - used_there s p + late) (compensation_for s.limits (s.limits.quantum + late)) listed)
event-listed s (event.Wake t) order lists listed =
    unrefused ListedIn s _ (event_effect s (event.Wake t)) listed
    (λ _. keep-change (λ r. record r { status = status.Ready }) s.records s.clients t (λ r v e. cc) listed)
event-listed s (event.Trap p ran action) order lists listed =
    unrefused ListedIn s _ (event_effect s (event.Trap p ran action)) listed (λ e.
    let passed = all-pass ((is_bad_processor s p, BadProcessor) ∷ (is_none (thread_on s.records p), NotRunning)
    ∷ (nat_lt s.limits.quantum (used_there s p + ran + 1), BadTicks) ∷ []) e in
    let there = there-runs s p passed.1.0 in
    trap-listed s p (thread_there s p) there.0 (used_there s p) ran action there.1 order lists listed)

run-listed : (s : State) (events : List Event) → IsInOrder s → HasLists s → ListedIn s → ListedIn (state_after s events)
run-listed s [] order lists listed = listed
run-listed s (e ∷ events) order lists listed = run-listed (step s e).state events (step-order s e order)
    (step-lists s e lists) (event-listed s e order lists listed)

pub reachable-listed : (s : State) → IsReachable s → AreListed s.records s.clients
reachable-listed s (limits, events, bounds, is) =
    subst ListedIn (sym is) (run-listed (opening limits) events (opening-order limits bounds) refl nobody)
  where
    nobody : ListedIn (opening limits)
    nobody zero server e = cc
    nobody (suc i) server e = let none : None ≡ Some (status.Served server) =
        sym (ap (option_map (λ (r : Record). r.status)) (at_number-suc {A = Record} [] i)) ∙ e in cc
