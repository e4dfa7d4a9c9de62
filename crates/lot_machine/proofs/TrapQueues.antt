-- After a trap waiting threads are in the queues that their statuses name.
use Rattle.lot_machine.proofs.Common.{After, Drawn, GoesOn, HasQueues, IsQueue, Leaves, List, Mutex, None, Option, Port, Queued, QueuedCall, Ready, Receiving, Record, Running, Served, Some, Status, Waiting, ap, at_number, call, change_record, clients_of, eq-eqb, false, first_client, get_or, get_or_from_slice_get, get_or_past, inl, inr, is_none, length, lock, map, map-append, mutex_at, option_any, option_map, port_at, receive, refl, remove, reply, set_number, slice_get, slice_get_cases, slice_index, status_of, subst, suc, sym, true, unlock, unwrap_or, winner, ℕ, [], ◌++◌, ◌-◌, ◌<◌, ◌==◌, ◌∙◌, ◌∷◌, ◌≡◌, ◌≤◌, ◌⊎◌}
use Rattle.lot_machine.proofs.Changes.{number-there}
use Rattle.lot_machine.proofs.Tickets.{some-injective}
use Rattle.lot_machine.proofs.Queues.{IsAbsent, StandsNowhere, number-set_same, record-of, status-now, status-other, queue-empty, absent-other, absent-push, queue-push, queue-rest, absent-rest, queue-without, absent-without, queues-changed, queues-live, nowhere-live, queues-port, queues-mutex, queues-clients, queue-clients, own-absent}

-- who stands nowhere else than in the queue of its own status, and not there, stands nowhere
pub nowhere-from : (records : List Record) (clients : List (List ℕ)) (ports : List Port) (mutexes : List Mutex) (t : ℕ)
    (now : Status) → HasQueues records clients ports mutexes → status_of records t ≡ Some now
    → ((p : ℕ) (port : Port) → now ≡ Receiving p → at_number ports p ≡ Some port → IsAbsent port.receivers t)
    → ((p : ℕ) (port : Port) → now ≡ Queued p → at_number ports p ≡ Some port
    → IsAbsent (map (λ (call : QueuedCall). call.caller) port.calls) t)
    → ((m : ℕ) (mutex : Mutex) → now ≡ Waiting m → at_number mutexes m ≡ Some mutex → IsAbsent mutex.waiters t)
    → ((server : ℕ) (threads : List ℕ) → now ≡ Served server → at_number clients server ≡ Some threads
    → IsAbsent threads t)
    → StandsNowhere clients ports mutexes t
nowhere-from records clients ports mutexes t now queues is receivers callers waiters served = record {
  receivers = λ p port there place e.
      receivers p port (same (Receiving p) ((queues.receivers p port there).each place t e)) there place e;
  callers = λ p port there place e.
      callers p port (same (Queued p) ((queues.callers p port there).each place t e)) there place e;
  waiters = λ m mutex there place e.
      waiters m mutex (same (Waiting m) ((queues.waiters m mutex there).each place t e)) there place e;
  served = λ server threads there place e.
      served server threads (same (Served server) ((queues.served server threads there).each place t e)) there place e;
}
  where
    same : (status : Status) → status_of records t ≡ Some status → now ≡ status
    same status e = some-injective now status (sym is ∙ e)

-- what stands at a number after a change there
at-set : {A : Type 0} (xs : List A) (n k : ℕ) (old new x : A) → n ≡ k → at_number xs n ≡ Some old
    → at_number (set_number xs n new) k ≡ Some x → new ≡ x
at-set xs n k old new x same there e =
    some-injective new x (sym (number-set_same xs n new old there) ∙ ap (at_number (set_number xs n new)) same ∙ e)

-- different statuses
receiving-same : (p q : ℕ) → Receiving p ≡ Receiving q → p ≡ q
receiving-same p q e = cc

queued-same : (p q : ℕ) → Queued p ≡ Queued q → p ≡ q
queued-same p q e = cc

waiting-same : (p q : ℕ) → Waiting p ≡ Waiting q → p ≡ q
waiting-same p q e = cc

served-same : (p q : ℕ) → Served p ≡ Served q → p ≡ q
served-same p q e = cc

-- The thread that makes a trap, which runs. How it leaves its processor, or stays, says its new status if it leaves.
module _ (finish : After → Record → Record)
    (leaves : (status : Status) (r : Record) → (finish (Leaves status) r).status ≡ status)
    (records : List Record) (clients : List (List ℕ)) (ports : List Port) (mutexes : List Mutex)
    (queues : HasQueues records clients ports mutexes)
    (t p used : ℕ) (runs : status_of records t ≡ Some (Running p used)) where
  -- who has another status is another thread
  pub other-thread : (u : ℕ) (now : Status) → status_of records u ≡ Some now → ¬ (Running p used ≡ now) → ¬ (t ≡ u)
  other-thread u now is differs same =
      differs (some-injective (Running p used) now (sym runs ∙ ap (status_of records) same ∙ is))

  pub number-of : suc (t - 1) ≡ t
  number-of = let r = record-of records t (Running p used) runs in number-there records t r.0 r.1

  -- a trap that changes nothing besides
  pub stay-queues : (after : After) → HasQueues (change_record (finish after) records t) clients ports mutexes
  stay-queues after = queues-live records clients ports mutexes queues (finish after) t (Running p used) runs refl

  -- after a change of another thread's record
  after-other : (change : Record → Record) (u : ℕ) (now : Status) (after : After) (clients_then : List (List ℕ))
      (ports_then : List Port) (mutexes_then : List Mutex)
      → HasQueues (change_record change records u) clients_then ports_then mutexes_then → status_of records u ≡ Some now
      → ¬ (Running p used ≡ now)
      → HasQueues (change_record (finish after) (change_record change records u) t) clients_then ports_then mutexes_then
  after-other change u now after clients_then ports_then mutexes_then then_queues is differs =
      queues-live (change_record change records u) clients_then ports_then mutexes_then then_queues (finish after) t
      (Running p used)
      (status-other change records u t (other-thread u now is differs) ∙ runs) refl

  pub call-queues : (port number : ℕ) → at_number ports port ≡ Some (port_at ports port)
      → HasQueues (change_record (finish (call records clients ports t port number).after)
      (call records clients ports t port number).records t)
      (call records clients ports t port number).clients (call records clients ports t port number).ports mutexes
  call-queues port number there = at (port_at ports port).receivers refl
    where
      queued : HasQueues (change_record (finish (Leaves (Queued port))) records t) clients (set_number ports port
          (record { calls = (port_at ports port).calls ++ record { caller = t; number = number } ∷ []; receivers = [] })) mutexes
      queued =
          let then_records = change_record (finish (Leaves (Queued port))) records t in
          let then_queues = stay-queues (Leaves (Queued port)) in
          let nowhere = nowhere-live records clients ports mutexes queues t (Running p used) runs refl in
          queues-port then_records clients ports mutexes then_queues port (port_at ports port)
          (record { calls = (port_at ports port).calls ++ record { caller = t; number = number } ∷ []; receivers = [] })
          there
          (queue-empty then_records (Receiving port))
          (subst (λ ts. IsQueue then_records (Queued port) ts) (sym (map-append (λ (call : QueuedCall). call.caller)
          (port_at ports port).calls (record { caller = t; number = number } ∷ [])))
          (queue-push then_records (Queued port) (map (λ (call : QueuedCall). call.caller) (port_at ports port).calls) t
          (status-now (finish (Leaves (Queued port))) records t (Running p used) (Queued port) runs
          (leaves (Queued port))) (nowhere.callers port (port_at ports port) there)
          (then_queues.callers port (port_at ports port) there)))

      served : (server : ℕ) (others : List ℕ) → (port_at ports port).receivers ≡ server ∷ others
          → HasQueues (change_record (finish (Leaves (Served server)))
          (change_record (λ r. record r { status = Ready; delivered = Some number }) records server) t)
          (set_number clients server (clients_of clients server ++ t ∷ []))
          (set_number ports port (record { calls = (port_at ports port).calls; receivers = others })) mutexes
      served server others is =
          let change : Record → Record = λ r. record r { status = Ready; delivered = Some number } in
          let new : Port = record { calls = (port_at ports port).calls; receivers = others } in
          let queue : IsQueue records (Receiving port) (server ∷ others) =
          subst (λ ts. IsQueue records (Receiving port) ts) is (queues.receivers port (port_at ports port) there) in
          let receives = queue.each 0 server refl in
          let taken = queues-port records clients ports mutexes queues port (port_at ports port) new there
          (queue-rest records (Receiving port) server others queue) (queues.callers port (port_at ports port) there) in
          let nowhere =
          nowhere-from records clients (set_number ports port new) mutexes server (Receiving port) taken receives
          (λ q other same at. subst (λ (x : Port). IsAbsent x.receivers server)
          (at-set ports port q (port_at ports port) new other (receiving-same port q same) there at)
          (absent-rest records (Receiving port) server others queue))
          (λ q other same at. absurd (not-queued q same)) (λ m other same at. absurd (not-waiting m same))
          (λ u other same at. absurd (not-served u same)) in
          let woken = queues-changed records clients (set_number ports port new) mutexes taken change server nowhere in
          let runs_then = status-other change records server t
          (other-thread server (Receiving port) receives (running-not port)) ∙ runs in
          let left = queues-live (change_record change records server) clients (set_number ports port new) mutexes woken
          (finish (Leaves (Served server))) t (Running p used) runs_then refl in
          let then_records = change_record (finish (Leaves (Served server))) (change_record change records server) t in
          let server_record = record-of records server (Receiving port) receives in
          queues-clients then_records clients (set_number ports port new) mutexes left server
          (clients_of clients server ++ t ∷ []) (number-there records server server_record.0 server_record.1)
          (queue-push then_records (Served server) (clients_of clients server) t
          (status-now (finish (Leaves (Served server))) (change_record change records server) t (Running p used)
          (Served server) runs_then (leaves (Served server)))
          (absent-other records (Served server) (Running p used) (clients_of clients server) t
          (queue-clients records clients ports mutexes queues server) runs (running-not-served server))
          (queue-clients then_records clients (set_number ports port new) mutexes left server))
          (absent-push (clients_of clients server) t server (own-absent records clients ports mutexes queues server)
          (other-thread server (Receiving port) receives (running-not port)))
        where
          not-queued : (q : ℕ) → ¬ (Receiving port ≡ Queued q)
          not-queued q e = cc

          not-waiting : (q : ℕ) → ¬ (Receiving port ≡ Waiting q)
          not-waiting q e = cc

          not-served : (q : ℕ) → ¬ (Receiving port ≡ Served q)
          not-served q e = cc

          running-not : (q : ℕ) → ¬ (Running p used ≡ Receiving q)
          running-not q e = cc

          running-not-served : (q : ℕ) → ¬ (Running p used ≡ Served q)
          running-not-served q e = cc

      at : (o : List ℕ) → (port_at ports port).receivers ≡ o
          → HasQueues (change_record (finish (call records clients ports t port number).after)
          (call records clients ports t port number).records t)
          (call records clients ports t port number).clients (call records clients ports t port number).ports mutexes
      at [] is = rw is queued
      at (server ∷ others) is = rw is (served server others is)

  pub receive-queues : (port : ℕ) → at_number ports port ≡ Some (port_at ports port)
      → HasQueues (change_record (finish (receive records clients ports t port).after)
      (receive records clients ports t port).records t)
      (receive records clients ports t port).clients (receive records clients ports t port).ports mutexes
  receive-queues port there = at (port_at ports port).calls refl
    where
      waits : HasQueues (change_record (finish (Leaves (Receiving port))) records t) clients
          (set_number ports port (record { calls = []; receivers = (port_at ports port).receivers ++ t ∷ [] })) mutexes
      waits =
          let then_records = change_record (finish (Leaves (Receiving port))) records t in
          let then_queues = stay-queues (Leaves (Receiving port)) in
          let nowhere = nowhere-live records clients ports mutexes queues t (Running p used) runs refl in
          queues-port then_records clients ports mutexes then_queues port (port_at ports port)
          (record { calls = []; receivers = (port_at ports port).receivers ++ t ∷ [] }) there
          (queue-push then_records (Receiving port) (port_at ports port).receivers t
          (status-now (finish (Leaves (Receiving port))) records t (Running p used) (Receiving port) runs
          (leaves (Receiving port))) (nowhere.receivers port (port_at ports port) there)
          (then_queues.receivers port (port_at ports port) there))
          (queue-empty then_records (Queued port))

      taken : (first : QueuedCall) (others : List QueuedCall) → (port_at ports port).calls ≡ first ∷ others
          → HasQueues
          (change_record (finish GoesOn) (change_record (λ r. record r { status = Served t }) records first.caller) t)
          (set_number clients t (clients_of clients t ++ first.caller ∷ []))
          (set_number ports port (record { calls = others; receivers = (port_at ports port).receivers })) mutexes
      taken first others is =
          let change : Record → Record = λ r. record r { status = Served t } in
          let new : Port = record { calls = others; receivers = (port_at ports port).receivers } in
          let following = map (λ (call : QueuedCall). call.caller) others in
          let queue : IsQueue records (Queued port) (first.caller ∷ following) =
          subst (λ cs. IsQueue records (Queued port) (map (λ (call : QueuedCall). call.caller) cs)) is
          (queues.callers port (port_at ports port) there) in
          let calls = queue.each 0 first.caller refl in
          let shorter = queues-port records clients ports mutexes queues port (port_at ports port) new there
          (queues.receivers port (port_at ports port) there)
          (queue-rest records (Queued port) first.caller following queue) in
          let nowhere =
          nowhere-from records clients (set_number ports port new) mutexes first.caller (Queued port) shorter calls
          (λ q other same at. absurd (not-receiving q same))
          (λ q other same at. subst (λ (x : Port). IsAbsent (map (λ (call : QueuedCall). call.caller) x.calls)
          first.caller) (at-set ports port q (port_at ports port) new other (queued-same port q same) there at)
          (absent-rest records (Queued port) first.caller following queue))
          (λ m other same at. absurd (not-waiting m same)) (λ u other same at. absurd (not-served u same)) in
          let moved =
          queues-changed records clients (set_number ports port new) mutexes shorter change first.caller nowhere in
          let then_records = change_record change records first.caller in
          let with_client = queues-clients then_records clients (set_number ports port new) mutexes moved t
          (clients_of clients t ++ first.caller ∷ []) number-of
          (queue-push then_records (Served t) (clients_of clients t) first.caller
          (status-now change records first.caller (Queued port) (Served t) calls (λ r. refl))
          (absent-other records (Served t) (Queued port) (clients_of clients t) first.caller
          (queue-clients records clients ports mutexes queues t) calls (not-served t))
          (queue-clients then_records clients (set_number ports port new) mutexes moved t))
          (absent-push (clients_of clients t) first.caller t (own-absent records clients ports mutexes queues t)
          (λ same. other-thread first.caller (Queued port) calls (running-not port) (sym same))) in
          after-other change first.caller (Queued port) GoesOn (set_number clients t (clients_of clients t
          ++ first.caller ∷ [])) (set_number ports port new) mutexes with_client calls (running-not port)
        where
          not-receiving : (q : ℕ) → ¬ (Queued port ≡ Receiving q)
          not-receiving q e = cc

          not-waiting : (q : ℕ) → ¬ (Queued port ≡ Waiting q)
          not-waiting q e = cc

          not-served : (q : ℕ) → ¬ (Queued port ≡ Served q)
          not-served q e = cc

          running-not : (q : ℕ) → ¬ (Running p used ≡ Queued q)
          running-not q e = cc

      at : (o : List QueuedCall) → (port_at ports port).calls ≡ o
          → HasQueues (change_record (finish (receive records clients ports t port).after)
          (receive records clients ports t port).records t)
          (receive records clients ports t port).clients (receive records clients ports t port).ports mutexes
      at [] is = rw is waits
      at (first ∷ others) is = rw is (taken first others is)

  -- The client that a reply answers stands nowhere any more, and the server still runs.
  pub replied-queues : (number : ℕ) → is_none (first_client clients t) ≡ false
      → HasQueues (reply records clients ports t number).records (reply records clients ports t number).clients
      (reply records clients ports t number).ports mutexes
      × (status_of (reply records clients ports t number).records t ≡ Some (Running p used))
  replied-queues number some = at (at_number clients t) refl
    where
      answered : (client : ℕ) (rest : List ℕ) → at_number clients t ≡ Some (client ∷ rest)
          → HasQueues (change_record (λ r. record r { status = Ready; delivered = Some number }) records client)
          (set_number clients t rest) ports mutexes
          × (status_of (change_record (λ r. record r { status = Ready; delivered = Some number }) records client) t
          ≡ Some (Running p used))
      answered client rest there =
          let queue = queues.served t (client ∷ rest) there in
          let waits = queue.each 0 client refl in
          let shorter = queues-clients records clients ports mutexes queues t rest number-of (queue-rest records
          (Served t) client rest queue) (λ place e. queues.own_clients t (client ∷ rest) there (suc place) e) in
          let nowhere = nowhere-from records (set_number clients t rest) ports mutexes client (Served t) shorter waits
          (λ q other same at. absurd (not-receiving q same)) (λ q other same at. absurd (not-queued q same))
          (λ m other same at. absurd (not-waiting m same))
          (λ u other same at. subst (λ x. IsAbsent x client) (at-set clients t u (client ∷ rest) rest other
          (served-same t u same) there at) (absent-rest records (Served t) client rest queue)) in
          let woken = queues-changed records (set_number clients t rest) ports mutexes shorter
          (λ r. record r { status = Ready; delivered = Some number }) client nowhere in
          (woken, status-other (λ r. record r { status = Ready; delivered = Some number }) records client t (other-thread client (Served t) waits (running-not t)) ∙ runs)
        where
          not-receiving : (q : ℕ) → ¬ (Served t ≡ Receiving q)
          not-receiving q e = cc

          not-queued : (q : ℕ) → ¬ (Served t ≡ Queued q)
          not-queued q e = cc

          not-waiting : (q : ℕ) → ¬ (Served t ≡ Waiting q)
          not-waiting q e = cc

          running-not : (q : ℕ) → ¬ (Running p used ≡ Served q)
          running-not q e = cc

      at : (o : Option (List ℕ)) → at_number clients t ≡ o
          → HasQueues (reply records clients ports t number).records (reply records clients ports t number).clients
          (reply records clients ports t number).ports mutexes
          × (status_of (reply records clients ports t number).records t ≡ Some (Running p used))
      at None is = let none : is_none (first_client clients t) ≡ true = rw is refl in absurd (different none)
        where
          different : is_none (first_client clients t) ≡ true → ⊥
          different none = cc
      at (Some []) is = let none : is_none (first_client clients t) ≡ true = rw is refl in absurd (different none)
        where
          different : is_none (first_client clients t) ≡ true → ⊥
          different none = cc
      at (Some (client ∷ rest)) is = rw is (answered client rest is)

  pub reply-queues : (number : ℕ) → is_none (first_client clients t) ≡ false
      → HasQueues (change_record (finish (reply records clients ports t number).after)
      (reply records clients ports t number).records t)
      (reply records clients ports t number).clients (reply records clients ports t number).ports mutexes
  reply-queues number some =
      let replied = reply records clients ports t number in
      let left = replied-queues number some in
      queues-live replied.records replied.clients replied.ports mutexes left.0 (finish GoesOn) t
      (Running p used) left.1 refl

  pub lock-queues : (m : ℕ) → at_number mutexes m ≡ Some (mutex_at mutexes m)
      → option_any (λ owner. owner == t) (mutex_at mutexes m).owner ≡ false
      → HasQueues (change_record (finish (lock records mutexes t m).after)
      (lock records mutexes t m).records t) clients ports (lock records mutexes t m).mutexes
  lock-queues m there other = at (mutex_at mutexes m).owner refl
    where
      at : (o : Option ℕ) → (mutex_at mutexes m).owner ≡ o
          → HasQueues (change_record (finish (lock records mutexes t m).after)
          (lock records mutexes t m).records t) clients ports (lock records mutexes t m).mutexes
      at None is =
          rw is
          (queues-mutex (change_record (finish GoesOn) records t) clients ports mutexes (stay-queues GoesOn) m
          (mutex_at mutexes m) (record { owner = Some t; waiters = (mutex_at mutexes m).waiters }) there
          ((stay-queues GoesOn).waiters m (mutex_at mutexes m) there)
          (λ owner mine place e. (nowhere-live records clients ports mutexes queues t
          (Running p used) runs refl).waiters m (mutex_at mutexes m) there place (e ∙ sym mine)))
      at (Some owner) is =
          let then_records = change_record (finish (Leaves (Waiting m))) records t in
          let then_queues = stay-queues (Leaves (Waiting m)) in
          let nowhere = nowhere-live records clients ports mutexes queues t (Running p used) runs refl in
          rw is
          (queues-mutex then_records clients ports mutexes then_queues m (mutex_at mutexes m)
          (record { owner = Some owner; waiters = (mutex_at mutexes m).waiters ++ t ∷ [] }) there
          (queue-push then_records (Waiting m) (mutex_at mutexes m).waiters t
          (status-now (finish (Leaves (Waiting m))) records t (Running p used) (Waiting m) runs (leaves (Waiting m)))
          (nowhere.waiters m (mutex_at mutexes m) there) (then_queues.waiters m (mutex_at mutexes m) there))
          (λ holder held. absent-push (mutex_at mutexes m).waiters t holder
          (queues.own_waiters m holder (mutex_at mutexes m) there (is ∙ held)) (λ same.
          differs (sym (eq-eqb holder t (sym same)) ∙ sym (ap (option_any (λ o. o == t)) (is ∙ held)) ∙ other))))
        where
          differs : true ≡ false → ⊥
          differs e = cc

  -- a place in a queue, and the thread that stands there, if any
  pub passed-queues : (m place w : ℕ) (old : Mutex) → at_number mutexes m ≡ Some old → slice_index old.waiters place ≡ w
      → HasQueues (change_record (finish (Leaves Ready)) (change_record (λ r. record r { status = Ready }) records w) t)
      clients ports (set_number mutexes m (record { owner = Some w; waiters = remove old.waiters place }))
  passed-queues m place w old there at = from (slice_get_cases old.waiters place).1
    where
      new : Mutex
      new = record { owner = Some w; waiters = remove old.waiters place }

      apart : ((x : ℕ) × (place < length old.waiters) × (slice_get old.waiters place ≡ Some x)
          × (get_or old.waiters place x ≡ x)) ⊎ ((length old.waiters ≤ place) × (slice_get old.waiters place ≡ None))
          → IsAbsent (remove old.waiters place) w
      apart (inl (x, below, here, same)) =
          let is : x ≡ w = sym (get_or_from_slice_get old.waiters place x 0 here) ∙ at in
          absent-without records (Waiting m) old.waiters place w (queues.waiters m old there) (here ∙ ap Some is)
      apart (inr (past, none)) =
          let nobody : 0 ≡ w = sym (get_or_past old.waiters place 0 past) ∙ at in
          λ i e. no-thread ((queue-without records (Waiting m) old.waiters place (queues.waiters m old there)).each i 0
          (e ∙ ap Some (sym nobody)))
        where
          no-thread : status_of records 0 ≡ Some (Waiting m) → ⊥
          no-thread e = cc

      shorter : HasQueues records clients ports
          (set_number mutexes m (record { owner = Some w; waiters = remove old.waiters place }))
      shorter = queues-mutex records clients ports mutexes queues m old
          (record { owner = Some w; waiters = remove old.waiters place }) there
          (queue-without records (Waiting m) old.waiters place (queues.waiters m old there))
          (λ owner mine i e. apart (slice_get_cases old.waiters place).1 i (e ∙ sym mine))

      stands : slice_get old.waiters place ≡ Some w
          → HasQueues (change_record (finish (Leaves Ready))
          (change_record (λ r. record r { status = Ready }) records w) t) clients ports
          (set_number mutexes m (record { owner = Some w; waiters = remove old.waiters place }))
      stands here =
          let queue = queues.waiters m old there in
          let waits = queue.each place w here in
          let nowhere = nowhere-from records clients ports (set_number mutexes m
          (record { owner = Some w; waiters = remove old.waiters place })) w (Waiting m) shorter waits
          (λ q other same is. absurd (not-receiving q same)) (λ q other same is. absurd (not-queued q same))
          (λ n other same is. subst (λ (x : Mutex). IsAbsent x.waiters w) (at-set mutexes m n old
          (record { owner = Some w; waiters = remove old.waiters place }) other (waiting-same m n same) there is)
          (absent-without records (Waiting m) old.waiters place w queue here))
          (λ u other same is. absurd (not-served u same)) in
          let woken = queues-changed records clients ports
          (set_number mutexes m (record { owner = Some w; waiters = remove old.waiters place })) shorter
          (λ r. record r { status = Ready }) w nowhere in
          after-other (λ r. record r { status = Ready }) w (Waiting m) (Leaves Ready) clients ports (set_number mutexes
          m (record { owner = Some w; waiters = remove old.waiters place })) woken waits (running-not m)
        where
          not-receiving : (q : ℕ) → ¬ (Waiting m ≡ Receiving q)
          not-receiving q e = cc

          not-queued : (q : ℕ) → ¬ (Waiting m ≡ Queued q)
          not-queued q e = cc

          not-served : (q : ℕ) → ¬ (Waiting m ≡ Served q)
          not-served q e = cc

          running-not : (q : ℕ) → ¬ (Running p used ≡ Waiting q)
          running-not q e = cc

      nobody : w ≡ 0 → HasQueues (change_record (finish (Leaves Ready))
          (change_record (λ r. record r { status = Ready }) records w) t) clients ports
          (set_number mutexes m (record { owner = Some w; waiters = remove old.waiters place }))
      nobody none =
          subst (λ u. HasQueues
          (change_record (finish (Leaves Ready)) (change_record (λ r. record r { status = Ready }) records u) t) clients
          ports (set_number mutexes m (record { owner = Some w; waiters = remove old.waiters place }))) (sym none)
          (queues-live records clients ports
          (set_number mutexes m (record { owner = Some w; waiters = remove old.waiters place })) shorter
          (finish (Leaves Ready)) t (Running p used) runs refl)

      from : ((x : ℕ) × (place < length old.waiters) × (slice_get old.waiters place ≡ Some x)
          × (get_or old.waiters place x ≡ x)) ⊎ ((length old.waiters ≤ place) × (slice_get old.waiters place ≡ None))
          → HasQueues (change_record (finish (Leaves Ready))
          (change_record (λ r. record r { status = Ready }) records w) t) clients ports
          (set_number mutexes m (record { owner = Some w; waiters = remove old.waiters place }))
      from (inl (x, below, here, same)) = let is : x ≡ w = sym (get_or_from_slice_get old.waiters place x 0 here)
          ∙ at in stands (here ∙ ap Some is)
      from (inr (past, none)) = nobody (sym at ∙ get_or_past old.waiters place 0 past)

  pub unlock-queues : (value : ℕ → ℕ) (m d : ℕ) → at_number mutexes m ≡ Some (mutex_at mutexes m)
      → HasQueues (change_record (finish (unlock records mutexes value m d).after)
      (unlock records mutexes value m d).records t) clients ports (unlock records mutexes value m d).mutexes
  unlock-queues value m d there = at (mutex_at mutexes m).waiters refl
    where
      free : (owner : ℕ) → None ≡ Some owner → IsAbsent [] owner
      free owner e = cc

      at : (o : List ℕ) → (mutex_at mutexes m).waiters ≡ o
          → HasQueues (change_record (finish (unlock records mutexes value m d).after)
          (unlock records mutexes value m d).records t) clients ports (unlock records mutexes value m d).mutexes
      at [] is =
          rw is (queues-mutex (change_record (finish GoesOn) records t) clients ports mutexes (stay-queues GoesOn) m
          (mutex_at mutexes m) (record { owner = None; waiters = [] }) there
          (queue-empty (change_record (finish GoesOn) records t) (Waiting m)) free)
      at (w ∷ ws) is =
          let place = unwrap_or (option_map (λ (drawn : Drawn). drawn.place) (winner (map value (w ∷ ws)) d)) 0 in
          let passed = passed-queues m place (slice_index (w ∷ ws) place) (mutex_at mutexes m) there
          (ap (λ ts. slice_index ts place) is) in
          rw is (subst (λ ts. HasQueues (change_record (finish (Leaves Ready))
          (change_record (λ r. record r { status = Ready }) records (slice_index (w ∷ ws) place)) t) clients ports
          (set_number mutexes m (record { owner = Some (slice_index (w ∷ ws) place); waiters = remove ts place }))) is
          passed)
