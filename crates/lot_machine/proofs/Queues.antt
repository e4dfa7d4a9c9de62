-- Queues of threads with one status, after changes of records, ports, mutexes and clients.
use Rattle.lot_machine.proofs.Common.{Dead, HasQueues, IsQueue, List, Mutex, None, Option, Port, Queued, QueuedCall, Receiving, Record, Served, Some, Status, Waiting, ap, arith, at_number, change_record, clients_of, false, inl, inr, is_live_status, length, map, option_map, placed, pred, refl, remove, set_number, slice_get, slice_set, status_of, subst, suc, sym, true, unwrap_or, zero, ℕ, [], ◌++◌, ◌-◌, ◌∙◌, ◌∷◌, ◌≡◌, ◌⊎◌}
use Rattle.lot_machine.proofs.Changes.{number-set, number-there, place-set_same}
use Rattle.lot_machine.proofs.Places.{number-placed, number-stays}
use Rattle.lot_machine.proofs.Tickets.{at_number-suc, some-injective}
use Rattle.lot_machine.proofs.RecordsKept.{status-changed}

-- ---- records

pub number-set_same : {A : Type 0} (xs : List A) (n : ℕ) (x y : A) → at_number xs n ≡ Some y
    → at_number (set_number xs n x) n ≡ Some x
number-set_same xs zero x y e = cc
number-set_same xs (suc i) x y e =
    let place : suc i - 1 ≡ i = omega arith in
    at_number-suc (set_number xs (suc i) x) i ∙ ap (λ k. slice_get (slice_set xs k x) i) place
    ∙ place-set_same xs i x y (sym (at_number-suc xs i) ∙ e)

-- the record of a thread that has a status
pub record-of : (records : List Record) (t : ℕ) (now : Status) → status_of records t ≡ Some now
    → (r : Record) × (at_number records t ≡ Some r) × (r.status ≡ now)
record-of records t now e = from (at_number records t) refl e
  where
    from : (o : Option Record) → at_number records t ≡ o → option_map (λ (r : Record). r.status) o ≡ Some now
        → (r : Record) × (at_number records t ≡ Some r) × (r.status ≡ now)
    from None is h = cc
    from (Some r) is h = (r, is, some-injective r.status now h)

-- a thread has its new status, and another the one that it had
pub status-set : (change : Record → Record) (records : List Record) (t : ℕ) (r : Record) → at_number records t ≡ Some r
    → status_of (change_record change records t) t ≡ Some (change r).status
status-set change records t r there =
    let set : change_record change records t ≡ set_number records t (change r) = rw there refl in
    ap (λ rs. status_of rs t) set
    ∙ ap (option_map (λ (x : Record). x.status)) (number-set_same records t (change r) r there)

pub status-now : (change : Record → Record) (records : List Record) (t : ℕ) (now after : Status) → status_of records t
    ≡ Some now → ((r : Record) → (change r).status ≡ after) → status_of (change_record change records t) t ≡ Some after
status-now change records t now after e changes = let r = record-of records t now e in
    status-set change records t r.0 r.1 ∙ ap Some (changes r.0)

pub status-other : (change : Record → Record) (records : List Record) (t u : ℕ) → ¬ (u ≡ t)
    → status_of (change_record change records t) u ≡ status_of records u
status-other change records t u other = from (status-changed change records t u)
  where
    from : (status_of (change_record change records t) u ≡ status_of records u) ⊎ ((u ≡ t) × ((r : Record)
        × (at_number records t ≡ Some r) × (status_of (change_record change records t) u ≡ Some (change r).status)))
        → status_of (change_record change records t) u ≡ status_of records u
    from (inl same) = same
    from (inr (at, _)) = absurd (other at)

-- ---- queues

-- the thread isn't among them
abbrev pub IsAbsent : List ℕ → ℕ → Type 0
IsAbsent threads t = (place : ℕ) → ¬ (slice_get threads place ≡ Some t)

pub queue-empty : (records : List Record) (status : Status) → IsQueue records status []
queue-empty records status =
    record { each = λ place t e. nothing place t e; once = λ place other t e more. absurd (nothing-there place t e) }
  where
    nothing : (place t : ℕ) → slice_get {X = ℕ} [] place ≡ Some t → status_of records t ≡ Some status
    nothing place t e = cc

    nothing-there : (place t : ℕ) → slice_get {X = ℕ} [] place ≡ Some t → ⊥
    nothing-there place t e = cc

-- who has another status isn't among them
pub absent-other : (records : List Record) (status now : Status) (threads : List ℕ) (t : ℕ)
    → IsQueue records status threads → status_of records t ≡ Some now → ¬ (now ≡ status) → IsAbsent threads t
absent-other records status now threads t queue is other place e =
    other (some-injective now status (sym is ∙ queue.each place t e))

pub queue-changed : (change : Record → Record) (records : List Record) (u : ℕ) (status : Status) (threads : List ℕ)
    → IsAbsent threads u → IsQueue records status threads → IsQueue (change_record change records u) status threads
queue-changed change records u status threads absent queue = record {
  each = λ place t e. status-other change records u t (λ same. absent place (e ∙ ap Some same)) ∙ queue.each place t e;
  once = queue.once;
}

-- the thread of the first free place, if there is one, is dead
abbrev pub FirstIsDead : List Record → List ℕ → Type 0
FirstIsDead records free = (place : ℕ) → slice_get free 0 ≡ Some place → status_of records (suc place) ≡ Some Dead

-- who isn't dead keeps its record when one more thread comes
pub record-stays : (records : List Record) (free : List ℕ) (x r : Record) (t : ℕ) → FirstIsDead records free
    → ¬ (r.status ≡ Dead) → at_number records t ≡ Some r → at_number (placed records free x) t ≡ Some r
record-stays records free x r t first alive is =
    number-stays records free x r t
    (λ at. alive (some-injective r.status Dead (sym (ap (option_map (λ (y : Record). y.status)) is)
    ∙ ap (status_of records) (sym (number-there records t r is)) ∙ first (t - 1) at))) is

pub queue-placed : (records : List Record) (free : List ℕ) (r : Record) (status : Status) (threads : List ℕ)
    → ¬ (status ≡ Dead) → FirstIsDead records free → IsQueue records status threads
    → IsQueue (placed records free r) status threads
queue-placed records free r status threads alive first queue =
    record { each = λ place t e. from t (record-of records t status (queue.each place t e)); once = queue.once }
  where
    from : (t : ℕ) → (x : Record) × (at_number records t ≡ Some x) × (x.status ≡ status)
        → status_of (placed records free r) t ≡ Some status
    from t (x, there, is) = ap (option_map (λ (y : Record). y.status))
        (record-stays records free r x t first (λ dead. alive (sym is ∙ dead)) there) ∙ ap Some is

-- the place of what is added at the end
push-place : (xs : List ℕ) (x k : ℕ)
    → (slice_get (xs ++ x ∷ []) k ≡ slice_get xs k) ⊎ ((k ≡ length xs) × (slice_get (xs ++ x ∷ []) k ≡ Some x))
push-place [] x zero = inr (refl, refl)
push-place [] x (suc k) = inl refl
push-place (y ∷ ys) x zero = inl refl
push-place (y ∷ ys) x (suc k) = next (push-place ys x k)
  where
    next : (slice_get (ys ++ x ∷ []) k ≡ slice_get ys k) ⊎ ((k ≡ length ys) × (slice_get (ys ++ x ∷ []) k ≡ Some x))
        → (slice_get (y ∷ ys ++ x ∷ []) (suc k) ≡ slice_get (y ∷ ys) (suc k))
        ⊎ ((suc k ≡ length (y ∷ ys)) × (slice_get (y ∷ ys ++ x ∷ []) (suc k) ≡ Some x))
    next (inl same) = inl same
    next (inr (at, is)) = inr (ap suc at, is)

pub queue-push : (records : List Record) (status : Status) (threads : List ℕ) (t : ℕ) → status_of records t
    ≡ Some status → IsAbsent threads t → IsQueue records status threads → IsQueue records status (threads ++ t ∷ [])
queue-push records status threads t is absent queue = record {
  each = λ place u e. each place u e (push-place threads t place);
  once = λ place other u e more. once place other u e more (push-place threads t place) (push-place threads t other);
}
  where
    each : (place u : ℕ) → slice_get (threads ++ t ∷ []) place ≡ Some u
        → (slice_get (threads ++ t ∷ []) place ≡ slice_get threads place)
        ⊎ ((place ≡ length threads) × (slice_get (threads ++ t ∷ []) place ≡ Some t))
        → status_of records u ≡ Some status
    each place u e (inl same) = queue.each place u (sym same ∙ e)
    each place u e (inr (at, new)) = ap (status_of records) (some-injective u t (sym e ∙ new)) ∙ is

    once : (place other u : ℕ) → slice_get (threads ++ t ∷ []) place ≡ Some u
        → slice_get (threads ++ t ∷ []) other ≡ Some u
        → (slice_get (threads ++ t ∷ []) place ≡ slice_get threads place)
        ⊎ ((place ≡ length threads) × (slice_get (threads ++ t ∷ []) place ≡ Some t))
        → (slice_get (threads ++ t ∷ []) other ≡ slice_get threads other)
        ⊎ ((other ≡ length threads) × (slice_get (threads ++ t ∷ []) other ≡ Some t)) → place ≡ other
    once place other u e more (inl old) (inl old_other) = queue.once place other u (sym old ∙ e) (sym old_other ∙ more)
    once place other u e more (inl old) (inr (at, new)) = absurd (absent place (sym old ∙ e ∙ sym more ∙ new))
    once place other u e more (inr (at, new)) (inl old) = absurd (absent other (sym old ∙ more ∙ sym e ∙ new))
    once place other u e more (inr (at, new)) (inr (at_other, _)) = at ∙ sym at_other

-- who isn't among them, and isn't added, isn't among them then
pub absent-push : (threads : List ℕ) (t u : ℕ) → IsAbsent threads u → ¬ (t ≡ u) → IsAbsent (threads ++ t ∷ []) u
absent-push threads t u absent other place e = from (push-place threads t place)
  where
    from : (slice_get (threads ++ t ∷ []) place ≡ slice_get threads place)
        ⊎ ((place ≡ length threads) × (slice_get (threads ++ t ∷ []) place ≡ Some t)) → ⊥
    from (inl same) = absent place (sym same ∙ e)
    from (inr (at, is)) = other (some-injective t u (sym is ∙ e))

pub queue-rest : (records : List Record) (status : Status) (t : ℕ) (threads : List ℕ)
    → IsQueue records status (t ∷ threads) → IsQueue records status threads
queue-rest records status t threads queue = record {
  each = λ place u e. queue.each (suc place) u e;
  once = λ place other u e more. ap pred (queue.once (suc place) (suc other) u e more);
}

pub absent-rest : (records : List Record) (status : Status) (t : ℕ) (threads : List ℕ)
    → IsQueue records status (t ∷ threads) → IsAbsent threads t
absent-rest records status t threads queue place e = let same : zero ≡ suc place =
    queue.once zero (suc place) t refl e in absurd (omega (arith, same))

-- where what is left after a removal stood
skip : ℕ → ℕ → ℕ
skip zero i = suc i
skip (suc place) zero = zero
skip (suc place) (suc i) = suc (skip place i)

skip-other : (place i : ℕ) → ¬ (skip place i ≡ place)
unfolding skip
skip-other zero i e = absurd (omega (arith, e))
skip-other (suc place) zero e = absurd (omega (arith, e))
skip-other (suc place) (suc i) e = skip-other place i (ap pred e)

skip-same : (place i j : ℕ) → skip place i ≡ skip place j → i ≡ j
unfolding skip
skip-same zero i j e = ap pred e
skip-same (suc place) zero zero e = refl
skip-same (suc place) zero (suc j) e = absurd (omega (arith, e))
skip-same (suc place) (suc i) zero e = absurd (omega (arith, e))
skip-same (suc place) (suc i) (suc j) e = ap suc (skip-same place i j (ap pred e))

get-remove : (xs : List ℕ) (place i : ℕ) → slice_get (remove xs place) i ≡ slice_get xs (skip place i)
unfolding skip
get-remove [] zero i = refl
get-remove [] (suc place) i = refl
get-remove (x ∷ xs) zero i = refl
get-remove (x ∷ xs) (suc place) zero = refl
get-remove (x ∷ xs) (suc place) (suc i) = get-remove xs place i

pub queue-without : (records : List Record) (status : Status) (threads : List ℕ) (place : ℕ)
    → IsQueue records status threads → IsQueue records status (remove threads place)
queue-without records status threads place queue = record {
  each = λ i u e. queue.each (skip place i) u (sym (get-remove threads place i) ∙ e);
  once = λ i j u e more. skip-same place i j (queue.once (skip place i) (skip place j) u
      (sym (get-remove threads place i) ∙ e) (sym (get-remove threads place j) ∙ more));
}

pub absent-without : (records : List Record) (status : Status) (threads : List ℕ) (place t : ℕ)
    → IsQueue records status threads → slice_get threads place ≡ Some t → IsAbsent (remove threads place) t
absent-without records status threads place t queue here i e =
    skip-other place i (queue.once (skip place i) place t (sym (get-remove threads place i) ∙ e) here)

-- ---- all queues

-- the thread stands in none
pub record StandsNowhere (clients : List (List ℕ)) (ports : List Port) (mutexes : List Mutex) (t : ℕ) : Type 0 where
  pub receivers : (p : ℕ) (port : Port) → at_number ports p ≡ Some port → IsAbsent port.receivers t
  pub callers : (p : ℕ) (port : Port) → at_number ports p ≡ Some port
      → IsAbsent (map (λ (call : QueuedCall). call.caller) port.calls) t
  pub waiters : (m : ℕ) (mutex : Mutex) → at_number mutexes m ≡ Some mutex → IsAbsent mutex.waiters t
  pub served : (server : ℕ) (threads : List ℕ) → at_number clients server ≡ Some threads → IsAbsent threads t

module _ (records : List Record) (clients : List (List ℕ)) (ports : List Port) (mutexes : List Mutex)
    (queues : HasQueues records clients ports mutexes) where
  -- a thread that is in none may change
  pub queues-changed : (change : Record → Record) (t : ℕ) → StandsNowhere clients ports mutexes t
      → HasQueues (change_record change records t) clients ports mutexes
  queues-changed change t nowhere = record {
    receivers = λ p port there. queue-changed change records t (Receiving p) port.receivers
        (nowhere.receivers p port there) (queues.receivers p port there);
    callers = λ p port there. queue-changed change records t (Queued p) (map
        (λ (call : QueuedCall). call.caller) port.calls) (nowhere.callers p port there) (queues.callers p port there);
    waiters = λ m mutex there. queue-changed change records t (Waiting m) mutex.waiters (nowhere.waiters m mutex there)
        (queues.waiters m mutex there);
    served = λ server threads there. queue-changed change records t (Served server) threads
        (nowhere.served server threads there) (queues.served server threads there);
    own_clients = queues.own_clients;
    own_waiters = queues.own_waiters;
  }

  -- a live thread is in none
  pub nowhere-live : (t : ℕ) (now : Status) → status_of records t ≡ Some now → is_live_status now ≡ true
      → StandsNowhere clients ports mutexes t
  nowhere-live t now is live = record {
    receivers = λ p port there. absent-other records (Receiving p) now port.receivers t
        (queues.receivers p port there) is (λ same. not_live (Receiving p) same refl);
    callers = λ p port there. absent-other records (Queued p) now (map (λ (call : QueuedCall). call.caller) port.calls)
        t (queues.callers p port there) is (λ same. not_live (Queued p) same refl);
    waiters = λ m mutex there. absent-other records (Waiting m) now mutex.waiters t (queues.waiters m mutex there) is
        (λ same. not_live (Waiting m) same refl);
    served = λ server threads there. absent-other records (Served server) now threads t
        (queues.served server threads there) is (λ same. not_live (Served server) same refl);
  }
    where
      not_live : (status : Status) → now ≡ status → is_live_status status ≡ false → ⊥
      not_live status same idle = let lives : is_live_status status ≡ true = ap is_live_status (sym same) ∙ live in cc

  pub queues-live : (change : Record → Record) (t : ℕ) (now : Status) → status_of records t ≡ Some now
      → is_live_status now ≡ true → HasQueues (change_record change records t) clients ports mutexes
  queues-live change t now is live = queues-changed change t (nowhere-live t now is live)

  -- one thread more, which serves nobody
  pub queues-placed : (free : List ℕ) (r : Record) → FirstIsDead records free
      → HasQueues (placed records free r) (placed clients free []) ports mutexes
  queues-placed free r first = record {
    receivers = λ p port there.
        queue-placed records free r (Receiving p) port.receivers (λ e. cc) first (queues.receivers p port there);
    callers = λ p port there. queue-placed records free r (Queued p)
        (map (λ (call : QueuedCall). call.caller) port.calls) (λ e. cc) first (queues.callers p port there);
    waiters = λ m mutex there.
        queue-placed records free r (Waiting m) mutex.waiters (λ e. cc) first (queues.waiters m mutex there);
    served = λ server threads there. from server threads there (number-placed clients free [] server);
    own_clients = λ server threads there. own server threads there (number-placed clients free [] server);
    own_waiters = queues.own_waiters;
  }
    where
      nothing : (place u : ℕ) → slice_get {X = ℕ} [] place ≡ Some u → ⊥
      nothing place u e = cc

      own : (server : ℕ) (threads : List ℕ) → at_number (placed clients free []) server ≡ Some threads
          → (at_number (placed clients free []) server ≡ at_number clients server)
          ⊎ (at_number (placed clients free []) server ≡ Some []) → IsAbsent threads server
      own server threads there (inl same) = queues.own_clients server threads (sym same ∙ there)
      own server threads there (inr new) = λ place e.
          nothing place server (ap (λ ts. slice_get ts place) (some-injective [] threads (sym new ∙ there)) ∙ e)

      from : (server : ℕ) (threads : List ℕ) → at_number (placed clients free []) server ≡ Some threads
          → (at_number (placed clients free []) server ≡ at_number clients server)
          ⊎ (at_number (placed clients free []) server ≡ Some [])
          → IsQueue (placed records free r) (Served server) threads
      from server threads there (inl same) = queue-placed records free r (Served server) threads (λ e. cc) first
          (queues.served server threads (sym same ∙ there))
      from server threads there (inr new) =
          let empty : [] ≡ threads = some-injective [] threads (sym new ∙ there) in subst (λ ts. IsQueue
          (placed records free r) (Served server) ts) empty (queue-empty (placed records free r) (Served server))

  -- another port in the place of one
  pub queues-port : (p : ℕ) (old new : Port) → at_number ports p ≡ Some old
      → IsQueue records (Receiving p) new.receivers
      → IsQueue records (Queued p) (map (λ (call : QueuedCall). call.caller) new.calls)
      → HasQueues records clients (set_number ports p new) mutexes
  queues-port p old new there receivers callers = record {
    receivers = λ q port is. receive q port is (number-set ports p new q);
    callers = λ q port is. calls q port is (number-set ports p new q);
    waiters = queues.waiters;
    served = queues.served;
    own_clients = queues.own_clients;
    own_waiters = queues.own_waiters;
  }
    where
      receive : (q : ℕ) (port : Port) → at_number (set_number ports p new) q ≡ Some port
          → (at_number (set_number ports p new) q ≡ at_number ports q)
          ⊎ ((q ≡ suc (p - 1)) × (at_number (set_number ports p new) q ≡ Some new))
          → IsQueue records (Receiving q) port.receivers
      receive q port is (inl same) = queues.receivers q port (sym same ∙ is)
      receive q port is (inr (at, now)) =
          let number : p ≡ q = sym (at ∙ number-there ports p old there) in
          subst (λ x. IsQueue records (Receiving q) x.receivers) (some-injective new port (sym now ∙ is))
          (subst (λ x. IsQueue records (Receiving x) new.receivers) number receivers)

      calls : (q : ℕ) (port : Port) → at_number (set_number ports p new) q ≡ Some port
          → (at_number (set_number ports p new) q ≡ at_number ports q)
          ⊎ ((q ≡ suc (p - 1)) × (at_number (set_number ports p new) q ≡ Some new))
          → IsQueue records (Queued q) (map (λ (call : QueuedCall). call.caller) port.calls)
      calls q port is (inl same) = queues.callers q port (sym same ∙ is)
      calls q port is (inr (at, now)) =
          let number : p ≡ q = sym (at ∙ number-there ports p old there) in
          subst (λ x. IsQueue records (Queued q) (map (λ (call : QueuedCall). call.caller) x.calls))
          (some-injective new port (sym now ∙ is))
          (subst (λ x. IsQueue records (Queued x) (map (λ (call : QueuedCall). call.caller) new.calls)) number callers)

  -- another mutex in the place of one
  pub queues-mutex : (m : ℕ) (old new : Mutex) → at_number mutexes m ≡ Some old
      → IsQueue records (Waiting m) new.waiters
      → ((owner : ℕ) → new.owner ≡ Some owner → IsAbsent new.waiters owner)
      → HasQueues records clients ports (set_number mutexes m new)
  queues-mutex m old new there waiters apart = record {
    receivers = queues.receivers;
    callers = queues.callers;
    waiters = λ n mutex is. wait n mutex is (number-set mutexes m new n);
    served = queues.served;
    own_clients = queues.own_clients;
    own_waiters = λ n owner mutex is owned. own n owner mutex is owned (number-set mutexes m new n);
  }
    where
      own : (n owner : ℕ) (mutex : Mutex) → at_number (set_number mutexes m new) n ≡ Some mutex
          → mutex.owner ≡ Some owner
          → (at_number (set_number mutexes m new) n ≡ at_number mutexes n)
          ⊎ ((n ≡ suc (m - 1)) × (at_number (set_number mutexes m new) n ≡ Some new)) → IsAbsent mutex.waiters owner
      own n owner mutex is owned (inl same) = queues.own_waiters n owner mutex (sym same ∙ is) owned
      own n owner mutex is owned (inr (at, now)) =
          let here : new ≡ mutex = some-injective new mutex (sym now ∙ is) in
          λ place e. apart owner (ap (λ (x : Mutex). x.owner) here ∙ owned) place
          (ap (λ (x : Mutex). slice_get x.waiters place) here ∙ e)

      wait : (n : ℕ) (mutex : Mutex) → at_number (set_number mutexes m new) n ≡ Some mutex
          → (at_number (set_number mutexes m new) n ≡ at_number mutexes n)
          ⊎ ((n ≡ suc (m - 1)) × (at_number (set_number mutexes m new) n ≡ Some new))
          → IsQueue records (Waiting n) mutex.waiters
      wait n mutex is (inl same) = queues.waiters n mutex (sym same ∙ is)
      wait n mutex is (inr (at, now)) =
          let number : m ≡ n = sym (at ∙ number-there mutexes m old there) in
          subst (λ x. IsQueue records (Waiting n) x.waiters) (some-injective new mutex (sym now ∙ is))
          (subst (λ x. IsQueue records (Waiting x) new.waiters) number waiters)

  -- other clients of a thread
  pub queues-clients : (server : ℕ) (threads : List ℕ) → suc (server - 1) ≡ server
      → IsQueue records (Served server) threads → IsAbsent threads server
      → HasQueues records (set_number clients server threads) ports mutexes
  queues-clients server threads number queue apart = record {
    receivers = queues.receivers;
    callers = queues.callers;
    waiters = queues.waiters;
    served = λ other these is. serve other these is (number-set clients server threads other);
    own_clients = λ other these is. own other these is (number-set clients server threads other);
    own_waiters = queues.own_waiters;
  }
    where
      own : (other : ℕ) (these : List ℕ) → at_number (set_number clients server threads) other ≡ Some these
          → (at_number (set_number clients server threads) other ≡ at_number clients other)
          ⊎ ((other ≡ suc (server - 1)) × (at_number (set_number clients server threads) other ≡ Some threads))
          → IsAbsent these other
      own other these is (inl same) = queues.own_clients other these (sym same ∙ is)
      own other these is (inr (at, now)) =
          λ place e. apart place
          (ap (λ ts. slice_get ts place) (some-injective threads these (sym now ∙ is)) ∙ e ∙ ap Some (at ∙ number))

      serve : (other : ℕ) (these : List ℕ) → at_number (set_number clients server threads) other ≡ Some these
          → (at_number (set_number clients server threads) other ≡ at_number clients other)
          ⊎ ((other ≡ suc (server - 1)) × (at_number (set_number clients server threads) other ≡ Some threads))
          → IsQueue records (Served other) these
      serve other these is (inl same) = queues.served other these (sym same ∙ is)
      serve other these is (inr (at, now)) =
          let same : server ≡ other = sym (at ∙ number) in
          subst (λ x. IsQueue records (Served other) x) (some-injective threads these (sym now ∙ is))
          (subst (λ x. IsQueue records (Served x) threads) same queue)

  -- whom a thread serves, even if it isn't there
  pub queue-clients : (server : ℕ) → IsQueue records (Served server) (clients_of clients server)
  queue-clients server = from (at_number clients server) refl
    where
      from : (o : Option (List ℕ)) → at_number clients server ≡ o → IsQueue records (Served server) (unwrap_or o [])
      from None is = queue-empty records (Served server)
      from (Some threads) is = queues.served server threads is

  -- which is never itself
  pub own-absent : (server : ℕ) → IsAbsent (clients_of clients server) server
  own-absent server = from (at_number clients server) refl
    where
      from : (o : Option (List ℕ)) → at_number clients server ≡ o → IsAbsent (unwrap_or o []) server
      from None is = nothing
        where
          nothing : (place : ℕ) → slice_get {X = ℕ} [] place ≡ Some server → ⊥
          nothing place e = cc
      from (Some threads) is = queues.own_clients server threads is
