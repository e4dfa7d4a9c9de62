-- After a kill nothing makes a cycle, and waiting threads are in the queues that their statuses name.
use Rattle.lot_machine.proofs.Common.{Bool, HasNoCycle, HasQueues, IsQueue, Lend, LendsTo, List, Mutex, Nobody, None, Option, Port, QueuedCall, Record, Some, State, Status, ToMutex, ToThread, ap, arith, at_number, borrower, cases_eq, change_each, clients_of, cond, ended, false, funding_of, inl, inr, is_owned_by, killed, lend_of, map, mutex_without, not, option_and_then, option_flatten, option_map, owner_of, passed_on, port_without, refl, released, released_by, set_number, slice_get, status_of, subst, suc, sym, true, unwrap_or, without, zero, ℕ, [], ◌-◌, ◌==◌, ◌∙◌, ◌∷◌, ◌≡◌, ◌⊎◌}
use Rattle.lot_machine.specs.declared.record.Status.TheVariants as status
use Rattle.lot_machine.proofs.Paths.{IsEnd, steps-to-ends}
use Rattle.lot_machine.proofs.Changes.{number-set}
use Rattle.lot_machine.proofs.Tickets.{some-injective}
use Rattle.lot_machine.proofs.LendsKept.{no-lend-return, no-lend-back}
use Rattle.lot_machine.proofs.Queues.{IsAbsent, number-set_same, queue-empty, queue-rest, absent-rest, status-other}
use Rattle.lot_machine.proofs.TrapCycles.{at_number-map, lend-at}
use Rattle.lot_machine.proofs.Killed.{filter-was, passed-first, IsAmong, IsHeir, owner-either, heir-released, without-other, queue-filter, queue-kept, callers-without, each-either, each-now, stands-still, killed-either}

-- ---- lends

-- who lends to a thread has a status that says so
pub lends-by : (s : State) (u v : ℕ) → LendsTo (funding_of s) u v
    → (now : Status) × (status_of s.records u ≡ Some now) × (borrower (funding_of s) (lend_of s.limits now) ≡ Some v)
lends-by s u v lends = from (at_number s.records u) refl (ap (option_and_then (borrower (funding_of s)))
    (sym (at_number-map (λ (r : Record). lend_of s.limits r.status) s.records u)) ∙ lends)
  where
    from : (o : Option Record) → at_number s.records u ≡ o
        → option_and_then (borrower (funding_of s)) (option_map (λ (r : Record). lend_of s.limits r.status) o) ≡ Some v
        → (now : Status) × (status_of s.records u ≡ Some now)
        × (borrower (funding_of s) (lend_of s.limits now) ≡ Some v)
    from None is e = cc
    from (Some r) is e = (r.status, ap (option_map (λ (x : Record). x.status)) is, e)

-- and the other way round
pub lends-of : (s : State) (u v : ℕ) (now : Status) → status_of s.records u ≡ Some now
    → borrower (funding_of s) (lend_of s.limits now) ≡ Some v → LendsTo (funding_of s) u v
lends-of s u v now is to = ap (option_and_then (borrower (funding_of s))) (lend-at s.limits s.records u now is) ∙ to

module _ (s : State) (t : ℕ) where
  -- an heir is Ready, if it is there
  heir-idle : (u : ℕ) → IsHeir s t u
      → (status_of (killed s t).records u ≡ Some status.Ready) ⊎ (status_of (killed s t).records u ≡ None)
  heir-idle u why = at (status_of s.records u) refl
    where
      after : List Record
      after = change_each released s.records (released_by s t)

      other : status_of (killed s t).records u ≡ status_of after u
      other = status-other ended after t u (without-other t why.held.waiters 0 u why.first)

      among : IsAmong (released_by s t) u
      among = heir-released s t u why

      from : status_of s.records u ≡ None
          → (status_of (change_each released s.records (released_by s t)) u ≡ status_of s.records u)
          ⊎ (status_of (change_each released s.records (released_by s t)) u ≡ Some status.Ready)
          → (status_of (killed s t).records u ≡ Some status.Ready) ⊎ (status_of (killed s t).records u ≡ None)
      from none (inl same) = inr (other ∙ same ∙ none)
      from none (inr ready) = inl (other ∙ ready)

      at : (o : Option Status) → status_of s.records u ≡ o
          → (status_of (killed s t).records u ≡ Some status.Ready) ⊎ (status_of (killed s t).records u ≡ None)
      at None none = from none (each-either released status.Ready (λ r. refl) s.records (released_by s t) u)
      at (Some now) is =
          inl (other ∙ each-now released status.Ready (λ r. refl) s.records (released_by s t) among.0 u now among.1 is)

  -- so it lends to nobody
  heir-ends : (u : ℕ) → IsHeir s t u → IsEnd (LendsTo (funding_of (killed s t))) u
  heir-ends u why v lends = from (lends-by (killed s t) u v lends) (heir-idle u why)
    where
      from : ((now : Status) × (status_of (killed s t).records u ≡ Some now)
          × (borrower (funding_of (killed s t)) (lend_of s.limits now) ≡ Some v))
          → (status_of (killed s t).records u ≡ Some status.Ready) ⊎ (status_of (killed s t).records u ≡ None) → ⊥
      from (now, is, to) (inl ready) = let same : now ≡ status.Ready =
          some-injective now status.Ready (sym is ∙ ready) in let none : None ≡ Some v =
          sym (ap (λ x. borrower (funding_of (killed s t)) (lend_of s.limits x)) same) ∙ to in cc
      from (now, is, to) (inr none) = let never : None ≡ Some now = sym none ∙ is in cc

  -- whoever gets a lend got it before, or is an heir
  borrower-either : (lend : Lend) (v : ℕ) → borrower (funding_of (killed s t)) lend ≡ Some v
      → (borrower (funding_of s) lend ≡ Some v) ⊎ IsHeir s t v
  borrower-either Nobody v e = cc
  borrower-either (ToThread server) v e = inl e
  borrower-either (ToMutex m) v e = from (at_number s.mutexes m) refl (sym (ap option_flatten owners) ∙ e)
    where
      owners : at_number (map (λ (x : Mutex). x.owner) (map (mutex_without t) s.mutexes)) m
          ≡ option_map (λ (x : Mutex). x.owner) (option_map (mutex_without t) (at_number s.mutexes m))
      owners = at_number-map (λ (x : Mutex). x.owner) (map (mutex_without t) s.mutexes) m
          ∙ ap (option_map (λ (x : Mutex). x.owner)) (at_number-map (mutex_without t) s.mutexes m)

      from : (o : Option Mutex) → at_number s.mutexes m ≡ o
          → option_flatten (option_map (λ (x : Mutex). x.owner) (option_map (mutex_without t) o)) ≡ Some v
          → (owner_of (funding_of s) m ≡ Some v) ⊎ IsHeir s t v
      from None there is = cc
      from (Some held) there is = whose (owner-either t v held is)
        where
          whose : ((is_owned_by t held ≡ false) × (held.owner ≡ Some v))
              ⊎ ((is_owned_by t held ≡ true) × (slice_get (without t held.waiters) 0 ≡ Some v))
              → (owner_of (funding_of s) m ≡ Some v) ⊎ IsHeir s t v
          whose (inl (other, owner)) = inl (ap option_flatten (at_number-map (λ (x : Mutex). x.owner) s.mutexes m
              ∙ ap (option_map (λ (x : Mutex). x.owner)) there) ∙ owner)
          whose (inr (owned, first)) =
              inr (record { mutex = m; held = held; there = there; owned = owned; first = first })

  -- a lend is as before, or goes to an heir
  lends-either : (u v : ℕ) → LendsTo (funding_of (killed s t)) u v
      → LendsTo (funding_of s) u v ⊎ IsEnd (LendsTo (funding_of (killed s t))) v
  lends-either u v lends = from (lends-by (killed s t) u v lends) (killed-either s t u)
    where
      nobody : (now other : Status) → lend_of s.limits other ≡ Nobody → status_of (killed s t).records u ≡ Some now
          → status_of (killed s t).records u ≡ Some other
          → ¬ (borrower (funding_of (killed s t)) (lend_of s.limits now) ≡ Some v)
      nobody now other none is new to =
          let same : lend_of s.limits now ≡ Nobody = ap (lend_of s.limits) (some-injective now other (sym is ∙ new))
          ∙ none in
          let never : None ≡ Some v = sym (ap (borrower (funding_of (killed s t))) same) ∙ to in cc

      from : ((now : Status) × (status_of (killed s t).records u ≡ Some now)
          × (borrower (funding_of (killed s t)) (lend_of s.limits now) ≡ Some v))
          → (status_of (killed s t).records u ≡ status_of s.records u)
          ⊎ ((status_of (killed s t).records u ≡ Some status.Ready)
          ⊎ (status_of (killed s t).records u ≡ Some status.Dead))
          → LendsTo (funding_of s) u v ⊎ IsEnd (LendsTo (funding_of (killed s t))) v
      from (now, is, to) (inl same) = to_whom (borrower-either (lend_of s.limits now) v to)
        where
          to_whom : (borrower (funding_of s) (lend_of s.limits now) ≡ Some v) ⊎ IsHeir s t v
              → LendsTo (funding_of s) u v ⊎ IsEnd (LendsTo (funding_of (killed s t))) v
          to_whom (inl old) = inl (lends-of s u v now (sym same ∙ is) old)
          to_whom (inr why) = inr (heir-ends v why)
      from (now, is, to) (inr (inl ready)) = absurd (nobody now status.Ready refl is ready to)
      from (now, is, to) (inr (inr dead)) = absurd (nobody now status.Dead refl is dead to)

  pub kill-cycle : HasNoCycle (funding_of s) → HasNoCycle (funding_of (killed s t))
  kill-cycle no_cycle = record {
    funding = no_cycle.funding;
    lends = no-lend-back (funding_of (killed s t)) (steps-to-ends (LendsTo (funding_of (killed s t)))
        (LendsTo (funding_of s)) lends-either (no-lend-return (funding_of s) no_cycle));
  }

-- ---- queues

-- what stands at a number after each element changes
pub number-mapped : {A B : Type 0} (f : A → B) (xs : List A) (n : ℕ) (y : B) → at_number (map f xs) n ≡ Some y
    → (x : A) × ((at_number xs n ≡ Some x) × (f x ≡ y))
number-mapped {A} {B} f xs n y e = from (at_number xs n) refl (sym (at_number-map f xs n) ∙ e)
  where
    from : (o : Option A) → at_number xs n ≡ o → option_map f o ≡ Some y
        → (x : A) × ((at_number xs n ≡ Some x) × (f x ≡ y))
    from None is h = cc
    from (Some x) is h = (x, (is, some-injective (f x) y h))

-- who serves nobody serves nobody after a kill
pub killed-idle : (s : State) (t u : ℕ) → clients_of s.clients u ≡ [] → clients_of (killed s t).clients u ≡ []
killed-idle s t u idle = from (number-set (map (without t) s.clients) t [] u)
  where
    still : (o : Option (List ℕ)) → unwrap_or o [] ≡ [] → unwrap_or (option_map (without t) o) [] ≡ []
    still None e = refl
    still (Some threads) e = ap (without t) e

    from : (at_number (set_number (map (without t) s.clients) t []) u ≡ at_number (map (without t) s.clients) u)
        ⊎ ((u ≡ suc (t - 1)) × (at_number (set_number (map (without t) s.clients) t []) u ≡ Some []))
        → clients_of (set_number (map (without t) s.clients) t []) u ≡ []
    from (inl same) = ap (λ o. unwrap_or o []) (same ∙ at_number-map (without t) s.clients u)
        ∙ still (at_number s.clients u) idle
    from (inr (at, new)) = ap (λ o. unwrap_or o []) new

module _ (s : State) (queues : HasQueues s.records s.clients s.ports s.mutexes) (t : ℕ) (number : suc (t - 1) ≡ t) where
  -- those who wait in a queue, without the thread, are in order as before if they aren't released
  still-queue : (now : Status) (threads : List ℕ) → ¬ (now ≡ status.Served t)
      → ((place u : ℕ) → slice_get threads place ≡ Some u → ¬ (u ≡ t))
      → ((place u : ℕ) → slice_get threads place ≡ Some u → (why : IsHeir s t u) → ¬ (now ≡ status.Waiting why.mutex))
      → IsQueue s.records now threads → IsQueue (killed s t).records now threads
  still-queue now threads client other waiter queue =
      queue-kept s.records (killed s t).records now threads (λ place u e.
      stands-still s queues t u now (queue.each place u e) (other place u e) client (waiter place u e)) queue

  without-queue : (now : Status) (threads : List ℕ) → ¬ (now ≡ status.Served t)
      → ((u : ℕ) (why : IsHeir s t u) → ¬ (now ≡ status.Waiting why.mutex)) → IsQueue s.records now threads
      → IsQueue (killed s t).records now (without t threads)
  without-queue now threads client waiter queue =
      still-queue now (without t threads) client (λ place u e. without-other t threads place u e)
      (λ place u e. waiter u) (queue-filter (λ u. not (u == t)) s.records now threads queue)

  waiting-same : (m n : ℕ) → status.Waiting m ≡ status.Waiting n → m ≡ n
  waiting-same m n e = cc

  served-same : (m n : ℕ) → status.Served m ≡ status.Served n → m ≡ n
  served-same m n e = cc

  -- the heir of the mutex is the first that waits for it
  held-same : (m : ℕ) (mutex : Mutex) → at_number s.mutexes m ≡ Some mutex → (u : ℕ) (why : IsHeir s t u)
      → status.Waiting m ≡ status.Waiting why.mutex → mutex ≡ why.held
  held-same m mutex there u why same =
      some-injective mutex why.held (sym there ∙ ap (at_number s.mutexes) (waiting-same m why.mutex same) ∙ why.there)

  waiters-then : (m : ℕ) (mutex : Mutex) → at_number s.mutexes m ≡ Some mutex
      → IsQueue (killed s t).records (status.Waiting m) (mutex_without t mutex).waiters
  waiters-then m mutex there = at (is_owned_by t mutex) refl
    where
      queue : IsQueue s.records (status.Waiting m) (without t mutex.waiters)
      queue = queue-filter (λ u. not (u == t)) s.records (status.Waiting m) mutex.waiters (queues.waiters m mutex there)

      passed : (waiters : List ℕ) → without t mutex.waiters ≡ waiters
          → IsQueue (killed s t).records (status.Waiting m) (passed_on waiters).waiters
      passed [] is = queue-empty (killed s t).records (status.Waiting m)
      passed (w ∷ ws) is =
          let these : IsQueue s.records (status.Waiting m) (w ∷ ws) =
          subst (IsQueue s.records (status.Waiting m)) is queue in
          still-queue (status.Waiting m) ws (λ e. cc)
          (λ place u e. without-other t mutex.waiters (suc place) u (ap (λ xs. slice_get xs (suc place)) is ∙ e))
          (λ place u e why same.
          let held = held-same m mutex there u why same in
          let first : Some w ≡ Some u = sym (ap (λ xs. slice_get xs 0) is)
          ∙ ap (λ (x : Mutex). slice_get (without t x.waiters) 0) held ∙ why.first in
          absent-rest s.records (status.Waiting m) w ws these place (e ∙ sym first))
          (queue-rest s.records (status.Waiting m) w ws these)

      at : (b : Bool) → is_owned_by t mutex ≡ b
          → IsQueue (killed s t).records (status.Waiting m) (mutex_without t mutex).waiters
      at true owned = rw owned (passed (without t mutex.waiters) refl)
      at false other =
          rw other (without-queue (status.Waiting m) mutex.waiters (λ e. cc)
          (λ u why same. let never : true ≡ false = sym why.owned ∙ sym (ap (is_owned_by t)
          (held-same m mutex there u why same)) ∙ other in absurd (differs never)) (queues.waiters m mutex there))
        where
          differs : true ≡ false → ⊥
          differs e = cc

  served-then : (server : ℕ) (threads : List ℕ) → at_number (set_number (map (without t) s.clients) t []) server
      ≡ Some threads → IsQueue (killed s t).records (status.Served server) threads
  served-then server threads there = from (cases_eq server t) (number-set (map (without t) s.clients) t [] server)
    where
      empty : [] ≡ threads → IsQueue (killed s t).records (status.Served server) threads
      empty is = subst (IsQueue (killed s t).records (status.Served server)) is
          (queue-empty (killed s t).records (status.Served server))

      from : (server ≡ t) ⊎ (server ≡ t → ⊥)
          → (at_number (set_number (map (without t) s.clients) t []) server
          ≡ at_number (map (without t) s.clients) server)
          ⊎ ((server ≡ suc (t - 1)) × (at_number (set_number (map (without t) s.clients) t []) server ≡ Some []))
          → IsQueue (killed s t).records (status.Served server) threads
      from at (inr (place, new)) = empty (some-injective [] threads (sym new ∙ there))
      from (inl at) (inl same) =
          let before : at_number (map (without t) s.clients) t ≡ Some threads =
          ap (at_number (map (without t) s.clients)) (sym at) ∙ sym same ∙ there in
          let new = number-set_same (map (without t) s.clients) t [] threads before in
          empty (some-injective [] threads
          (sym new ∙ ap (at_number (set_number (map (without t) s.clients) t [])) (sym at) ∙ there))
      from (inr other) (inl same) =
          let (old, (here, is)) = number-mapped (without t) s.clients server threads (sym same ∙ there) in
          subst (IsQueue (killed s t).records (status.Served server)) is
          (without-queue (status.Served server) old (λ e. other (served-same server t e)) (λ u why e. cc)
          (queues.served server old here))

  own-clients : (server : ℕ) (threads : List ℕ)
      → at_number (set_number (map (without t) s.clients) t []) server ≡ Some threads → IsAbsent threads server
  own-clients server threads there place e = from (number-set (map (without t) s.clients) t [] server)
    where
      nothing : slice_get {X = ℕ} [] place ≡ Some server → ⊥
      nothing none = cc

      from : (at_number (set_number (map (without t) s.clients) t []) server
          ≡ at_number (map (without t) s.clients) server)
          ⊎ ((server ≡ suc (t - 1)) × (at_number (set_number (map (without t) s.clients) t []) server ≡ Some []))
          → ⊥
      from (inr (at, new)) = nothing (ap (λ xs. slice_get xs place) (some-injective [] threads (sym new ∙ there)) ∙ e)
      from (inl same) =
          let (old, (here, is)) = number-mapped (without t) s.clients server threads (sym same ∙ there) in
          let (k, was) = filter-was (λ u. not (u == t)) old place server (ap (λ xs. slice_get xs place) is ∙ e) in
          queues.own_clients server old here k was

  own-waiters : (m owner : ℕ) (mutex : Mutex) → at_number (map (mutex_without t) s.mutexes) m ≡ Some mutex
      → mutex.owner ≡ Some owner → IsAbsent mutex.waiters owner
  own-waiters m owner mutex there owned place e = from (number-mapped (mutex_without t) s.mutexes m mutex there)
    where
      rest-of : (xs : List ℕ) → slice_get (passed_on xs).waiters place ≡ Some owner
          → slice_get xs (suc place) ≡ Some owner
      rest-of [] w = cc
      rest-of (x ∷ xs) w = w

      from : ((held : Mutex) × ((at_number s.mutexes m ≡ Some held) × (mutex_without t held ≡ mutex))) → ⊥
      from (held, (here, is)) = by (is_owned_by t held) (ap (λ (x : Mutex). x.owner) is ∙ owned)
          (ap (λ (x : Mutex). slice_get x.waiters place) is ∙ e)
        where
          by : (b : Bool) → (cond b (passed_on (without t held.waiters))
              (record { owner = held.owner; waiters = without t held.waiters })).owner ≡ Some owner
              → slice_get (cond b (passed_on (without t held.waiters))
              (record { owner = held.owner; waiters = without t held.waiters })).waiters place ≡ Some owner → ⊥
          by true first later =
              let queue =
              queue-filter (λ u. not (u == t)) s.records (status.Waiting m) held.waiters (queues.waiters m held here) in
              let same : zero ≡ suc place = queue.once zero (suc place) owner
              (passed-first (without t held.waiters) owner first) (rest-of (without t held.waiters) later) in
              absurd (omega (arith, same))
          by false before waits = let (k, was) = filter-was (λ u. not (u == t)) held.waiters place owner waits in
              queues.own_waiters m owner held here before k was

  pub kill-queues : HasQueues (killed s t).records (killed s t).clients (killed s t).ports (killed s t).mutexes
  kill-queues = record {
    receivers = λ p port there.
        let (old, (here, is)) = number-mapped (port_without t) s.ports p port there in
        subst (λ (x : Port). IsQueue (killed s t).records (status.Receiving p) x.receivers) is
        (without-queue (status.Receiving p) old.receivers (λ e. cc) (λ u why e. cc) (queues.receivers p old here));
    callers = λ p port there.
        let (old, (here, is)) = number-mapped (port_without t) s.ports p port there in
        subst (λ (x : Port).
        IsQueue (killed s t).records (status.Queued p) (map (λ (call : QueuedCall). call.caller) x.calls)) is
        (subst (IsQueue (killed s t).records (status.Queued p)) (sym (callers-without t old.calls))
        (without-queue (status.Queued p) (map (λ (call : QueuedCall). call.caller) old.calls) (λ e. cc) (λ u why e. cc)
        (queues.callers p old here)));
    waiters = λ m mutex there.
        let (old, (here, is)) = number-mapped (mutex_without t) s.mutexes m mutex there in
        subst (λ (x : Mutex). IsQueue (killed s t).records (status.Waiting m) x.waiters) is (waiters-then m old here);
    served = served-then;
    own_clients = own-clients;
    own_waiters = own-waiters;
  }
