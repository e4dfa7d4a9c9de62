-- The state of a killed thread, and of the threads that waited for it.
use Rattle.lot_laws.proofs.Common.{Bool, Contains, DeadThread, Event, IsAbsent, IsAmong, IsHeir, IsInOrder, IsNextOwner, IsReachable, Kill, Kills, LendsTo, List, Mutex, NoThread, Nobody, None, Option, Owns, Port, Record, Refusal, Sizes, Some, StandsNowhere, State, Status, ThreadRef, ToMutex, ToThread, WaitsForThread, after_kill, among-append_left, ap, arith, at_number, at_number-map, at_number-suc, borrower, calls-absent, change_each, clients_of, cond, contains-at, drop, each-record, each-record_either, each-record_other, ended, eq-eqb, eqb-true, false, filter_map, first_failing, funding_of, get_or, heir, heir-released, holder_of, if◌then◌else◌, inl, inr, is_dead_in, is_none, is_owned_by, kill, kill-step, killed, lend_of, lends-by, lends_at, length, lent-if, lent-to, map, meant-number, meant-within, mutex_without, number-mapped, number-set, number-set_same, opening, option_any, option_flatten, option_map, owner-either, owner_of, passed_on, place-in, port_without, record-now, record-other, refl, released, released-why, released_by, set_number, slice_get, slice_get_cases, some-injective, state_after, status_of, step, step-grown, step-order, subst, suc, sym, thread_meant, true, unless_refused, unwrap_or, without, without-absent, without-other, zero, ℕ, [], ◌-◌, ◌<◌, ◌==◌, ◌∙◌, ◌∷◌, ◌≡◌, ◌≤◌, ◌⊎◌}
use Rattle.lot_machine.specs.declared.record.Status.TheVariants as status
use Rattle.lot_machine.specs.declared.event.Event.TheVariants as event
use Rattle.lot_machine.proofs.Queues as queues
use Rattle.lot_laws.proofs.EachTicket.{reachable-order}
use Rattle.lot_laws.proofs.StayOut.{dead-nowhere}
use Rattle.lot_laws.proofs.StaysInside.{reachable-run}
use Rattle.lot_laws.proofs.Listed.{reachable-listed}

-- ---- the state after a kill

pub kill-is : (s : State) (thread : ThreadRef) (t : ℕ) → Kills s thread t → after_kill s thread ≡ killed s t
kill-is s thread t kills = (kill-step s thread t kills).1

-- ---- who is there

-- as many records as threads
SameCount : State → Type 0
SameCount s = length s.records ≡ length s.threads

step-count : (s : State) (e : Event) → SameCount s → SameCount (step s e).state
unfolding SameCount
step-count s e same = let (limits, (more, records, threads)) = step-grown s e in omega (arith, same, records, threads)

run-count : (s : State) (events : List Event) → SameCount s → SameCount (state_after s events)
run-count s [] same = same
run-count s (e ∷ events) same = run-count (step s e).state events (step-count s e same)

opening-count : (limits : Sizes) → SameCount (opening limits)
unfolding SameCount
opening-count limits = refl

count-of : (s : State) → SameCount s → length s.records ≡ length s.threads
unfolding SameCount
count-of s same = same

record-there : {A : Type 0} (xs : List A) (t : ℕ) → 1 ≤ t → t ≤ length xs → (x : A) × (at_number xs t ≡ Some x)
record-there {A} xs zero low high = absurd (omega (arith, low))
record-there {A} xs (suc i) low high = from (slice_get_cases xs i).1
  where
    from : ((x : A) × (i < length xs) × (slice_get xs i ≡ Some x) × (get_or xs i x ≡ x))
        ⊎ ((length xs ≤ i) × (slice_get xs i ≡ None)) → (x : A) × (at_number xs (suc i) ≡ Some x)
    from (inl (x, _, here, _)) = (x, at_number-suc xs i ∙ here)
    from (inr (past, _)) = absurd (omega (arith, past, high))

-- a thread that is meant has a record
meant-record : (s : State) (thread : ThreadRef) (t : ℕ) → IsReachable s → thread_meant s thread ≡ Some t
    → (r : Record) × (at_number s.records t ≡ Some r)
meant-record s thread t (limits, events, bounds, is) meant =
    let within = meant-within s thread t meant in
    let same = count-of s (subst SameCount (sym is) (run-count (opening limits) events (opening-count limits))) in
    record-there s.records t within.0 (omega (arith, within.1, same))

-- ---- the killed thread

pub killed-record : (s : State) (t : ℕ) (r : Record) → at_number s.records t ≡ Some r
    → at_number (killed s t).records t ≡ Some (ended r)
killed-record s t r there = from (each-record_either released (λ x. refl) s.records (released_by s t) t r there)
  where
    from : (at_number (change_each released s.records (released_by s t)) t ≡ Some r)
        ⊎ (at_number (change_each released s.records (released_by s t)) t ≡ Some (released r))
        → at_number (killed s t).records t ≡ Some (ended r)
    from (inl here) = record-now ended (change_each released s.records (released_by s t)) t r here
    from (inr here) = record-now ended (change_each released s.records (released_by s t)) t (released r) here

pub kill-record : (s : State) (thread : ThreadRef) (t : ℕ) (r : Record) → Kills s thread t
    → at_number s.records t ≡ Some r → at_number (after_kill s thread).records t ≡ Some (ended r)
kill-record s thread t r kills there = ap (λ (a : State). at_number a.records t) (kill-is s thread t kills)
    ∙ killed-record s t r there

pub kill-lists : (s : State) (thread : ThreadRef) (t : ℕ) → IsReachable s → Kills s thread t
    → StandsNowhere (after_kill s thread) t
kill-lists s thread t reachable kills =
    let (r, there) = meant-record s thread t reachable (kill-step s thread t kills).0 in
    dead-nowhere (after_kill s thread) (step-order s (event.Command (Kill thread)) (reachable-order s reachable)) t
    (ap (option_map (λ (x : Record). x.status)) (kill-record s thread t r kills there))

-- the number of a killed thread
kill-number : (s : State) (thread : ThreadRef) (t : ℕ) → Kills s thread t → suc (t - 1) ≡ t
kill-number s thread t kills = meant-number s thread t (kill-step s thread t kills).0

pub kill-serves : (s : State) (thread : ThreadRef) (t : ℕ) (clients : List ℕ) → Kills s thread t
    → at_number (after_kill s thread).clients t ≡ Some clients → clients ≡ []
kill-serves s thread t clients kills there = from (number-set (map (without t) s.clients) t [] t)
  where
    now : at_number (set_number (map (without t) s.clients) t []) t ≡ Some clients
    now = ap (λ (a : State). at_number a.clients t) (sym (kill-is s thread t kills)) ∙ there

    from : (at_number (set_number (map (without t) s.clients) t []) t ≡ at_number (map (without t) s.clients) t)
        ⊎ ((t ≡ suc (t - 1)) × (at_number (set_number (map (without t) s.clients) t []) t ≡ Some [])) → clients ≡ []
    from (inl same) =
        some-injective clients [] (sym now ∙ number-set_same (map (without t) s.clients) t [] clients (sym same ∙ now))
    from (inr (_, new)) = some-injective clients [] (sym now ∙ new)

-- whether a mutex belongs to the thread
owned-by : (t : ℕ) (o : Option ℕ) → option_any (λ owner. owner == t) o ≡ true → o ≡ Some t
owned-by t None e = cc
owned-by t (Some owner) e = ap Some (eqb-true owner t e)

by-owner : (t : ℕ) (o : Option ℕ) → o ≡ Some t → option_any (λ owner. owner == t) o ≡ true
by-owner t o e = ap (option_any (λ owner. owner == t)) e ∙ eq-eqb t t refl

not-owned : (t : ℕ) (o : Option ℕ) → ¬ (o ≡ Some t) → option_any (λ owner. owner == t) o ≡ false
not-owned t o other = at (option_any (λ owner. owner == t) o) refl
  where
    at : (b : Bool) → option_any (λ owner. owner == t) o ≡ b → b ≡ false
    at true is = absurd (other (owned-by t o is))
    at false is = refl

pub kill-owns : (s : State) (thread : ThreadRef) (t m : ℕ) (mutex : Mutex) → Kills s thread t
    → at_number (after_kill s thread).mutexes m ≡ Some mutex → ¬ (mutex.owner ≡ Some t)
kill-owns s thread t m mutex kills there owner = from (number-mapped (mutex_without t) s.mutexes m mutex
    (ap (λ (a : State). at_number a.mutexes m) (sym (kill-is s thread t kills)) ∙ there))
  where
    from : ((held : Mutex) × ((at_number s.mutexes m ≡ Some held) × (mutex_without t held ≡ mutex))) → ⊥
    from (held, (here, is)) = whose (owner-either t t held (ap (λ (x : Mutex). x.owner) is ∙ owner))
      where
        whose : ((is_owned_by t held ≡ false) × (held.owner ≡ Some t))
            ⊎ ((is_owned_by t held ≡ true) × (slice_get (without t held.waiters) 0 ≡ Some t)) → ⊥
        whose (inl (other, before)) = let never : true ≡ false = sym (by-owner t held.owner before) ∙ other in
            differs never
          where
            differs : ¬ (true ≡ false)
            differs e = cc
        whose (inr (mine, first)) = without-other t held.waiters 0 t first refl

-- ---- who waited for it

module _ (s : State) (order : IsInOrder s) (t : ℕ) where
  -- the thread doesn't wait for its own mutex
  own-absent : (m : ℕ) (mutex : Mutex) → Owns s t m mutex → IsAbsent mutex.waiters t
  own-absent m mutex (there, owner) = order.queues.own_waiters m t mutex there owner

  next-heir : (u : ℕ) → IsNextOwner s t u → IsHeir s t u
  next-heir u (m, (mutex, owns, first)) = record {
    mutex = m;
    held = mutex;
    there = owns.0;
    owned = by-owner t mutex.owner owns.1;
    first = ap (λ xs. slice_get xs 0) (without-absent t mutex.waiters (own-absent m mutex owns)) ∙ first;
  }

  heir-next : (u : ℕ) → IsHeir s t u → IsNextOwner s t u
  heir-next u why =
      let owns : Owns s t why.mutex why.held = (why.there, owned-by t why.held.owner why.owned) in
      (why.mutex, (why.held, owns, sym (ap (λ xs. slice_get xs 0) (without-absent t why.held.waiters (own-absent why.mutex why.held owns))) ∙ why.first))

  -- who waits for the thread is another, and the kill releases it
  waits-other : (u : ℕ) → WaitsForThread s t u → ¬ (u ≡ t)
  waits-other u (inl client) same =
      let (place, e) = place-in (clients_of s.clients t) u client in
      queues.own-absent s.records s.clients s.ports s.mutexes order.queues t place (e ∙ ap Some same)
  waits-other u (inr next) same = without-other t (next-heir u next).held.waiters 0 u (next-heir u next).first same

  waits-among : (u : ℕ) → WaitsForThread s t u → IsAmong (released_by s t) u
  waits-among u (inl client) = let (place, e) = place-in (clients_of s.clients t) u client in
      among-append_left (clients_of s.clients t) (filter_map (heir t) s.mutexes) place u e
  waits-among u (inr next) = heir-released s t u (next-heir u next)

  released-record : (u : ℕ) (r : Record) → WaitsForThread s t u → at_number s.records u ≡ Some r
      → at_number (killed s t).records u ≡ Some (released r)
  released-record u r waits there =
      let (place, e) = waits-among u waits in
      record-other ended (change_each released s.records (released_by s t)) t u (waits-other u waits)
      ∙ each-record released (λ x. refl) s.records (released_by s t) place u r e there

  other-record : (u : ℕ) → ¬ (u ≡ t) → ¬ WaitsForThread s t u → at_number (killed s t).records u ≡ at_number s.records u
  other-record u other still = record-other ended (change_each released s.records (released_by s t)) t u other
      ∙ each-record_other released s.records (released_by s t) u absent
    where
      absent : IsAbsent (released_by s t) u
      absent place e = from (released-why s t place u e)
        where
          from : IsAmong (clients_of s.clients t) u ⊎ IsHeir s t u → ⊥
          from (inl (at, is)) = still (inl (contains-at (clients_of s.clients t) at u is))
          from (inr why) = still (inr (heir-next u why))

  passed-mutex : (m : ℕ) (mutex : Mutex) → Owns s t m mutex → at_number (killed s t).mutexes m
      ≡ Some (record { owner = slice_get mutex.waiters 0; waiters = drop 1 mutex.waiters })
  passed-mutex m mutex owns =
      at_number-map (mutex_without t) s.mutexes m ∙ ap (option_map (mutex_without t)) owns.0
      ∙ ap (λ b. Some (cond b (passed_on (without t mutex.waiters))
      (record { owner = mutex.owner; waiters = without t mutex.waiters }))) (by-owner t mutex.owner owns.1)
      ∙ ap (λ xs. Some (passed_on xs)) (without-absent t mutex.waiters (own-absent m mutex owns))
      ∙ ap Some (first mutex.waiters)
    where
      first : (waiters : List ℕ) → passed_on waiters ≡ record { owner = slice_get waiters 0; waiters = drop 1 waiters }
      first [] = refl
      first (w ∷ ws) = refl

  other-port : (p : ℕ) → ¬ (status_of s.records t ≡ Some (status.Queued p))
      → ¬ (status_of s.records t ≡ Some (status.Receiving p)) → at_number (killed s t).ports p ≡ at_number s.ports p
  other-port p calls receives = at_number-map (port_without t) s.ports p ∙ from (at_number s.ports p) refl
    where
      from : (o : Option Port) → at_number s.ports p ≡ o → option_map (port_without t) o ≡ o
      from None there = refl
      from (Some port) there =
          let same_calls =
          calls-absent t port.calls (λ place e. calls ((order.queues.callers p port there).each place t e)) in
          let same_receivers = without-absent t port.receivers
          (λ place e. receives ((order.queues.receivers p port there).each place t e)) in
          ap (λ cs. Some (record { calls = cs; receivers = without t port.receivers })) same_calls
          ∙ ap (λ rs. Some (record { calls = port.calls; receivers = rs })) same_receivers

  other-mutex : (m : ℕ) → ¬ (status_of s.records t ≡ Some (status.Waiting m)) → ((mutex : Mutex) → ¬ Owns s t m mutex)
      → at_number (killed s t).mutexes m ≡ at_number s.mutexes m
  other-mutex m waits owns = at_number-map (mutex_without t) s.mutexes m ∙ from (at_number s.mutexes m) refl
    where
      from : (o : Option Mutex) → at_number s.mutexes m ≡ o → option_map (mutex_without t) o ≡ o
      from None there = refl
      from (Some mutex) there =
          ap (λ b. Some (cond b (passed_on (without t mutex.waiters))
          (record { owner = mutex.owner; waiters = without t mutex.waiters })))
          (not-owned t mutex.owner (λ mine. owns mutex (there, mine)))
          ∙ ap (λ ws. Some (record { owner = mutex.owner; waiters = ws }))
          (without-absent t mutex.waiters (λ place e. waits ((order.queues.waiters m mutex there).each place t e)))

  other-clients : (server : ℕ) → suc (t - 1) ≡ t → ¬ (server ≡ t)
      → ¬ (status_of s.records t ≡ Some (status.Served server))
      → at_number (killed s t).clients server ≡ at_number s.clients server
  other-clients server number other served = from (number-set (map (without t) s.clients) t [] server)
    where
      kept : (o : Option (List ℕ)) → at_number s.clients server ≡ o → option_map (without t) o ≡ o
      kept None there = refl
      kept (Some clients) there = ap Some
          (without-absent t clients (λ place e. served ((order.queues.served server clients there).each place t e)))

      from : (at_number (set_number (map (without t) s.clients) t []) server
          ≡ at_number (map (without t) s.clients) server)
          ⊎ ((server ≡ suc (t - 1)) × (at_number (set_number (map (without t) s.clients) t []) server ≡ Some []))
          → at_number (set_number (map (without t) s.clients) t []) server ≡ at_number s.clients server
      from (inl same) = same ∙ at_number-map (without t) s.clients server ∙ kept (at_number s.clients server) refl
      from (inr (at, _)) = absurd (other (at ∙ number))

-- ---- the same, of the command

module _ (s : State) (thread : ThreadRef) (t : ℕ) (order : IsInOrder s) (kills : Kills s thread t) where
  abbrev is : after_kill s thread ≡ killed s t
  is = kill-is s thread t kills

  pub kill-released : (u : ℕ) (r : Record) → WaitsForThread s t u → at_number s.records u ≡ Some r
      → at_number (after_kill s thread).records u ≡ Some (released r)
  kill-released u r waits there = ap (λ (a : State). at_number a.records u) is
      ∙ released-record s order t u r waits there

  pub kill-passed : (m : ℕ) (mutex : Mutex) → Owns s t m mutex → at_number (after_kill s thread).mutexes m
      ≡ Some (record { owner = slice_get mutex.waiters 0; waiters = drop 1 mutex.waiters })
  kill-passed m mutex owns = ap (λ (a : State). at_number a.mutexes m) is ∙ passed-mutex s order t m mutex owns

  pub kill-records : (u : ℕ) → ¬ (u ≡ t) → ¬ WaitsForThread s t u
      → at_number (after_kill s thread).records u ≡ at_number s.records u
  kill-records u other still = ap (λ (a : State). at_number a.records u) is ∙ other-record s order t u other still

  pub kill-ports : (p : ℕ) → ¬ (status_of s.records t ≡ Some (status.Queued p))
      → ¬ (status_of s.records t ≡ Some (status.Receiving p))
      → at_number (after_kill s thread).ports p ≡ at_number s.ports p
  kill-ports p calls receives = ap (λ (a : State). at_number a.ports p) is ∙ other-port s order t p calls receives

  pub kill-mutexes : (m : ℕ) → ¬ (status_of s.records t ≡ Some (status.Waiting m))
      → ((mutex : Mutex) → ¬ Owns s t m mutex) → at_number (after_kill s thread).mutexes m ≡ at_number s.mutexes m
  kill-mutexes m waits owns = ap (λ (a : State). at_number a.mutexes m) is ∙ other-mutex s order t m waits owns

  pub kill-clients : (server : ℕ) → ¬ (server ≡ t) → ¬ (status_of s.records t ≡ Some (status.Served server))
      → at_number (after_kill s thread).clients server ≡ at_number s.clients server
  kill-clients server other served = ap (λ (a : State). at_number a.clients server) is
      ∙ other-clients s order t server (kill-number s thread t kills) other served

pub kill-rest : (s : State) (thread : ThreadRef)
    → after_kill s thread
    ≡ record s { records = (after_kill s thread).records; clients = (after_kill s thread).clients; ports = (after_kill s thread).ports; mutexes = (after_kill s thread).mutexes }
kill-rest s thread = from (first_failing ((is_none (thread_meant s thread), NoThread)
    ∷ (option_any (is_dead_in s) (thread_meant s thread), DeadThread) ∷ []))
  where
    from : (o : Option Refusal) → (unless_refused s o (kill s (unwrap_or (thread_meant s thread) 0))).state
        ≡ record s {
          records = (unless_refused s o (kill s (unwrap_or (thread_meant s thread) 0))).state.records;
          clients = (unless_refused s o (kill s (unwrap_or (thread_meant s thread) 0))).state.clients;
          ports = (unless_refused s o (kill s (unwrap_or (thread_meant s thread) 0))).state.ports;
          mutexes = (unless_refused s o (kill s (unwrap_or (thread_meant s thread) 0))).state.mutexes;
        }
    from None = refl
    from (Some refusal) = refl

-- ---- lends

pub listed : (s : State) (u server : ℕ) → IsReachable s → status_of s.records u ≡ Some (status.Served server)
    → Contains (clients_of s.clients server) u
listed s u server reachable is = let (place, e) = reachable-listed s reachable u server is in
    contains-at (clients_of s.clients server) place u e

-- the state after a kill is reachable
reached-kill : (s : State) (thread : ThreadRef) → IsReachable s → IsReachable (after_kill s thread)
reached-kill s thread reachable = reachable-run s (event.Command (Kill thread) ∷ []) reachable

pub kill-lends : (s : State) (thread : ThreadRef) (t u : ℕ) → IsReachable s → Kills s thread t
    → ¬ LendsTo (funding_of (after_kill s thread)) u t
kill-lends s thread t u reachable kills lends = from (lends-by (after_kill s thread) u t lends)
  where
    served : (server : ℕ) → server ≡ t → status_of (after_kill s thread).records u ≡ Some (status.Served server) → ⊥
    served server same is = nobody (at_number (after_kill s thread).clients t) refl
        (subst (λ k. IsAmong (clients_of (after_kill s thread).clients k) u) same
        (reachable-listed (after_kill s thread) (reached-kill s thread reachable) u server is))
      where
        nothing : IsAmong [] u → ⊥
        nothing (place, e) = cc

        nobody : (o : Option (List ℕ)) → at_number (after_kill s thread).clients t ≡ o → IsAmong (unwrap_or o []) u → ⊥
        nobody None there among = nothing among
        nobody (Some clients) there among =
            nothing (subst (λ (xs : List ℕ). IsAmong xs u) (kill-serves s thread t clients kills there) among)

    owned : (m : ℕ) → owner_of (funding_of (after_kill s thread)) m ≡ Some t → ⊥
    owned m e = mine (at_number (after_kill s thread).mutexes m) refl
        (sym (ap option_flatten (at_number-map (λ (x : Mutex). x.owner) (after_kill s thread).mutexes m)) ∙ e)
      where
        mine : (o : Option Mutex) → at_number (after_kill s thread).mutexes m ≡ o
            → option_flatten (option_map (λ (x : Mutex). x.owner) o) ≡ Some t → ⊥
        mine None there owner = cc
        mine (Some mutex) there owner = kill-owns s thread t m mutex kills there owner

    by : (now : Status) → status_of (after_kill s thread).records u ≡ Some now
        → borrower (funding_of (after_kill s thread)) (lend_of (after_kill s thread).limits now) ≡ Some t → ⊥
    by status.Ready is to = cc
    by (status.Running p used) is to = cc
    by (status.Receiving p) is to = cc
    by (status.Queued p) is to =
        let limits = (after_kill s thread).limits in
        let funding = funding_of (after_kill s thread) in
        owned (holder_of limits p) (lent-if funding (lends_at limits p) (ToMutex (holder_of limits p)) t (lent-to
        funding limits.without_lending (if lends_at limits p then ToMutex (holder_of limits p) else Nobody) t to))
    by (status.Served server) is to = served server (some-injective server t (lent-to (funding_of (after_kill s thread))
        (after_kill s thread).limits.without_lending (ToThread server) t to)) is
    by (status.Waiting m) is to = owned m
        (lent-to (funding_of (after_kill s thread)) (after_kill s thread).limits.without_lending (ToMutex m) t to)
    by status.Asleep is to = cc
    by status.Dead is to = cc

    from : ((now : Status) × (status_of (after_kill s thread).records u ≡ Some now)
        × (borrower (funding_of (after_kill s thread)) (lend_of (after_kill s thread).limits now) ≡ Some t)) → ⊥
    from (now, is, to) = by now is to
