-- The threads that run, those that are Ready, and those that have used nothing on a processor.
use Rattle.lot_machine.proofs.Common.{Bool, HasQueues, IsQueue, List, Mutex, None, Option, Port, QueuedCall, Record, RunsApart, Some, State, Status, ap, arith, at_number, change_record, false, filter, first_client, get_or, get_or_from_slice_get, get_or_past, inl, inr, is_asleep, is_dead, is_none, is_ready, is_some, length, map, mutex_at, ne_eqb, numbers, option_and_then, option_any, option_map, placed, port_at, ready_threads, refl, slice_get, slice_get_cases, slice_index, slice_set, status_of, subst, suc, sym, then_some, thread_on, thread_there, true, unwrap_or, used_by, used_on, zero, ℕ, [], ◌++◌, ◌-◌, ◌<◌, ◌==◌, ◌∙◌, ◌∷◌, ◌≡◌, ◌≤◌, ◌⊎◌}
use Rattle.lot_machine.specs.declared.record.Status.TheVariants as status
use Rattle.lot_machine.proofs.Changes.{place-set, number-push}
use Rattle.lot_machine.proofs.Places.{number-stays}
use Rattle.lot_machine.proofs.Queues.{record-of, queue-clients, FirstIsDead}
use Rattle.lot_machine.proofs.Tickets.{at_number-suc, some-injective}
use Rattle.lot_machine.proofs.CommandsKept.{some-of}
use Rattle.lot_machine.proofs.RecordsKept.{RunsAlone, status-changed, runs-alone, found-runs}

-- ---- the Ready threads

-- what a filter keeps passes
pub filter-passes : (test : ℕ → Bool) (xs : List ℕ) (i x : ℕ) → slice_get (filter test xs) i ≡ Some x → test x ≡ true
filter-passes test [] i x e = cc
filter-passes test (y ∷ ys) i x e = at (λ j. filter-passes test ys j x) (test y) refl
  where
    at : ((j : ℕ) → slice_get (filter test ys) j ≡ Some x → test x ≡ true) → (b : Bool) → test y ≡ b → test x ≡ true
    at more false is = let same : filter test (y ∷ ys) ≡ filter test ys = rw is refl in
        more i (sym (ap (λ zs. slice_get zs i) same) ∙ e)
    at more true is = let same : filter test (y ∷ ys) ≡ y ∷ filter test ys = rw is refl in
        from i (sym (ap (λ zs. slice_get zs i) same) ∙ e)
      where
        from : (j : ℕ) → slice_get (y ∷ filter test ys) j ≡ Some x → test x ≡ true
        from zero here = ap test (sym (some-injective y x here)) ∙ is
        from (suc j) here = more j here

pub is-ready : (o : Option Status) → option_any is_ready o ≡ true → o ≡ Some status.Ready
is-ready None e = cc
is-ready (Some status.Ready) e = refl
is-ready (Some (status.Running p used)) e = cc
is-ready (Some (status.Receiving p)) e = cc
is-ready (Some (status.Queued p)) e = cc
is-ready (Some (status.Served server)) e = cc
is-ready (Some (status.Waiting m)) e = cc
is-ready (Some status.Asleep) e = cc
is-ready (Some status.Dead) e = cc

pub is-dead : (o : Option Status) → option_any is_dead o ≡ true → o ≡ Some status.Dead
is-dead None e = cc
is-dead (Some status.Dead) e = refl
is-dead (Some status.Ready) e = cc
is-dead (Some (status.Running p used)) e = cc
is-dead (Some (status.Receiving p)) e = cc
is-dead (Some (status.Queued p)) e = cc
is-dead (Some (status.Served server)) e = cc
is-dead (Some (status.Waiting m)) e = cc
is-dead (Some status.Asleep) e = cc

pub is-asleep : (o : Option Status) → option_any is_asleep o ≡ true → o ≡ Some status.Asleep
is-asleep None e = cc
is-asleep (Some status.Asleep) e = refl
is-asleep (Some status.Ready) e = cc
is-asleep (Some (status.Running p used)) e = cc
is-asleep (Some (status.Receiving p)) e = cc
is-asleep (Some (status.Queued p)) e = cc
is-asleep (Some (status.Served server)) e = cc
is-asleep (Some (status.Waiting m)) e = cc
is-asleep (Some status.Dead) e = cc

-- who has a status keeps it when one more thread comes in another place
pub status-stays : (records : List Record) (free : List ℕ) (r : Record) (t : ℕ) (now : Status)
    → ¬ (slice_get free 0 ≡ Some (t - 1)) → status_of records t ≡ Some now
    → status_of (placed records free r) t ≡ Some now
status-stays records free r t now other is = from (record-of records t now is)
  where
    from : (x : Record) × (at_number records t ≡ Some x) × (x.status ≡ now)
        → status_of (placed records free r) t ≡ Some now
    from (x, there, same) = ap (option_map (λ (y : Record). y.status)) (number-stays records free r x t other there)
        ∙ ap Some same

-- who has a status has a number
pub status-number : (records : List Record) (t : ℕ) (now : Status) → status_of records t ≡ Some now → suc (t - 1) ≡ t
status-number records zero now is = cc
status-number records (suc i) now is = omega arith

-- ---- who runs on a processor

-- the thread that is found on a processor runs there
pub there-runs : (s : State) (p : ℕ) → is_none (thread_on s.records p) ≡ false
    → (used : ℕ) × (status_of s.records (thread_there s p) ≡ Some (status.Running p used))
there-runs s p some = from (some-of (thread_on s.records p) some)
  where
    from : ((t : ℕ) × (thread_on s.records p ≡ Some t))
        → (used : ℕ) × (status_of s.records (thread_there s p) ≡ Some (status.Running p used))
    from (t, found) = let there = found-runs s.records p t found in
        (there.0, ap (λ o. status_of s.records (unwrap_or o 0)) found ∙ there.1)

-- the thread that is found on a processor has it alone
pub there-alone : (s : State) (p : ℕ) → is_none (thread_on s.records p) ≡ false → RunsApart s.records
    → RunsAlone s.records p (thread_there s p)
there-alone s p some runs = from (some-of (thread_on s.records p) some)
  where
    from : ((t : ℕ) × (thread_on s.records p ≡ Some t)) → RunsAlone s.records p (thread_there s p)
    from (t, found) = let there = found-runs s.records p t found in
        rw found (runs-alone s.records p t there.0 runs there.1)

pub free-of : {A : Type 0} (o : Option A) → is_some o ≡ false → o ≡ None
free-of None e = refl
free-of (Some x) e = cc

-- ---- what has been used on a processor

-- each thread has used as many ticks on the processor afterwards as before
abbrev pub SameUsed : ℕ → List Record → List Record → Type 0
SameUsed p before after = (u : ℕ) → used_by after p u ≡ used_by before p u

-- who runs on another processor has used nothing on this one
pub used-elsewhere : (p q used : ℕ) → ¬ (q ≡ p) → used_on p (status.Running q used) ≡ None
used-elsewhere p q used other = let differs : (q == p) ≡ false = ne_eqb q p other in ap (λ b. then_some b used) differs

-- who doesn't run has used nothing on any
pub used-stopped : (p : ℕ) (now : Status) → ((q used : ℕ) → ¬ (now ≡ status.Running q used)) → used_on p now ≡ None
used-stopped p status.Ready stops = refl
used-stopped p (status.Running q used) stops = absurd (stops q used refl)
used-stopped p (status.Queued q) stops = refl
used-stopped p (status.Receiving q) stops = refl
used-stopped p (status.Served q) stops = refl
used-stopped p (status.Waiting q) stops = refl
used-stopped p status.Asleep stops = refl
used-stopped p status.Dead stops = refl

-- who doesn't run on this processor has used nothing there
pub used-stopped_on : (p : ℕ) (now : Status) → ((used : ℕ) → ¬ (now ≡ status.Running p used)) → used_on p now ≡ None
used-stopped_on p (status.Running q used) stops =
    used-elsewhere p q used (λ same. stops used (ap (λ x. status.Running x used) same))
used-stopped_on p other stops = refl

-- a thread has used nothing on a processor if its status says so
pub used-of : (records : List Record) (p t : ℕ) (now : Status) → status_of records t ≡ Some now → used_on p now ≡ None
    → used_by records p t ≡ None
used-of records p t now is none = ap (option_and_then (used_on p)) is ∙ none

-- a change of a thread that runs on the processor neither before nor after
pub used-changed : (change : Record → Record) (records : List Record) (t p : ℕ) → used_by records p t ≡ None
    → ((r : Record) → used_on p (change r).status ≡ None)
    → SameUsed p records (change_record change records t)
used-changed change records t p before after u = from (status-changed change records t u)
  where
    from : (status_of (change_record change records t) u ≡ status_of records u)
        ⊎ ((u ≡ t) × ((r : Record) × (at_number records t ≡ Some r)
        × (status_of (change_record change records t) u ≡ Some (change r).status)))
        → used_by (change_record change records t) p u ≡ used_by records p u
    from (inl same) = ap (option_and_then (used_on p)) same
    from (inr (at, (r, there, new))) = ap (option_and_then (used_on p)) new ∙ after r
        ∙ sym (ap (used_by records p) at ∙ before)

-- the thread isn't dead
abbrev pub IsAlive : List Record → ℕ → Type 0
IsAlive records t = ¬ (status_of records t ≡ Some status.Dead)

-- a thread isn't dead if its status says so
pub alive-of : (records : List Record) (t : ℕ) (now : Status) → status_of records t ≡ Some now → ¬ (now ≡ status.Dead)
    → IsAlive records t
alive-of records t now is other dead = other (some-injective now status.Dead (sym is ∙ dead))

-- nobody has the number 0
pub nobody-alive : (records : List Record) → IsAlive records 0
nobody-alive records dead = cc

-- the ticks that a record says, if there is one
abbrev used_in : ℕ → Option Record → Option ℕ
used_in p o = option_and_then (used_on p) (option_map (λ (r : Record). r.status) o)

-- one thread more, which doesn't run on the processor
pub used-placed : (records : List Record) (free : List ℕ) (r : Record) (p : ℕ) → used_on p r.status ≡ None
    → FirstIsDead records free → SameUsed p records (placed records free r)
used-placed records [] r p idle first u = from (number-push records r u)
  where
    from : (at_number (records ++ r ∷ []) u ≡ at_number records u)
        ⊎ ((at_number records u ≡ None) × (at_number (records ++ r ∷ []) u ≡ Some r))
        → used_by (records ++ r ∷ []) p u ≡ used_by records p u
    from (inl same) = ap (used_in p) same
    from (inr (none, new)) = ap (used_in p) new ∙ idle ∙ sym (ap (used_in p) none)
used-placed records (i ∷ free) r p idle first zero = refl
used-placed records (i ∷ free) r p idle first (suc k) = from (place-set records i r k)
  where
    in-place : (xs : List Record) → used_by xs p (suc k) ≡ used_in p (slice_get xs k)
    in-place xs = ap (used_in p) (at_number-suc xs k)

    from : (slice_get (slice_set records i r) k ≡ slice_get records k)
        ⊎ ((k ≡ i) × (slice_get (slice_set records i r) k ≡ Some r))
        → used_by (slice_set records i r) p (suc k) ≡ used_by records p (suc k)
    from (inl same) = in-place (slice_set records i r) ∙ ap (used_in p) same ∙ sym (in-place records)
    from (inr (at, is)) =
        in-place (slice_set records i r) ∙ ap (used_in p) is ∙ idle
        ∙ sym (ap (option_and_then (used_on p)) (ap (λ j. status_of records (suc j)) at ∙ first i refl))

-- what holds of 0 and of each element holds of what an index gives
pub index-holds : (P : ℕ → Type 0) (xs : List ℕ) (place : ℕ) → P 0 → ((x : ℕ) → slice_get xs place ≡ Some x → P x)
    → P (slice_index xs place)
index-holds P xs place none each = from (slice_get_cases xs place).1
  where
    from : ((x : ℕ) × (place < length xs) × (slice_get xs place ≡ Some x) × (get_or xs place x ≡ x))
        ⊎ ((length xs ≤ place) × (slice_get xs place ≡ None))
        → P (slice_index xs place)
    from (inl (x, below, is, same)) = let there : slice_index xs place ≡ x = get_or_from_slice_get xs place x 0 is in
        subst P (sym there) (each x is)
    from (inr (past, _)) = let there : slice_index xs place ≡ 0 = get_or_past xs place 0 past in
        subst P (sym there) none

-- who stands among the Ready threads is Ready
ready-stands : (s : State) (place t : ℕ) → slice_get (ready_threads s.records) place ≡ Some t
    → status_of s.records t ≡ Some status.Ready
ready-stands s place t here = is-ready (status_of s.records t)
    (filter-passes (λ u. option_any is_ready (status_of s.records u)) (numbers s.records) place t here)

-- and has used nothing on any processor
pub ready-used : (s : State) (p place t : ℕ) → slice_get (ready_threads s.records) place ≡ Some t
    → used_by s.records p t ≡ None
ready-used s p place t here = used-of s.records p t status.Ready (ready-stands s place t here) refl

-- and isn't dead
pub ready-alive : (s : State) (place t : ℕ) → slice_get (ready_threads s.records) place ≡ Some t → IsAlive s.records t
ready-alive s place t here = alive-of s.records t status.Ready (ready-stands s place t here) (λ e. cc)

-- ---- who waits

module _ (records : List Record) (clients : List (List ℕ)) (ports : List Port) (mutexes : List Mutex)
    (queues : HasQueues records clients ports mutexes) where
  -- the first that receives at a port
  pub receiver-stands : (port server : ℕ) (others : List ℕ) → (port_at ports port).receivers ≡ server ∷ others
      → status_of records server ≡ Some (status.Receiving port)
  receiver-stands port server others = from (at_number ports port) refl
    where
      from : (o : Option Port) → at_number ports port ≡ o
          → (unwrap_or o (record { calls = []; receivers = [] })).receivers ≡ server ∷ others
          → status_of records server ≡ Some (status.Receiving port)
      from None is e = cc
      from (Some x) is e =
          let queue : IsQueue records (status.Receiving port) (server ∷ others) =
          subst (IsQueue records (status.Receiving port)) e (queues.receivers port x is) in
          queue.each 0 server refl

  -- the first whose call is queued there
  caller-stands : (port : ℕ) (first : QueuedCall) (others : List QueuedCall)
      → (port_at ports port).calls ≡ first ∷ others → status_of records first.caller ≡ Some (status.Queued port)
  caller-stands port first others = from (at_number ports port) refl
    where
      from : (o : Option Port) → at_number ports port ≡ o
          → (unwrap_or o (record { calls = []; receivers = [] })).calls ≡ first ∷ others
          → status_of records first.caller ≡ Some (status.Queued port)
      from None is e = cc
      from (Some x) is e =
          let callers : List QueuedCall → List ℕ = map (λ (call : QueuedCall). call.caller) in
          let queue : IsQueue records (status.Queued port) (callers (first ∷ others)) =
          subst (λ calls. IsQueue records (status.Queued port) (callers calls)) e (queues.callers port x is) in
          queue.each 0 first.caller refl

  -- who stands at a place of those that wait for a mutex
  waiter-stands : (m place : ℕ) (waiters : List ℕ) → (mutex_at mutexes m).waiters ≡ waiters → (t : ℕ)
      → slice_get waiters place ≡ Some t → status_of records t ≡ Some (status.Waiting m)
  waiter-stands m place waiters e t here = from (at_number mutexes m) refl e
    where
      from : (o : Option Mutex) → at_number mutexes m ≡ o
          → (unwrap_or o (record { owner = None; waiters = [] })).waiters ≡ waiters
          → status_of records t ≡ Some (status.Waiting m)
      from None is none = let empty : slice_get {X = ℕ} [] place ≡ Some t = ap (λ ts. slice_get ts place) none ∙ here in
          cc
      from (Some x) is same = let queue = queues.waiters m x is in
          queue.each place t (ap (λ ts. slice_get ts place) same ∙ here)

  -- none of them has used anything on a processor
  pub receiver-used : (p port server : ℕ) (others : List ℕ) → (port_at ports port).receivers ≡ server ∷ others
      → used_by records p server ≡ None
  receiver-used p port server others is =
      used-of records p server (status.Receiving port) (receiver-stands port server others is) refl

  pub caller-used : (p port : ℕ) (first : QueuedCall) (others : List QueuedCall)
      → (port_at ports port).calls ≡ first ∷ others → used_by records p first.caller ≡ None
  caller-used p port first others is =
      used-of records p first.caller (status.Queued port) (caller-stands port first others is) refl

  -- nor has a thread's first client, or 0
  pub client-used : (p server : ℕ) → used_by records p (unwrap_or (first_client clients server) 0) ≡ None
  client-used p server = from (first_client clients server) refl
    where
      from : (o : Option ℕ) → first_client clients server ≡ o → used_by records p (unwrap_or o 0) ≡ None
      from None is = refl
      from (Some client) is =
          let queue = queue-clients records clients ports mutexes queues server in
          used-of records p client (status.Served server) (queue.each 0 client is) refl

  pub waiter-used : (p m place : ℕ) (waiters : List ℕ) → (mutex_at mutexes m).waiters ≡ waiters
      → used_by records p (slice_index waiters place) ≡ None
  waiter-used p m place waiters e =
      index-holds (λ t. used_by records p t ≡ None) waiters place refl
      (λ t here. used-of records p t (status.Waiting m) (waiter-stands m place waiters e t here) refl)

  -- and none of them is dead
  pub receiver-alive : (port server : ℕ) (others : List ℕ) → (port_at ports port).receivers ≡ server ∷ others
      → IsAlive records server
  receiver-alive port server others is =
      alive-of records server (status.Receiving port) (receiver-stands port server others is) (λ e. cc)

  pub caller-alive : (port : ℕ) (first : QueuedCall) (others : List QueuedCall)
      → (port_at ports port).calls ≡ first ∷ others → IsAlive records first.caller
  caller-alive port first others is =
      alive-of records first.caller (status.Queued port) (caller-stands port first others is) (λ e. cc)

  pub client-alive : (server : ℕ) → IsAlive records (unwrap_or (first_client clients server) 0)
  client-alive server = from (first_client clients server) refl
    where
      from : (o : Option ℕ) → first_client clients server ≡ o → IsAlive records (unwrap_or o 0)
      from None is = nobody-alive records
      from (Some client) is =
          let queue = queue-clients records clients ports mutexes queues server in
          alive-of records client (status.Served server) (queue.each 0 client is) (λ e. cc)

  pub waiter-alive : (m place : ℕ) (waiters : List ℕ) → (mutex_at mutexes m).waiters ≡ waiters
      → IsAlive records (slice_index waiters place)
  waiter-alive m place waiters e =
      index-holds (IsAlive records) waiters place (nobody-alive records)
      (λ t here. alive-of records t (status.Waiting m) (waiter-stands m place waiters e t here) (λ same. cc))

-- who runs isn't dead
pub there-alive : (s : State) (p : ℕ) → is_none (thread_on s.records p) ≡ false → IsAlive s.records (thread_there s p)
there-alive s p some = let there = there-runs s p some in
    alive-of s.records (thread_there s p) (status.Running p there.0) there.1 (λ e. cc)

-- who runs on another processor has used nothing on this one
pub there-used : (s : State) (p q : ℕ) → ¬ (q ≡ p) → is_none (thread_on s.records q) ≡ false
    → used_by s.records p (thread_there s q) ≡ None
there-used s p q other some =
    let there = there-runs s q some in
    used-of s.records p (thread_there s q) (status.Running q there.0) there.1 (used-elsewhere p q there.0 other)
