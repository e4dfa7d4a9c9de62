-- Servers cleared before a lock, first in the queues, and then in the threads.
use Rattle.lot_kernel.proofs.Common.{Bool, Freed, HasHolders, HasNoCycle, HasQueues, IsInOrder, IsOwnerBetween, IsRunning, IsStaleIn, IsThere, List, MakesStale, MakesStaleIn, Mutex, Node, None, Option, QueueLists, Sizes, Snapshot, Some, State, Threaded, ap, arith, at_number, at_number-map, before_lock, cases_eq, cond, false, funding_in, funding_of, held, held_by, inl, inr, lends_lead, lends_on_to, length, length-set, lock, lock-queues_then, makes-each, mutex_at, number-set, number-set_same, number-some, of_mutexes, option_any, option_flatten, option_map, owner_of, owners-same, owners_of, port_holders, range_with_len, refl, set_number, subst, suc, sym, threads_of, trap_refusal, true, unserved, unserved_at, with_owner, ℕ, [], ◌+◌, ◌-◌, ◌<◌, ◌∙◌, ◌∷◌, ◌≡◌, ◌≢◌, ◌≤◌, ◌⊎◌}
use Rattle.lot_machine.specs.declared.trap.Trap.TheVariants as action
use Rattle.lot_kernel.proofs.Holding.{IsHeld}
use Rattle.lot_kernel.proofs.PastPorts.{range-low}
use Rattle.lot_kernel.proofs.Trapping.{lead-on, lock-there}
use Rattle.lot_kernel.proofs.Serving.{before-count, holders-set, row-owner, unserved-either, waiters_in}

-- ---- in the queues

-- Owners that pass a test go, one row after another: what is left to do comes to the same end, and nothing but owners
-- has changed. Nobody waits for a row after the first ones.
pub record AreFreed (test : ℕ → Bool) (start now : QueueLists) (first : ℕ) (end : List Mutex)
    (ns : List ℕ) : Type 0 where
  pub rest : unserved test now.mutexes ns ≡ end
  pub queues : now ≡ record start { mutexes = now.mutexes }
  pub count : length now.mutexes ≡ length start.mutexes
  pub unwaited : (m : ℕ) → first < m → (mutex_at now.mutexes m).waiters ≡ []

pub freed-start : (test : ℕ → Bool) (start : QueueLists) (first : ℕ) (ns : List ℕ)
    → ((m : ℕ) → first < m → (mutex_at start.mutexes m).waiters ≡ [])
    → AreFreed test start start first (unserved test start.mutexes ns) ns
freed-start test start first ns unwaited = record { rest = refl; queues = refl; count = refl; unwaited = unwaited }

module _ (test : ℕ → Bool) (start now : QueueLists) (first : ℕ) (end : List Mutex) (n : ℕ) (ns : List ℕ)
    (so_far : AreFreed test start now first end (n ∷ ns)) where
  -- an owner that fails the test stays
  pub freed-other : option_any test (mutex_at now.mutexes n).owner ≡ false → AreFreed test start now first end ns
  freed-other fails = record {
    rest = ap (λ b. unserved test (cond b (set_number now.mutexes n (held_by None)) now.mutexes) ns) (sym fails)
        ∙ so_far.rest;
    queues = so_far.queues;
    count = so_far.count;
    unwaited = so_far.unwaited;
  }

  -- one that passes it goes
  pub freed-mine : (new : QueueLists) → first < n → option_any test (mutex_at now.mutexes n).owner ≡ true
      → new ≡ record now { mutexes = with_owner now.mutexes n None } → AreFreed test start new first end ns
  freed-mine new above passes is = record {
    rest = ap (λ (q : QueueLists). unserved test q.mutexes ns) set ∙ ap (λ b.
        unserved test (cond b (set_number now.mutexes n (held_by None)) now.mutexes) ns) (sym passes) ∙ so_far.rest;
    queues = set ∙ ap (λ (q : QueueLists). let next : QueueLists =
        record q { mutexes = set_number now.mutexes n (held_by None) } in next) so_far.queues
        ∙ ap (λ ms. let next : QueueLists = record start { mutexes = ms } in next)
        (sym (ap (λ (q : QueueLists). q.mutexes) set));
    count = ap (λ (q : QueueLists). length q.mutexes) set ∙ length-set now.mutexes (n - 1) (held_by None)
        ∙ so_far.count;
    unwaited = λ m high. ap (λ (q : QueueLists). (mutex_at q.mutexes m).waiters) set
        ∙ from m high (number-set now.mutexes n (held_by None) m);
  }
    where
      set : new ≡ record now { mutexes = set_number now.mutexes n (held_by None) }
      set = is ∙ ap (λ (ws : List ℕ). let next : QueueLists =
          record now { mutexes = set_number now.mutexes n (record { owner = None; waiters = ws }) } in next)
          (so_far.unwaited n above)

      from : (m : ℕ) → first < m → (at_number (set_number now.mutexes n (held_by None)) m ≡ at_number now.mutexes m)
          ⊎ ((m ≡ suc (n - 1)) × (at_number (set_number now.mutexes n (held_by None)) m ≡ Some (held_by None)))
          → (mutex_at (set_number now.mutexes n (held_by None)) m).waiters ≡ []
      from m high (inl same) = ap waiters_in same ∙ so_far.unwaited m high
      from m high (inr (at, gone)) = ap waiters_in gone

-- ---- in the threads

-- the rows up to a place have the owners that the queues have, and the others those of the start
pub record DoFollow (start v : Threaded) (mutexes : List Mutex) (place : ℕ) : Type 0 where
  pub threads : v ≡ record start { owners = v.owners; stale = v.stale }
  pub count : length v.owners ≡ length start.owners
  pub done : (k : ℕ) → k < place → option_flatten (at_number v.owners (suc k)) ≡ (mutex_at mutexes (suc k)).owner
  pub rest : (k : ℕ) → place < k → at_number v.owners k ≡ at_number start.owners k
  pub kept : (node : Node) → IsStaleIn start node → IsStaleIn v node
  pub stale : MakesStaleIn start v

pub follow-start : (start : Threaded) (mutexes : List Mutex) → DoFollow start start mutexes 0
follow-start start mutexes =
    record { threads = refl; count = refl; done = λ k low. absurd (omega (arith, low)); rest = λ k high. refl; kept = λ node is. is; stale = λ node is. inl is }

module _ (start v : Threaded) (mutexes : List Mutex) (place : ℕ) (so_far : DoFollow start v mutexes place) where
  up-to : (w : Threaded)
      → ((k : ℕ) → k < place → option_flatten (at_number w.owners (suc k)) ≡ (mutex_at mutexes (suc k)).owner)
      → option_flatten (at_number w.owners (suc place)) ≡ (mutex_at mutexes (suc place)).owner
      → (k : ℕ) → k < place + 1 → option_flatten (at_number w.owners (suc k)) ≡ (mutex_at mutexes (suc k)).owner
  up-to w before here k low = from (cases_eq k place)
    where
      from : (k ≡ place) ⊎ (k ≡ place → ⊥)
          → option_flatten (at_number w.owners (suc k)) ≡ (mutex_at mutexes (suc k)).owner
      from (inl same) =
          subst (λ i. option_flatten (at_number w.owners (suc i)) ≡ (mutex_at mutexes (suc i)).owner) (sym same) here
      from (inr other) = before k (omega (arith, low, other))

  -- a row that isn't free has its owner
  pub follow-other : option_flatten (at_number start.owners (suc place)) ≡ (mutex_at mutexes (suc place)).owner
      → DoFollow start v mutexes (place + 1)
  follow-other same = record {
    threads = so_far.threads;
    count = so_far.count;
    done = up-to v so_far.done (ap option_flatten (so_far.rest (suc place) (omega arith)) ∙ same);
    rest = λ k high. so_far.rest k (omega (arith, high));
    kept = so_far.kept;
    stale = so_far.stale;
  }

  -- one that is gets free
  module _ (w : Threaded) (below : place < length start.owners) (free : (mutex_at mutexes (suc place)).owner ≡ None)
      (freed : w ≡ record v { owners = set_number v.owners (place + 1) None; stale = w.stale }) where
    number : place + 1 ≡ suc place
    number = omega arith

    owners-are : w.owners ≡ set_number v.owners (suc place) None
    owners-are = ap (λ (x : Threaded). x.owners) freed ∙ ap (λ n. set_number v.owners n None) number

    gone : at_number w.owners (suc place) ≡ Some None
    gone =
        let (owner, there) = number-some v.owners (suc place) (omega arith) (omega (arith, below, so_far.count)) in
        ap (λ os. at_number os (suc place)) owners-are ∙ number-set_same v.owners (suc place) None owner there

    stays : (k : ℕ) → ¬ (k ≡ suc place) → at_number w.owners k ≡ at_number v.owners k
    stays k other = ap (λ os. at_number os k) owners-are ∙ from (number-set v.owners (suc place) None k)
      where
        from : (at_number (set_number v.owners (suc place) None) k ≡ at_number v.owners k)
            ⊎ ((k ≡ suc (suc place - 1)) × (at_number (set_number v.owners (suc place) None) k ≡ Some None))
            → at_number (set_number v.owners (suc place) None) k ≡ at_number v.owners k
        from (inl same) = same
        from (inr (at, is)) = absurd (other (omega (arith, at)))

    between : (k : ℕ) → IsOwnerBetween start v w k
    between k = from (cases_eq k (suc place))
      where
        from : (k ≡ suc place) ⊎ (k ≡ suc place → ⊥) → IsOwnerBetween start v w k
        from (inl same) = inl (so_far.rest k (omega (arith, same)))
        from (inr other) = inr (inl (sym (stays k other)))

    pub follow-freed : ((node : Node) → IsStaleIn v node → IsStaleIn w node) → MakesStaleIn v w
        → DoFollow start w mutexes (place + 1)
    follow-freed keeps makes = record {
      threads = freed ∙ ap
          (λ (x : Threaded). record x { owners = set_number v.owners (place + 1) None; stale = w.stale }) so_far.threads
          ∙ ap (λ os. record start { owners = os; stale = w.stale }) (sym (ap (λ (x : Threaded). x.owners) freed));
      count = ap length owners-are ∙ length-set v.owners (suc place - 1) None ∙ so_far.count;
      done = up-to w (λ k low. ap option_flatten (stays (suc k) (λ same. absurd (omega (arith, same, low))))
          ∙ so_far.done k low) (ap option_flatten gone ∙ sym free);
      rest = λ k high. stays k (λ same. absurd (omega (arith, same, high))) ∙ so_far.rest k (omega (arith, high));
      kept = λ node is. keeps node (so_far.kept node is);
      stale = makes-each start v w
          (ap (λ (x : Threaded). x.lending) so_far.threads, sym (ap (λ (x : Threaded). x.lending) freed))
          (ap (λ (x : Threaded). x.tickets) so_far.threads) between
          (λ u. inl (ap (λ (x : Threaded). at_number x.records u) so_far.threads)) so_far.stale makes;
    }

-- in the end all owners are those of the queues
pub followed : (start v : Threaded) (mutexes : List Mutex) → length start.owners ≡ length mutexes
    → DoFollow start v mutexes (length mutexes) → v ≡ record start { owners = owners_of mutexes; stale = v.stale }
followed start v mutexes count all =
    all.threads ∙ ap (λ os. record start { owners = os; stale = v.stale })
    (sym (owners-same mutexes v.owners (length mutexes) refl (all.count ∙ count) all.done))

-- ---- both

-- nobody waits for a holder whose server goes
pub holders-unserved : (sizes : Sizes) (test : ℕ → Bool) (q : QueueLists) (ns : List ℕ) → HasHolders sizes q
    → HasHolders sizes (record q { mutexes = unserved test q.mutexes ns })
holders-unserved sizes test q [] is = is
holders-unserved sizes test q (n ∷ ns) is = holders-unserved sizes test
    (record q { mutexes = unserved_at test q.mutexes n }) ns (by (option_any test (mutex_at q.mutexes n).owner))
  where
    by : (b : Bool) → HasHolders sizes (record q { mutexes = cond b (set_number q.mutexes n (held_by None)) q.mutexes })
    by true = holders-set sizes q n (held_by None) (λ m above at. refl) is
    by false = is

-- an owner that is left in the queues is that of the threads
pub owners-left : (v : Threaded) (test : ℕ → Bool) (mutexes : List Mutex) (ns : List ℕ) → owners_of mutexes ≡ v.owners
    → (m : ℕ) → (mutex_at (unserved test mutexes ns) m).owner ≢ None
    → owner_of (funding_in v) m ≡ (mutex_at (unserved test mutexes ns) m).owner
owners-left v test mutexes ns same m some = from (unserved-either test mutexes ns m)
  where
    from : (at_number (owners_of (unserved test mutexes ns)) m ≡ at_number (owners_of mutexes) m)
        ⊎ (at_number (owners_of (unserved test mutexes ns)) m ≡ Some None)
        → owner_of (funding_in v) m ≡ (mutex_at (unserved test mutexes ns) m).owner
    from (inl stays) = ap (λ (os : List (Option ℕ)). option_flatten (at_number os m)) (sym same)
        ∙ sym (ap option_flatten stays) ∙ row-owner (unserved test mutexes ns) m
    from (inr gone) = absurd (some (sym (row-owner (unserved test mutexes ns) m) ∙ ap option_flatten gone))

module _ (sizes : Sizes) (freed : Freed) (names : List (Option (List ℕ))) (v new : Threaded) (q left : QueueLists)
    (was : IsHeld sizes freed names v q) (mutexes : List Mutex)
    (threads : new ≡ record v { owners = owners_of mutexes; stale = new.stale })
    (queues : left ≡ record q { mutexes = mutexes }) where
  pub cut-held : IsHeld sizes freed names new left
  cut-held =
      subst (λ (l : QueueLists). IsHeld sizes freed names new l) (sym queues)
      (subst (λ n. IsHeld sizes freed names n (record q { mutexes = mutexes })) (sym threads)
      (ap (λ (w : Threaded). record w { owners = owners_of mutexes; stale = new.stale }) was))

  pub cut-state : held sizes freed names new left ≡ record (held sizes freed names v q) { mutexes = mutexes }
  cut-state = ap (λ (w : Threaded). held sizes freed names w left) threads ∙ ap
      (λ (l : QueueLists). held sizes freed names (record v { owners = owners_of mutexes; stale = new.stale }) l) queues

-- ---- a lock, after the cut

-- what is no holder stays through the cut
pub before-low : (s : State) (t m k : ℕ) → k ≤ s.limits.mutexes
    → at_number (before_lock s t m) k ≡ at_number s.mutexes k
before-low s t m k low = by (option_any (λ owner. lends_on_to (funding_of s) owner t) (mutex_at s.mutexes m).owner)
  where
    test : ℕ → Bool
    test server = lends_lead (funding_of s) server t

    ports : (b : Bool)
        → at_number (unserved test s.mutexes (cond b (range_with_len (s.limits.mutexes + 1) s.limits.ports) [])) k
        ≡ at_number s.mutexes k
    ports true = range-low test s.mutexes (s.limits.mutexes + 1) s.limits.ports k (omega (arith, low))
    ports false = refl

    by : (b : Bool)
        → at_number (cond b (unserved test s.mutexes (port_holders s.limits)) s.mutexes) k ≡ at_number s.mutexes k
    by true = ports s.limits.queued_lend
    by false = refl

module _ (old mid new : Snapshot) (t m : ℕ) (some : 0 < m) (low : m ≤ old.state.limits.mutexes)
    (cut : mid.state ≡ record old.state { mutexes = before_lock old.state t m })
    (locked : new.state ≡ (of_mutexes mid.state (lock mid.state.records mid.state.mutexes t m)).state) where
  -- the lock changes one mutex alone
  elsewhere : (k : ℕ) → ¬ (k ≡ m) → at_number (owners_of (lock mid.state.records mid.state.mutexes t m).mutexes) k
      ≡ at_number (owners_of mid.state.mutexes) k
  elsewhere k other = by (mutex_at mid.state.mutexes m).owner refl
    where
      set : (x : Mutex)
          → at_number (owners_of (set_number mid.state.mutexes m x)) k ≡ at_number (owners_of mid.state.mutexes) k
      set x = at_number-map (λ (y : Mutex). y.owner) (set_number mid.state.mutexes m x) k
          ∙ ap (option_map (λ (y : Mutex). y.owner)) (from (number-set mid.state.mutexes m x k))
          ∙ sym (at_number-map (λ (y : Mutex). y.owner) mid.state.mutexes k)
        where
          from : (at_number (set_number mid.state.mutexes m x) k ≡ at_number mid.state.mutexes k)
              ⊎ ((k ≡ suc (m - 1)) × (at_number (set_number mid.state.mutexes m x) k ≡ Some x))
              → at_number (set_number mid.state.mutexes m x) k ≡ at_number mid.state.mutexes k
          from (inl same) = same
          from (inr (at, is)) = absurd (other (omega (arith, at, some)))

      by : (o : Option ℕ) → (mutex_at mid.state.mutexes m).owner ≡ o
          → at_number (owners_of (lock mid.state.records mid.state.mutexes t m).mutexes) k
          ≡ at_number (owners_of mid.state.mutexes) k
      by None is = rw is (set _)
      by (Some owner) is = rw is (set _)

  here : at_number (owners_of mid.state.mutexes) m ≡ at_number (owners_of old.state.mutexes) m
  here =
      ap (λ (x : State). at_number (owners_of x.mutexes) m) cut
      ∙ at_number-map (λ (y : Mutex). y.owner) (before_lock old.state t m) m
      ∙ ap (option_map (λ (y : Mutex). y.owner)) (before-low old.state t m m low)
      ∙ sym (at_number-map (λ (y : Mutex). y.owner) old.state.mutexes m)

  between-locks : (k : ℕ) → IsOwnerBetween (threads_of old.state old.stale old.meter)
      (threads_of mid.state mid.stale mid.meter) (threads_of new.state new.stale new.meter) k
  between-locks k = from (cases_eq k m)
    where
      from : (k ≡ m) ⊎ (k ≡ m → ⊥) → IsOwnerBetween (threads_of old.state old.stale old.meter)
          (threads_of mid.state mid.stale mid.meter) (threads_of new.state new.stale new.meter) k
      from (inl same) = inl (subst
          (λ n. at_number (owners_of mid.state.mutexes) n ≡ at_number (owners_of old.state.mutexes) n) (sym same) here)
      from (inr other) =
          inr (inl (sym (ap (λ (x : State). at_number (owners_of x.mutexes) k) locked ∙ elsewhere k other)))

  pub makes-locked : MakesStale old mid → MakesStale mid new → MakesStale old new
  makes-locked =
      makes-each (threads_of old.state old.stale old.meter) (threads_of mid.state mid.stale mid.meter)
      (threads_of new.state new.stale new.meter)
      (ap (λ (x : State). x.limits) cut, sym (ap (λ (x : State). x.limits) locked)) (ap (λ (x : State). x.tickets) cut)
      between-locks (λ u. inl (ap (λ (x : State). at_number x.records u) cut))

  -- what the lock leaves is the effect's
  pub locked-state : new.state ≡ (of_mutexes old.state (lock old.state.records (before_lock old.state t m) t m)).state
  locked-state = locked ∙ ap (λ (x : State). (of_mutexes x (lock x.records x.mutexes t m)).state) cut

-- what the lock needs
module _ (s mid : State) (t m : ℕ) (order : IsInOrder s) (runs : IsRunning s.records t)
    (none : trap_refusal s t (action.Lock m) ≡ None) (cut : mid ≡ record s { mutexes = before_lock s t m }) where
  pub cut-there : IsThere mid.mutexes m × (m ≤ mid.limits.mutexes)
  cut-there =
      let there = lock-there s t m none in
      subst (λ (x : State). IsThere x.mutexes m × (m ≤ x.limits.mutexes)) (sym cut)
      ((there.0.0, omega (arith, there.0.1, before-count s t m)), there.1)

  pub cut-runs : IsRunning mid.records t
  cut-runs = subst (λ (x : State). IsRunning x.records t) (sym cut) runs

  pub cut-queues : HasQueues mid.records mid.clients mid.ports mid.mutexes
  cut-queues = subst (λ (x : State). HasQueues x.records x.clients x.ports x.mutexes) (sym cut)
      (lock-queues_then s order.no_cycle t m order.queues)

  pub cut-locked : lock mid.records mid.mutexes t m ≡ lock s.records (before_lock s t m) t m
  cut-locked = ap (λ (x : State). lock x.records x.mutexes t m) cut

-- whether a server's lends lead to the thread is whether they lead on to it, since the thread itself doesn't own the
-- mutex
module _ (s : State) (no_cycle : HasNoCycle (funding_of s)) (t m : ℕ)
    (other : (mutex_at s.mutexes m).owner ≢ Some t) where
  tests-same : option_any (λ u. lends_lead (funding_of s) u t) (mutex_at s.mutexes m).owner
      ≡ option_any (λ owner. lends_on_to (funding_of s) owner t) (mutex_at s.mutexes m).owner
  tests-same = by (mutex_at s.mutexes m).owner refl
    where
      by : (o : Option ℕ) → (mutex_at s.mutexes m).owner ≡ o → option_any (λ u. lends_lead (funding_of s) u t) o
          ≡ option_any (λ owner. lends_on_to (funding_of s) owner t) o
      by None is = refl
      by (Some w) is = lead-on (funding_of s) no_cycle w t (λ same. other (is ∙ ap Some same))

  pub cut-passes : option_any (λ u. lends_lead (funding_of s) u t) (mutex_at s.mutexes m).owner ≡ true
      → unserved (λ u. lends_lead (funding_of s) u t) s.mutexes (port_holders s.limits) ≡ before_lock s t m
  cut-passes on = ap (λ b. cond b (unserved (λ u. lends_lead (funding_of s) u t) s.mutexes (port_holders s.limits))
      s.mutexes) (sym (sym tests-same ∙ on))

  pub cut-fails : option_any (λ u. lends_lead (funding_of s) u t) (mutex_at s.mutexes m).owner ≡ false
      → s.mutexes ≡ before_lock s t m
  cut-fails off = ap (λ b. cond b (unserved (λ u. lends_lead (funding_of s) u t) s.mutexes (port_holders s.limits))
      s.mutexes) (sym (sym tests-same ∙ off))
