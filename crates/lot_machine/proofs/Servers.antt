-- Ports that get or lose their servers: waiting threads stay in the queues that their statuses name, and a lock makes
-- no cycle through a port.
use Rattle.lot_machine.proofs.Common.{Bool, HasNoCycle, HasQueues, IsLendChain, IsQueue, Lend, LendsLead, LendsTo, List, Mutex, Nobody, None, Option, Outcome, Port, Record, Some, State, ToMutex, ToThread, Waiting, ap, at_number, before_lock, borrower, borrower_of, cases_eq, cond, false, funding_of, held_by, holder_of, inl, inr, is_none, leads_back, lends_lead, lends_on_to, map, mutex_at, option_and_then, option_any, option_flatten, option_map, owner_of, port_holders, refl, served_at, set_number, slice_get, subst, suc, sym, true, unserved, unserved_at, unwrap_or, with_server, without_servers, ℕ, [], ◌-◌, ◌∙◌, ◌∷◌, ◌≡◌, ◌⊎◌}
use Rattle.lot_machine.specs.declared.reply.Outcome.TheVariants as outcome
use Rattle.lot_machine.proofs.Changes.{number-set, number-there}
use Rattle.lot_machine.proofs.Tickets.{some-injective, flatten-some}
use Rattle.lot_machine.proofs.Queues.{IsAbsent, queue-empty}
use Rattle.lot_machine.proofs.LendDepth.{lends_lead-exact}
use Rattle.lot_machine.proofs.TrapCycles.{at_number-map, owner-gone, owners-set, cycle-unserved_each}

-- ---- queues

module _ (records : List Record) (clients : List (List ℕ)) (ports : List Port) where
  -- nobody waits for a holder
  pub queues-holder : (mutexes : List Mutex) (n : ℕ) (owner : Option ℕ) → HasQueues records clients ports mutexes
      → HasQueues records clients ports (set_number mutexes n (held_by owner))
  queues-holder mutexes n owner queues = record {
    receivers = queues.receivers;
    callers = queues.callers;
    waiters = λ m mutex is. wait m mutex is (number-set mutexes n (held_by owner) m);
    served = queues.served;
    own_clients = queues.own_clients;
    own_waiters = λ m w mutex is owned. own m w mutex is owned (number-set mutexes n (held_by owner) m);
  }
    where
      wait : (m : ℕ) (mutex : Mutex) → at_number (set_number mutexes n (held_by owner)) m ≡ Some mutex
          → (at_number (set_number mutexes n (held_by owner)) m ≡ at_number mutexes m)
          ⊎ ((m ≡ suc (n - 1)) × (at_number (set_number mutexes n (held_by owner)) m ≡ Some (held_by owner)))
          → IsQueue records (Waiting m) mutex.waiters
      wait m mutex is (inl same) = queues.waiters m mutex (sym same ∙ is)
      wait m mutex is (inr (at, now)) =
          let here : held_by owner ≡ mutex = some-injective (held_by owner) mutex (sym now ∙ is) in
          subst (λ (x : Mutex). IsQueue records (Waiting m) x.waiters) here (queue-empty records (Waiting m))

      nothing : (w place : ℕ) → ¬ (slice_get {X = ℕ} [] place ≡ Some w)
      nothing w place e = cc

      own : (m w : ℕ) (mutex : Mutex) → at_number (set_number mutexes n (held_by owner)) m ≡ Some mutex
          → mutex.owner ≡ Some w
          → (at_number (set_number mutexes n (held_by owner)) m ≡ at_number mutexes m)
          ⊎ ((m ≡ suc (n - 1)) × (at_number (set_number mutexes n (held_by owner)) m ≡ Some (held_by owner)))
          → IsAbsent mutex.waiters w
      own m w mutex is owned (inl same) = queues.own_waiters m w mutex (sym same ∙ is) owned
      own m w mutex is owned (inr (at, now)) =
          let here : held_by owner ≡ mutex = some-injective (held_by owner) mutex (sym now ∙ is) in
          λ place e. nothing w place (ap (λ (x : Mutex). slice_get x.waiters place) here ∙ e)

  pub queues-unserved : (test : ℕ → Bool) (mutexes : List Mutex) (ns : List ℕ) → HasQueues records clients ports mutexes
      → HasQueues records clients ports (unserved test mutexes ns)
  queues-unserved test mutexes [] queues = queues
  queues-unserved test mutexes (n ∷ ns) queues =
      queues-unserved test (unserved_at test mutexes n) ns (by (option_any test (mutex_at mutexes n).owner))
    where
      by : (b : Bool) → HasQueues records clients ports (cond b (set_number mutexes n (held_by None)) mutexes)
      by true = queues-holder mutexes n None queues
      by false = queues

  -- after a trap at a port
  pub queues-served : (s : State) (t port : ℕ) (o : Outcome) → HasQueues records clients ports s.mutexes
      → HasQueues records clients ports (served_at s t port o)
  queues-served s t port o queues = by o
    where
      serves : (server : Option ℕ) → HasQueues records clients ports (with_server s.limits s.mutexes port server)
      serves server = at s.limits.queued_lend
        where
          at : (b : Bool) → HasQueues records clients ports
              (cond b (set_number s.mutexes (holder_of s.limits port) (held_by server)) s.mutexes)
          at true = queues-holder s.mutexes (holder_of s.limits port) server queues
          at false = queues

      back : (b : Bool) → HasQueues records clients ports (cond b (with_server s.limits s.mutexes port None) s.mutexes)
      back true = serves None
      back false = queues

      by : (o : Outcome) → HasQueues records clients ports (served_at s t port o)
      by (outcome.ServedBy server) = serves (Some server)
      by outcome.Queued = back (leads_back s t port)
      by (outcome.Received client number) = serves (Some t)
      by (outcome.RepliedThenReceived to client number) = serves (Some t)
      by other = queues

-- ---- owners of holders that lose theirs

-- the owner of a holder, by number
abbrev own : List Mutex → ℕ → Option ℕ
own mutexes n = option_flatten (at_number (map (λ (x : Mutex). x.owner) mutexes) n)

-- it is the one that is found there
own-at : (mutexes : List Mutex) (n : ℕ) → own mutexes n ≡ (mutex_at mutexes n).owner
own-at mutexes n = ap option_flatten (at_number-map (λ (x : Mutex). x.owner) mutexes n) ∙ by (at_number mutexes n)
  where
    by : (o : Option Mutex) → option_flatten (option_map (λ (x : Mutex). x.owner) o)
        ≡ (unwrap_or o (record { owner = None; waiters = [] })).owner
    by None = refl
    by (Some mutex) = refl

-- a holder's owner goes, or nothing changes
own-freed : (s : State) (n k : ℕ) → (own (set_number s.mutexes n (held_by None)) k ≡ own s.mutexes k)
    ⊎ ((k ≡ suc (n - 1)) × (own (set_number s.mutexes n (held_by None)) k ≡ None))
own-freed s n k = from (number-set (map (λ (x : Mutex). x.owner) s.mutexes) n None k)
  where
    set : map (λ (x : Mutex). x.owner)
        (set_number s.mutexes n (held_by None)) ≡ set_number (map (λ (x : Mutex). x.owner) s.mutexes) n None
    set = owners-set s n (held_by None)

    from : (at_number (set_number (map (λ (x : Mutex). x.owner) s.mutexes) n None) k
        ≡ at_number (map (λ (x : Mutex). x.owner) s.mutexes) k)
        ⊎ ((k ≡ suc (n - 1)) × (at_number (set_number (map (λ (x : Mutex). x.owner) s.mutexes) n None) k ≡ Some None))
        → (own (set_number s.mutexes n (held_by None)) k ≡ own s.mutexes k)
        ⊎ ((k ≡ suc (n - 1)) × (own (set_number s.mutexes n (held_by None)) k ≡ None))
    from (inl same) = inl (ap (λ owners. option_flatten (at_number owners k)) set ∙ ap option_flatten same)
    from (inr (at, is)) = inr (at, ap (λ owners. option_flatten (at_number owners k)) set ∙ ap option_flatten is)

-- who owns it afterwards owned it before
own-unserved_at : (test : ℕ → Bool) (s : State) (n k v : ℕ) → own (unserved_at test s.mutexes n) k ≡ Some v
    → own s.mutexes k ≡ Some v
own-unserved_at test s n k v = by (option_any test (mutex_at s.mutexes n).owner)
  where
    from : (own (set_number s.mutexes n (held_by None)) k ≡ own s.mutexes k)
        ⊎ ((k ≡ suc (n - 1)) × (own (set_number s.mutexes n (held_by None)) k ≡ None))
        → own (set_number s.mutexes n (held_by None)) k ≡ Some v → own s.mutexes k ≡ Some v
    from (inl same) e = sym same ∙ e
    from (inr (at, none)) e = let never : None ≡ Some v = sym none ∙ e in cc

    by : (b : Bool) → own (cond b (set_number s.mutexes n (held_by None)) s.mutexes) k ≡ Some v
        → own s.mutexes k ≡ Some v
    by true e = from (own-freed s n k) e
    by false e = e

own-unserved : (test : ℕ → Bool) (s : State) (ns : List ℕ) (k v : ℕ) → own (unserved test s.mutexes ns) k ≡ Some v
    → own s.mutexes k ≡ Some v
own-unserved test s [] k v e = e
own-unserved test s (n ∷ ns) k v e =
    own-unserved_at test s n k v (own-unserved test (record s { mutexes = unserved_at test s.mutexes n }) ns k v e)

-- at the holder itself no owner is left that passes the test
own-fails : (test : ℕ → Bool) (s : State) (n v : ℕ) → own (unserved_at test s.mutexes n) n ≡ Some v → test v ≡ false
own-fails test s n v = by (option_any test (mutex_at s.mutexes n).owner) refl
  where
    gone : own (set_number s.mutexes n (held_by None)) n ≡ None
    gone = ap (λ owners. option_flatten (at_number owners n)) (owners-set s n (held_by None))
        ∙ owner-gone (map (λ (x : Mutex). x.owner) s.mutexes) n

    by : (b : Bool) → option_any test (mutex_at s.mutexes n).owner ≡ b
        → own (cond b (set_number s.mutexes n (held_by None)) s.mutexes) n ≡ Some v → test v ≡ false
    by true on e = let never : None ≡ Some v = sym gone ∙ e in cc
    by false off e = sym (ap (option_any test) (sym (own-at s.mutexes n) ∙ e)) ∙ off

-- elsewhere nothing changes
own-elsewhere : (test : ℕ → Bool) (s : State) (n k : ℕ) → ¬ (k ≡ n)
    → own (unserved_at test s.mutexes n) k ≡ own s.mutexes k
own-elsewhere test s n k other = by (option_any test (mutex_at s.mutexes n).owner) refl
  where
    -- an owner that passes stands at a number
    number : (x : ℕ) → (mutex_at s.mutexes n).owner ≡ Some x → suc (n - 1) ≡ n
    number x is = let there = flatten-some (at_number (map (λ (y : Mutex). y.owner) s.mutexes) n) x
        (own-at s.mutexes n ∙ is) in number-there (map (λ (y : Mutex). y.owner) s.mutexes) n (Some x) there

    held : (o : Option ℕ) → (mutex_at s.mutexes n).owner ≡ o → option_any test o ≡ true → suc (n - 1) ≡ n
    held None is on = cc
    held (Some x) is on = number x is

    from : suc (n - 1) ≡ n → (own (set_number s.mutexes n (held_by None)) k ≡ own s.mutexes k)
        ⊎ ((k ≡ suc (n - 1)) × (own (set_number s.mutexes n (held_by None)) k ≡ None))
        → own (set_number s.mutexes n (held_by None)) k ≡ own s.mutexes k
    from is (inl same) = same
    from is (inr (at, none)) = absurd (other (at ∙ is))

    by : (b : Bool) → option_any test (mutex_at s.mutexes n).owner ≡ b
        → own (cond b (set_number s.mutexes n (held_by None)) s.mutexes) k ≡ own s.mutexes k
    by true on = from (held (mutex_at s.mutexes n).owner refl on) (own-freed s n k)
    by false off = refl

-- who still owns a holder fails the test, or no test takes the holder from its owner
own-either : (test : ℕ → Bool) (s a : State) (ns : List ℕ) (k v : ℕ) → own a.mutexes k ≡ own s.mutexes k
    → own (unserved test s.mutexes ns) k ≡ Some v
    → (test v ≡ false) ⊎ (own (unserved (λ server. true) a.mutexes ns) k ≡ Some v)
own-either test s a [] k v same e = inr (same ∙ e)
own-either test s a (n ∷ ns) k v same e =
    from (cases_eq k n)
    (λ other. own-either test s_then a_then ns k v
    (own-elsewhere (λ server. true) a n k other ∙ same ∙ sym (own-elsewhere test s n k other)) e)
  where
    s_then : State
    s_then = record s { mutexes = unserved_at test s.mutexes n }

    a_then : State
    a_then = record a { mutexes = unserved_at (λ server. true) a.mutexes n }

    from : (k ≡ n) ⊎ (k ≡ n → ⊥)
        → (¬ (k ≡ n) → (test v ≡ false) ⊎ (own (unserved (λ server. true) a_then.mutexes ns) k ≡ Some v))
        → (test v ≡ false) ⊎ (own (unserved (λ server. true) a_then.mutexes ns) k ≡ Some v)
    from (inl at) later =
        inl (own-fails test s n v (subst (λ i. own s_then.mutexes i ≡ Some v) at (own-unserved test s_then ns k v e)))
    from (inr other) later = later other

-- what is there stays there
there-unserved : (test : ℕ → Bool) (mutexes : List Mutex) (ns : List ℕ) (k : ℕ) → is_none (at_number mutexes k) ≡ false
    → is_none (at_number (unserved test mutexes ns) k) ≡ false
there-unserved test mutexes [] k e = e
there-unserved test mutexes (n ∷ ns) k e =
    there-unserved test (unserved_at test mutexes n) ns k (by (option_any test (mutex_at mutexes n).owner))
  where
    from : (at_number (set_number mutexes n (held_by None)) k ≡ at_number mutexes k)
        ⊎ ((k ≡ suc (n - 1)) × (at_number (set_number mutexes n (held_by None)) k ≡ Some (held_by None)))
        → is_none (at_number (set_number mutexes n (held_by None)) k) ≡ false
    from (inl same) = ap is_none same ∙ e
    from (inr (at, is)) = ap is_none is

    by : (b : Bool) → is_none (at_number (cond b (set_number mutexes n (held_by None)) mutexes) k) ≡ false
    by true = from (number-set mutexes n (held_by None) k)
    by false = e

-- ---- a lock

module _ (s : State) (no_cycle : HasNoCycle (funding_of s)) (t m : ℕ) where
  -- the servers from which lends lead to the thread are taken away
  abbrev cut : State
  cut = record s { mutexes = unserved (λ server. lends_lead (funding_of s) server t) s.mutexes (port_holders s.limits) }

  cut-cycle : HasNoCycle (funding_of cut)
  cut-cycle = cycle-unserved_each (λ server. lends_lead (funding_of s) server t) s (port_holders s.limits) no_cycle

  bare-cycle : HasNoCycle (without_servers s)
  bare-cycle = cycle-unserved_each (λ server. true) s (port_holders s.limits) no_cycle

  -- who lends then did so before
  cut-lends : (u v : ℕ) → LendsTo (funding_of cut) u v → LendsTo (funding_of s) u v
  cut-lends u v = by (at_number (funding_of s).lends u)
    where
      by : (o : Option Lend) → option_and_then (borrower (funding_of cut)) o ≡ Some v
          → option_and_then (borrower (funding_of s)) o ≡ Some v
      by None e = cc
      by (Some Nobody) e = cc
      by (Some (ToThread w)) e = e
      by (Some (ToMutex n)) e =
          own-unserved (λ server. lends_lead (funding_of s) server t) s (port_holders s.limits) n v e

  cut-chain : (u : ℕ) (chain : List ℕ) (v : ℕ) → IsLendChain (funding_of cut) u chain v
      → IsLendChain (funding_of s) u chain v
  cut-chain u [] v is = is
  cut-chain u (w ∷ rest) v (first, others) = (cut-lends u w first, cut-chain w rest v others)

  -- no lend that leads to the thread goes through a port
  bare-lends : (u v : ℕ) → LendsTo (funding_of cut) u v → LendsLead (funding_of cut) v t
      → LendsTo (without_servers s) u v
  bare-lends u v lends (chain, is) = by (at_number (funding_of s).lends u) lends
    where
      leads : lends_lead (funding_of s) v t ≡ true
      leads = (lends_lead-exact (funding_of s) no_cycle.lends v t).1 (chain, cut-chain v chain t is)

      from : (n : ℕ) → (lends_lead (funding_of s) v t ≡ false)
          ⊎ (own (unserved (λ server. true) s.mutexes (port_holders s.limits)) n ≡ Some v)
          → owner_of (without_servers s) n ≡ Some v
      from n (inl off) = let never : true ≡ false = sym leads ∙ off in cc
      from n (inr e) = e

      by : (o : Option Lend) → option_and_then (borrower (funding_of cut)) o ≡ Some v
          → option_and_then (borrower (without_servers s)) o ≡ Some v
      by None e = cc
      by (Some Nobody) e = cc
      by (Some (ToThread w)) e = e
      by (Some (ToMutex n)) e =
          from n (own-either (λ server. lends_lead (funding_of s) server t) s s (port_holders s.limits) n v refl e)

  bare-chain : (u : ℕ) (chain : List ℕ) → IsLendChain (funding_of cut) u chain t
      → IsLendChain (without_servers s) u chain t
  bare-chain u [] is = is
  bare-chain u (w ∷ rest) (first, others) = (bare-lends u w first (rest, others), bare-chain w rest others)

  -- so if none does without the ports, none does then
  cut-apart : (owner : ℕ) → lends_on_to (without_servers s) owner t ≡ false
      → lends_on_to (funding_of cut) owner t ≡ false
  cut-apart owner off = by (borrower_of (funding_of cut) owner) refl
    where
      tested : (w : ℕ) → borrower_of (funding_of cut) owner ≡ Some w → (b : Bool) → lends_lead (funding_of cut) w t ≡ b
          → b ≡ false
      tested w to false is = refl
      tested w to true is =
          let lead : LendsLead (funding_of cut) w t = (lends_lead-exact (funding_of cut) cut-cycle.lends w t).0 is in
          let first : borrower_of (without_servers s) owner ≡ Some w = bare-lends owner w to lead in
          let on : lends_on_to (without_servers s) owner t ≡ true =
          ap (option_any (λ x. lends_lead (without_servers s) x t)) first
          ∙ (lends_lead-exact (without_servers s) bare-cycle.lends w t).1 (lead.0, bare-chain w lead.0 lead.1) in cc

      by : (o : Option ℕ) → borrower_of (funding_of cut) owner ≡ o → lends_on_to (funding_of cut) owner t ≡ false
      by None none = ap (option_any (λ x. lends_lead (funding_of cut) x t)) none
      by (Some w) to = ap (option_any (λ x. lends_lead (funding_of cut) x t)) to
          ∙ tested w to (lends_lead (funding_of cut) w t) refl

  -- the state before the lock
  abbrev pub locking : State
  locking = record s { mutexes = before_lock s t m }

  pub lock-untied : HasNoCycle (funding_of locking)
  lock-untied = by (option_any (λ owner. lends_on_to (funding_of s) owner t) (mutex_at s.mutexes m).owner)
    where
      by : (b : Bool) → HasNoCycle (funding_of (record s { mutexes = cond b cut.mutexes s.mutexes }))
      by true = cut-cycle
      by false = no_cycle

  pub lock-queues_then : HasQueues s.records s.clients s.ports s.mutexes
      → HasQueues s.records s.clients s.ports (before_lock s t m)
  lock-queues_then queues = by (option_any (λ owner. lends_on_to (funding_of s) owner t) (mutex_at s.mutexes m).owner)
    where
      by : (b : Bool) → HasQueues s.records s.clients s.ports (cond b cut.mutexes s.mutexes)
      by true = queues-unserved s.records s.clients s.ports (λ server. lends_lead (funding_of s) server t) s.mutexes
          (port_holders s.limits) queues
      by false = queues

  pub lock-there : is_none (at_number s.mutexes m) ≡ false → is_none (at_number (before_lock s t m) m) ≡ false
  lock-there there = by (option_any (λ owner. lends_on_to (funding_of s) owner t) (mutex_at s.mutexes m).owner)
    where
      by : (b : Bool) → is_none (at_number (cond b cut.mutexes s.mutexes) m) ≡ false
      by true = there-unserved (λ server. lends_lead (funding_of s) server t) s.mutexes (port_holders s.limits) m there
      by false = there

  -- who owns the mutex then owned it before
  kept-owner : (w : ℕ) → (mutex_at cut.mutexes m).owner ≡ Some w → (mutex_at s.mutexes m).owner ≡ Some w
  kept-owner w is = sym (own-at s.mutexes m) ∙ own-unserved (λ server. lends_lead (funding_of s) server t) s
      (port_holders s.limits) m w (own-at cut.mutexes m ∙ is)

  -- so what no owner passed it doesn't
  still-fails : (test : ℕ → Bool) → option_any test (mutex_at s.mutexes m).owner ≡ false
      → option_any test (mutex_at cut.mutexes m).owner ≡ false
  still-fails test off = by (mutex_at cut.mutexes m).owner refl
    where
      by : (o : Option ℕ) → (mutex_at cut.mutexes m).owner ≡ o → option_any test o ≡ false
      by None is = refl
      by (Some w) is = sym (ap (option_any test) (kept-owner w is)) ∙ off

  pub lock-fails : (test : ℕ → Bool) → option_any test (mutex_at s.mutexes m).owner ≡ false
      → option_any test (mutex_at (before_lock s t m) m).owner ≡ false
  lock-fails test off = by (option_any (λ owner. lends_on_to (funding_of s) owner t) (mutex_at s.mutexes m).owner)
    where
      by : (b : Bool) → option_any test (mutex_at (cond b cut.mutexes s.mutexes) m).owner ≡ false
      by true = still-fails test off
      by false = off

  pub lock-apart : option_any (λ owner. lends_on_to (without_servers s) owner t) (mutex_at s.mutexes m).owner ≡ false
      → option_any (λ owner. lends_on_to (funding_of locking) owner t) (mutex_at (before_lock s t m) m).owner ≡ false
  lock-apart off = by (option_any (λ owner. lends_on_to (funding_of s) owner t) (mutex_at s.mutexes m).owner) refl
    where
      cuts : (o : Option ℕ) → option_any (λ owner. lends_on_to (without_servers s) owner t) o ≡ false
          → option_any (λ owner. lends_on_to (funding_of cut) owner t) o ≡ false
      cuts None e = refl
      cuts (Some w) e = cut-apart w e

      by : (b : Bool) → option_any (λ owner. lends_on_to (funding_of s) owner t) (mutex_at s.mutexes m).owner ≡ b
          → option_any (λ owner. lends_on_to (funding_of (record s { mutexes = cond b cut.mutexes s.mutexes })) owner t)
          (mutex_at (cond b cut.mutexes s.mutexes) m).owner ≡ false
      by true on =
          cuts (mutex_at cut.mutexes m).owner (still-fails (λ owner. lends_on_to (without_servers s) owner t) off)
      by false apart = apart
