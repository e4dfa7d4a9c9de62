-- Ports that get or lose their servers: the unchanged parts, and the stale nodes.
use Rattle.lot_kernel.proofs.Common.{Bool, CanOwn, Drawn, Freed, Funding, HasHolders, IsLiveIn, IsMutex, IsOwnerBetween, IsThere, KeepsStale, List, MakesStale, MakesStaleIn, Mutex, None, Option, Outcome, PortTrap, QueueLists, Record, Sizes, Snapshot, Some, State, Threaded, ap, arith, at_number, at_number-map, before_lock, cond, eqb, eqb-false, eqb-true, false, funding_in, funding_of, held, held_by, holder_of, holders, inl, inr, leads_back, left_by, lends_lead, lends_on_to, length, length-map, length-set, live-apart, live-there, lock, makes-each, map, map-set, mutex_at, number-again, number-kept, number-set, number-set_same, number-some, of_ports, option_any, option_eq, option_flatten, option_map, other-test, owned-test, owner_of, owners-after, owners_of, passed_from, passed_on, port_holders, port_without, range_with_len, refl, remove, served_at, set_number, slice_index, some-injective, subst, suc, sym, threads_of, true, unlock, unserved, unserved_at, unwrap_or, waiters_without, winner, with_owner, with_ports, with_server, without, ℕ, [], ◌++◌, ◌+◌, ◌-◌, ◌<◌, ◌==◌, ◌∙◌, ◌∷◌, ◌≡◌, ◌≢◌, ◌≤◌, ◌⊎◌}
use Rattle.lot_machine.specs.declared.reply.Outcome.TheVariants as outcome
use Rattle.lot_kernel.proofs.Holding.{IsHeld}
use Rattle.lot_kernel.proofs.Killing.{queues_killed}

-- ---- how many mutexes and holders there are

at-count : (test : ℕ → Bool) (mutexes : List Mutex) (n : ℕ) → length (unserved_at test mutexes n) ≡ length mutexes
at-count test mutexes n = by (option_any test (mutex_at mutexes n).owner)
  where
    by : (b : Bool) → length (cond b (set_number mutexes n (held_by None)) mutexes) ≡ length mutexes
    by true = length-set mutexes (n - 1) (held_by None)
    by false = refl

pub unserved-count : (test : ℕ → Bool) (mutexes : List Mutex) (ns : List ℕ)
    → length (unserved test mutexes ns) ≡ length mutexes
unserved-count test mutexes [] = refl
unserved-count test mutexes (n ∷ ns) = unserved-count test (unserved_at test mutexes n) ns ∙ at-count test mutexes n

-- a trap at a port leaves as many
pub served-count : (s : State) (t port : ℕ) (o : Outcome) → length (served_at s t port o) ≡ length s.mutexes
served-count s t port o = by o
  where
    server : (x : Option ℕ) → length (with_server s.limits s.mutexes port x) ≡ length s.mutexes
    server x = at s.limits.queued_lend
      where
        at : (b : Bool)
            → length (cond b (set_number s.mutexes (holder_of s.limits port) (held_by x)) s.mutexes) ≡ length s.mutexes
        at true = length-set s.mutexes (holder_of s.limits port - 1) (held_by x)
        at false = refl

    back : (b : Bool) → length (cond b (with_server s.limits s.mutexes port None) s.mutexes) ≡ length s.mutexes
    back true = server None
    back false = refl

    by : (x : Outcome) → length (served_at s t port x) ≡ length s.mutexes
    by (outcome.ServedBy other) = server (Some other)
    by outcome.Queued = back (leads_back s t port)
    by (outcome.Received client number) = server (Some t)
    by (outcome.RepliedThenReceived to client number) = server (Some t)
    by other = refl

-- and so does the cut before a lock
pub before-count : (s : State) (t m : ℕ) → length (before_lock s t m) ≡ length s.mutexes
before-count s t m = by (option_any (λ owner. lends_on_to (funding_of s) owner t) (mutex_at s.mutexes m).owner)
  where
    by : (b : Bool) → length
        (cond b (unserved (λ server. lends_lead (funding_of s) server t) s.mutexes (port_holders s.limits)) s.mutexes)
        ≡ length s.mutexes
    by true = unserved-count (λ server. lends_lead (funding_of s) server t) s.mutexes (port_holders s.limits)
    by false = refl

-- ---- nobody waits for a holder

-- the waiters of a mutex that is there or not
abbrev pub waiters_in : Option Mutex → List ℕ
waiters_in o = (unwrap_or o (record { owner = None; waiters = [] })).waiters

pub holders-set : (sizes : Sizes) (q : QueueLists) (m : ℕ) (x : Mutex)
    → ((n : ℕ) → sizes.mutexes < n → n ≡ suc (m - 1) → x.waiters ≡ []) → HasHolders sizes q
    → HasHolders sizes (record q { mutexes = set_number q.mutexes m x })
holders-set sizes q m x here is = record {
  ports = is.ports;
  mutexes = length-set q.mutexes (m - 1) x ∙ is.mutexes;
  unwaited = λ n above. from n above (number-set q.mutexes m x n);
}
  where
    from : (n : ℕ) → sizes.mutexes < n → (at_number (set_number q.mutexes m x) n ≡ at_number q.mutexes n)
        ⊎ ((n ≡ suc (m - 1)) × (at_number (set_number q.mutexes m x) n ≡ Some x))
        → (mutex_at (set_number q.mutexes m x) n).waiters ≡ []
    from n above (inl same) = ap waiters_in same ∙ is.unwaited n above
    from n above (inr (at, now)) = ap waiters_in now ∙ here n above at

-- there are as many rows as mutexes, or more
pub mutexes-enough : (sizes : Sizes) (q : QueueLists) → HasHolders sizes q → sizes.mutexes ≤ length q.mutexes
mutexes-enough sizes q is = omega (arith, is.mutexes)

-- a port that is there has its holder, if queued calls lend
pub holder-there : (sizes : Sizes) (q : QueueLists) (port : ℕ) → HasHolders sizes q → sizes.queued_lend ≡ true
    → IsThere q.ports port → (sizes.mutexes < sizes.mutexes + port) × IsThere q.mutexes (sizes.mutexes + port)
holder-there sizes q port is on there =
    let many : holders sizes ≡ sizes.mutexes + sizes.ports = ap (λ b. sizes.mutexes + cond b sizes.ports 0) on in
    (omega (arith, there.0), (omega (arith, there.0), omega (arith, there.1, is.ports, is.mutexes, many)))

-- a trap at a port leaves the holders
pub holders-ports : (sizes : Sizes) (q left : QueueLists) (trap : PortTrap) → HasHolders sizes q
    → length trap.ports ≡ length q.ports → left ≡ with_ports q trap → HasHolders sizes left
holders-ports sizes q left trap is many left_is = subst (HasHolders sizes) (sym left_is)
    (record { ports = many ∙ is.ports; mutexes = is.mutexes; unwaited = is.unwaited })

-- so do a lock and an unlock of a mutex
module _ (sizes : Sizes) (q : QueueLists) (is : HasHolders sizes q) (m : ℕ) (some : 0 < m)
    (low : m ≤ sizes.mutexes) where
  below : (x : Mutex) (n : ℕ) → sizes.mutexes < n → n ≡ suc (m - 1) → x.waiters ≡ []
  below x n above same = absurd (omega (arith, above, same, low, some))

  pub holders-lock : (records : List Record) (t : ℕ)
      → HasHolders sizes (record q { mutexes = (lock records q.mutexes t m).mutexes })
  holders-lock records t = by (mutex_at q.mutexes m).owner refl
    where
      by : (o : Option ℕ) → (mutex_at q.mutexes m).owner ≡ o
          → HasHolders sizes (record q { mutexes = (lock records q.mutexes t m).mutexes })
      by None free = let x : Mutex = record { owner = Some t; waiters = (mutex_at q.mutexes m).waiters } in
          rw free (holders-set sizes q m x (below x) is)
      by (Some owner) owned = let x : Mutex =
          record { owner = Some owner; waiters = (mutex_at q.mutexes m).waiters ++ t ∷ [] } in
          rw owned (holders-set sizes q m x (below x) is)

  pub holders-unlock : (records : List Record) (value : ℕ → ℕ) (d : ℕ)
      → HasHolders sizes (record q { mutexes = (unlock records q.mutexes value m d).mutexes })
  holders-unlock records value d = by (mutex_at q.mutexes m).waiters refl
    where
      by : (ws : List ℕ) → (mutex_at q.mutexes m).waiters ≡ ws
          → HasHolders sizes (record q { mutexes = (unlock records q.mutexes value m d).mutexes })
      by [] none = let x : Mutex = record { owner = None; waiters = [] } in
          rw none (holders-set sizes q m x (below x) is)
      by (w ∷ ws) waits =
          let drawn = winner (map value (w ∷ ws)) d in
          let place = unwrap_or (option_map (λ (won : Drawn). won.place) drawn) 0 in
          let x : Mutex = record { owner = Some (slice_index (w ∷ ws) place); waiters = remove (w ∷ ws) place } in
          rw waits (holders-set sizes q m x (below x) is)

-- and a kill
pub holders-killed : (sizes : Sizes) (q : QueueLists) (t : ℕ) → HasHolders sizes q
    → HasHolders sizes (queues_killed q t)
holders-killed sizes q t is = record {
  ports = length-map q.ports (port_without t) ∙ is.ports;
  mutexes = length-map (waiters_without q.mutexes t) (passed_from t) ∙ length-map q.mutexes left_out ∙ is.mutexes;
  unwaited = λ m above. ap waiters_in (at_number-map (passed_from t) (waiters_without q.mutexes t) m ∙ ap (option_map
      (passed_from t)) (at_number-map left_out q.mutexes m)) ∙ from (at_number q.mutexes m) (is.unwaited m above);
}
  where
    left_out : Mutex → Mutex
    left_out m = record { owner = m.owner; waiters = without t m.waiters }

    either : (x : Mutex) (b : Bool) → (cond b (passed_on []) (record { owner = x.owner; waiters = [] })).waiters ≡ []
    either x true = refl
    either x false = refl

    from : (o : Option Mutex) → waiters_in o ≡ [] → waiters_in (option_map (passed_from t) (option_map left_out o)) ≡ []
    from None none = refl
    from (Some x) none = ap (λ ws. (passed_from t (record { owner = x.owner; waiters = without t ws })).waiters) none
        ∙ either x (option_any (λ owner. owner == t) x.owner)

-- ---- what gets stale

-- a trap at a port, and then the note of the port's server
pub makes-served : (old mid new : Snapshot) (mutexes : List Mutex) → mid.state.limits ≡ old.state.limits
    → mid.state.tickets ≡ old.state.tickets → mid.state.mutexes ≡ old.state.mutexes
    → new.state ≡ record mid.state { mutexes = mutexes }
    → MakesStale old mid → MakesStale mid new → MakesStale old new
makes-served old mid new mutexes limits tickets same is =
    makes-each (threads_of old.state old.stale old.meter) (threads_of mid.state mid.stale mid.meter)
    (threads_of new.state new.stale new.meter) (limits, sym (ap (λ (x : State). x.limits) is)) tickets
    (λ m. inl (ap (λ (xs : List Mutex). at_number (owners_of xs) m) same))
    (λ u. inr (sym (ap (λ (x : State). at_number x.records u) is)))

-- the server that the trap's outcome names is that of the state before it
pub served-same : (s : State) (e : PortTrap) (t p : ℕ) → (e.outcome ≡ outcome.Queued → e.records ≡ s.records)
    → served_at (of_ports s e).state t p e.outcome ≡ served_at s t p e.outcome
served-same s e t p idle = by e.outcome refl
  where
    by : (o : Outcome) → e.outcome ≡ o → served_at (of_ports s e).state t p o ≡ served_at s t p o
    by outcome.Queued is = ap (λ (rs : List Record).
        served_at (record s { records = rs; clients = e.clients; ports = e.ports }) t p outcome.Queued) (idle is)
    by (outcome.ServedBy server) is = refl
    by (outcome.Received client number) is = refl
    by (outcome.RepliedThenReceived to client number) is = refl
    by other is = refl

-- an owner that is left is as before, or gone
at-either : (test : ℕ → Bool) (mutexes : List Mutex) (n k : ℕ)
    → (at_number (owners_of (unserved_at test mutexes n)) k ≡ at_number (owners_of mutexes) k)
    ⊎ (at_number (owners_of (unserved_at test mutexes n)) k ≡ Some None)
at-either test mutexes n k = by (option_any test (mutex_at mutexes n).owner)
  where
    set : owners_of (set_number mutexes n (held_by None)) ≡ set_number (owners_of mutexes) n None
    set = map-set (λ (x : Mutex). x.owner) mutexes (n - 1) (held_by None)

    from : (at_number (set_number (owners_of mutexes) n None) k ≡ at_number (owners_of mutexes) k)
        ⊎ ((k ≡ suc (n - 1)) × (at_number (set_number (owners_of mutexes) n None) k ≡ Some None))
        → (at_number (owners_of (set_number mutexes n (held_by None))) k ≡ at_number (owners_of mutexes) k)
        ⊎ (at_number (owners_of (set_number mutexes n (held_by None))) k ≡ Some None)
    from (inl same) = inl (ap (λ os. at_number os k) set ∙ same)
    from (inr (at, gone)) = inr (ap (λ os. at_number os k) set ∙ gone)

    by : (b : Bool) → (at_number (owners_of (cond b (set_number mutexes n (held_by None)) mutexes)) k
        ≡ at_number (owners_of mutexes) k)
        ⊎ (at_number (owners_of (cond b (set_number mutexes n (held_by None)) mutexes)) k ≡ Some None)
    by true = from (number-set (owners_of mutexes) n None k)
    by false = inl refl

pub unserved-either : (test : ℕ → Bool) (mutexes : List Mutex) (ns : List ℕ) (k : ℕ)
    → (at_number (owners_of (unserved test mutexes ns)) k ≡ at_number (owners_of mutexes) k)
    ⊎ (at_number (owners_of (unserved test mutexes ns)) k ≡ Some None)
unserved-either test mutexes [] k = inl refl
unserved-either test mutexes (n ∷ ns) k =
    from (unserved-either test (unserved_at test mutexes n) ns k) (at-either test mutexes n k)
  where
    from : (at_number (owners_of (unserved test (unserved_at test mutexes n) ns)) k
        ≡ at_number (owners_of (unserved_at test mutexes n)) k)
        ⊎ (at_number (owners_of (unserved test (unserved_at test mutexes n) ns)) k ≡ Some None)
        → (at_number (owners_of (unserved_at test mutexes n)) k ≡ at_number (owners_of mutexes) k)
        ⊎ (at_number (owners_of (unserved_at test mutexes n)) k ≡ Some None)
        → (at_number (owners_of (unserved test (unserved_at test mutexes n) ns)) k ≡ at_number (owners_of mutexes) k)
        ⊎ (at_number (owners_of (unserved test (unserved_at test mutexes n) ns)) k ≡ Some None)
    from (inr gone) first = inr gone
    from (inl same) (inl before) = inl (same ∙ before)
    from (inl same) (inr gone) = inr (same ∙ gone)

-- each owner is as before, or gone
abbrev pub AreOwnersLeft : List Mutex → List Mutex → Type 0
AreOwnersLeft was now = (k : ℕ)
    → (at_number (owners_of now) k ≡ at_number (owners_of was) k) ⊎ (at_number (owners_of now) k ≡ Some None)

-- Servers that pass a test go, one holder after another: what is left to do comes to the same end, and nothing but
-- servers has changed.
pub record AreGone (test : ℕ → Bool) (start now : Snapshot) (end : List Mutex) (ns : List ℕ) : Type 0 where
  pub rest : unserved test now.state.mutexes ns ≡ end
  pub state : now.state ≡ record start.state { mutexes = now.state.mutexes }
  pub owners : AreOwnersLeft start.state.mutexes now.state.mutexes
  pub stale : MakesStale start now
  pub kept : KeepsStale start now
  pub meter : now.meter ≡ start.meter

module _ (test : ℕ → Bool) (start now new : Snapshot) (end : List Mutex) (n : ℕ) (ns : List ℕ)
    (so_far : AreGone test start now end (n ∷ ns))
    (next : new.state ≡ record now.state { mutexes = unserved_at test now.state.mutexes n }) where
  mutexes-are : new.state.mutexes ≡ unserved_at test now.state.mutexes n
  mutexes-are = ap (λ (x : State). x.mutexes) next

  last : (k : ℕ) → (at_number (owners_of new.state.mutexes) k ≡ at_number (owners_of now.state.mutexes) k)
      ⊎ (at_number (owners_of new.state.mutexes) k ≡ Some None)
  last k = subst (λ ms. (at_number (owners_of ms) k ≡ at_number (owners_of now.state.mutexes) k)
      ⊎ (at_number (owners_of ms) k ≡ Some None)) (sym mutexes-are) (at-either test now.state.mutexes n k)

  owners-left : AreOwnersLeft start.state.mutexes new.state.mutexes
  owners-left k = from (so_far.owners k) (last k)
    where
      from : (at_number (owners_of now.state.mutexes) k ≡ at_number (owners_of start.state.mutexes) k)
          ⊎ (at_number (owners_of now.state.mutexes) k ≡ Some None)
          → (at_number (owners_of new.state.mutexes) k ≡ at_number (owners_of now.state.mutexes) k)
          ⊎ (at_number (owners_of new.state.mutexes) k ≡ Some None)
          → (at_number (owners_of new.state.mutexes) k ≡ at_number (owners_of start.state.mutexes) k)
          ⊎ (at_number (owners_of new.state.mutexes) k ≡ Some None)
      from first (inr gone) = inr gone
      from (inl same) (inl stays) = inl (stays ∙ same)
      from (inr gone) (inl stays) = inr (stays ∙ gone)

  between : (k : ℕ) → IsOwnerBetween (threads_of start.state start.stale start.meter)
      (threads_of now.state now.stale now.meter) (threads_of new.state new.stale new.meter) k
  between k = from (so_far.owners k) (last k)
    where
      from : (at_number (owners_of now.state.mutexes) k ≡ at_number (owners_of start.state.mutexes) k)
          ⊎ (at_number (owners_of now.state.mutexes) k ≡ Some None)
          → (at_number (owners_of new.state.mutexes) k ≡ at_number (owners_of now.state.mutexes) k)
          ⊎ (at_number (owners_of new.state.mutexes) k ≡ Some None)
          → IsOwnerBetween (threads_of start.state start.stale start.meter) (threads_of now.state now.stale now.meter)
          (threads_of new.state new.stale new.meter) k
      from (inl same) later = inl same
      from (inr gone) (inl stays) = inr (inl (sym stays))
      from (inr gone) (inr after) = inr (inl (gone ∙ sym after))

  pub gone-next : MakesStale now new → KeepsStale now new → new.meter ≡ now.meter → AreGone test start new end ns
  gone-next makes keeps meter = record {
    rest = ap (λ ms. unserved test ms ns) mutexes-are ∙ so_far.rest;
    state = next ∙ ap (λ (x : State). record x { mutexes = unserved_at test now.state.mutexes n }) so_far.state
        ∙ ap (λ ms. record start.state { mutexes = ms }) (sym mutexes-are);
    owners = owners-left;
    stale = makes-each (threads_of start.state start.stale start.meter) (threads_of now.state now.stale now.meter)
        (threads_of new.state new.stale new.meter)
        (ap (λ (x : State). x.limits) so_far.state, sym (ap (λ (x : State). x.limits) next))
        (ap (λ (x : State). x.tickets) so_far.state) between
        (λ u. inl (ap (λ (x : State). at_number x.records u) so_far.state)) so_far.stale makes;
    kept = λ x is. keeps x (so_far.kept x is);
    meter = meter ∙ so_far.meter;
  }

-- the holders from this place on, by number
abbrev pub holders_from : ℕ → ℕ → List ℕ
holders_from count place = range_with_len (place + 1) (count - place)

-- the next one, and the others
pub holders-next : (count place : ℕ) → place < count
    → holders_from count place ≡ (place + 1) ∷ holders_from count (place + 1)
holders-next count place below = let many : count - place ≡ suc (count - (place + 1)) = omega (arith, below) in
    ap (range_with_len (place + 1)) many

-- all of them are those of the ports
pub holders-all : (sizes : Sizes) (count : ℕ) → count ≡ holders sizes
    → holders_from count sizes.mutexes ≡ port_holders sizes
holders-all sizes count is = ap (λ n. holders_from n sizes.mutexes) is ∙ by sizes.queued_lend
  where
    by : (b : Bool) → range_with_len (sizes.mutexes + 1) (sizes.mutexes + cond b sizes.ports 0 - sizes.mutexes)
        ≡ cond b (range_with_len (sizes.mutexes + 1) sizes.ports) []
    by true = let many : sizes.mutexes + sizes.ports - sizes.mutexes ≡ sizes.ports = omega arith in
        ap (range_with_len (sizes.mutexes + 1)) many
    by false = let none : sizes.mutexes + 0 - sizes.mutexes ≡ 0 = omega arith in
        ap (range_with_len (sizes.mutexes + 1)) none

pub gone-ports : (start : Snapshot) (t : ℕ) → length start.state.mutexes ≡ holders start.state.limits
    → AreGone (λ server. server == t) start start (left_by start.state t)
    (holders_from (length start.state.mutexes) start.state.limits.mutexes)
gone-ports start t many = record {
  rest = ap (unserved (λ server. server == t) start.state.mutexes)
      (holders-all start.state.limits (length start.state.mutexes) many);
  state = refl;
  owners = λ k. inl refl;
  stale = λ x is. inl is;
  kept = λ x is. is;
  meter = refl;
}

pub gone-count : (test : ℕ → Bool) (start now : Snapshot) (end : List Mutex) (ns : List ℕ)
    → AreGone test start now end ns → length end ≡ length start.state.mutexes
    → length now.state.mutexes ≡ length start.state.mutexes
gone-count test start now end ns so_far many = sym (unserved-count test now.state.mutexes ns) ∙ ap length so_far.rest
    ∙ many

-- in the end nothing is left to do
pub gone-all : (test : ℕ → Bool) (start now : Snapshot) (end : List Mutex) (ns : List ℕ) → AreGone test start now end ns
    → ns ≡ [] → now.state ≡ record start.state { mutexes = end }
gone-all test start now end ns so_far none = so_far.state
    ∙ ap (λ ms. record start.state { mutexes = ms }) (ap (unserved test now.state.mutexes) (sym none) ∙ so_far.rest)

pub holders-none : (count : ℕ) → holders_from count count ≡ []
holders-none count = let none : count - count ≡ 0 = omega arith in ap (range_with_len (count + 1)) none

-- ---- another owner

module _ (a b : Threaded) (m : ℕ) (mutex : IsMutex (funding_in a) m)
    (first : b ≡ record a { owners = set_number a.owners m None; stale = b.stale }) where
  freed : at_number b.owners m ≡ Some None
  freed = let (owner, there) = number-some a.owners m mutex.0 mutex.1 in
      ap (λ (x : Threaded). at_number x.owners m) first ∙ number-set_same a.owners m None owner there

  -- a live thread may own the mutex that is free
  pub may-own : (t : ℕ) → IsLiveIn a t → CanOwn (funding_in b) m t × (owner_of (funding_in b) m ≡ None)
  may-own t live =
      let mutexes : length b.owners ≡ length a.owners = ap (λ (x : Threaded). length x.owners) first
      ∙ length-set a.owners (m - 1) None in
      let lives : IsLiveIn b t = subst (λ (x : Threaded). IsLiveIn x t) (sym first) live in
      (((mutex.0, omega (arith, mutex.1, mutexes)), live-there b t lives, live-apart b t m lives), ap option_flatten freed)

  module _ (c : Threaded) (t : ℕ)
      (second : c ≡ record b { owners = set_number b.owners m (Some t); stale = c.stale }) where
    pub replaced : c ≡ record a { owners = set_number a.owners m (Some t); stale = c.stale }
    replaced =
        second ∙ ap (λ (x : Threaded). record x { owners = set_number x.owners m (Some t); stale = c.stale }) first
        ∙ ap (λ (os : List (Option ℕ)). record a { owners = os; stale = c.stale })
        (number-again a.owners m None (Some t))

    pub replaced-stale : owner_of (funding_in a) m ≢ Some t → MakesStaleIn a b → MakesStaleIn b c → MakesStaleIn a c
    replaced-stale other =
        makes-each a b c (ap (λ (x : Threaded). x.lending) first, sym (ap (λ (x : Threaded). x.lending) second))
        (ap (λ (x : Threaded). x.tickets) first) owners (λ u. inl (ap (λ (x : Threaded). at_number x.records u) first))
      where
        number : suc (m - 1) ≡ m
        number = omega (arith, mutex.0)

        apart : (u : ℕ) → option_flatten (at_number a.owners m) ≡ Some u
            → ¬ (option_flatten (at_number c.owners m) ≡ Some u)
        apart u before after =
            let now : at_number c.owners m ≡ Some (Some t) = ap (λ (x : Threaded). at_number x.owners m) second
            ∙ number-set_same b.owners m (Some t) None freed in
            let same : u ≡ t = some-injective u t (sym after ∙ ap option_flatten now) in
            other (before ∙ ap Some same)

        here : (k : ℕ) → k ≡ m → IsOwnerBetween a b c k
        here k same = subst (IsOwnerBetween a b c) (sym same) (inr (inr (ap option_flatten freed, apart)))

        from : (k : ℕ) → (at_number (set_number a.owners m None) k ≡ at_number a.owners k)
            ⊎ ((k ≡ suc (m - 1)) × (at_number (set_number a.owners m None) k ≡ Some None)) → IsOwnerBetween a b c k
        from k (inl same) = inl (ap (λ (x : Threaded). at_number x.owners k) first ∙ same)
        from k (inr (at, _)) = here k (at ∙ number)

        owners : (k : ℕ) → IsOwnerBetween a b c k
        owners k = from k (number-set a.owners m None k)

-- ---- another server

-- a row that is there
row-at : (mutexes : List Mutex) (h : ℕ) → IsThere mutexes h → at_number mutexes h ≡ Some (mutex_at mutexes h)
row-at mutexes h there = let (x, is) = number-some mutexes h there.0 there.1 in is
    ∙ ap Some (sym (ap (λ (o : Option Mutex). unwrap_or o (record { owner = None; waiters = [] })) is))

-- a holder that has this server already
pub server-same : (mutexes : List Mutex) (h : ℕ) (server : Option ℕ) → IsThere mutexes h → (mutex_at mutexes h).waiters
    ≡ [] → (mutex_at mutexes h).owner ≡ server → mutexes ≡ set_number mutexes h (held_by server)
server-same mutexes h server there unwaited owned =
    let same : mutex_at mutexes h ≡ held_by server = ap (λ (ws : List ℕ). let x : Mutex =
    record { owner = (mutex_at mutexes h).owner; waiters = ws } in x) unwaited ∙ ap held_by owned in
    sym (number-kept mutexes h (held_by server) (row-at mutexes h there ∙ ap Some same))

module _ (sizes : Sizes) (freed : Freed) (names : List (Option (List ℕ))) (v new : Threaded) (q left : QueueLists)
    (was : IsHeld sizes freed names v q) (h : ℕ) (server : Option ℕ) (unwaited : (mutex_at q.mutexes h).waiters ≡ [])
    (threads : new ≡ record v { owners = set_number v.owners h server; stale = new.stale })
    (queues : left ≡ record q { mutexes = with_owner q.mutexes h server }) where
  pub server-queues : left ≡ record q { mutexes = set_number q.mutexes h (held_by server) }
  server-queues = queues ∙ ap (λ (ws : List ℕ).
      record q { mutexes = set_number q.mutexes h (record { owner = server; waiters = ws }) }) unwaited

  -- the threads go on to be those of the state
  pub server-held : IsHeld sizes freed names new left
  server-held =
      subst (λ (l : QueueLists). IsHeld sizes freed names new l) (sym server-queues)
      (subst (λ n. IsHeld sizes freed names n (record q { mutexes = set_number q.mutexes h (held_by server) }))
      (sym threads)
      (ap (λ (w : Threaded). record w { owners = set_number w.owners h server; stale = new.stale }) was
      ∙ ap (λ (os : List (Option ℕ)). record (threads_of (held sizes freed names v q) new.stale
      v.meter) { owners = os }) (owners-after q.mutexes (owners_of q.mutexes) h (held_by server) refl)))

  pub server-state : held sizes freed names new left
      ≡ record (held sizes freed names v q) { mutexes = set_number q.mutexes h (held_by server) }
  server-state =
      ap (λ (w : Threaded). held sizes freed names w left) threads ∙ ap (λ (l : QueueLists).
      held sizes freed names (record v { owners = set_number v.owners h server; stale = new.stale }) l) server-queues

  pub server-holders : HasHolders sizes q → HasHolders sizes left
  server-holders is =
      subst (HasHolders sizes) (sym server-queues) (holders-set sizes q h (held_by server) (λ n above at. refl) is)

-- a holder that the thread has, or not
pub left-mine : (mutexes : List Mutex) (h t : ℕ) → (mutex_at mutexes h).owner ≡ Some t
    → set_number mutexes h (held_by None) ≡ unserved_at (λ server. server == t) mutexes h
left-mine mutexes h t mine =
    ap (λ b. cond b (set_number mutexes h (held_by None)) mutexes) (sym (owned-test t (mutex_at mutexes h) mine))

pub left-other : (mutexes : List Mutex) (h t : ℕ) → (mutex_at mutexes h).owner ≢ Some t
    → mutexes ≡ unserved_at (λ server. server == t) mutexes h
left-other mutexes h t other =
    ap (λ b. cond b (set_number mutexes h (held_by None)) mutexes) (sym (other-test t (mutex_at mutexes h) other))

-- the server that a trap gives to a port, if queued calls lend
pub serves : (s : State) (port : ℕ) (server : Option ℕ) → s.limits.queued_lend ≡ true
    → set_number s.mutexes (holder_of s.limits port) (held_by server) ≡ with_server s.limits s.mutexes port server
serves s port server on =
    ap (λ b. cond b (set_number s.mutexes (holder_of s.limits port) (held_by server)) s.mutexes) (sym on)

-- the owner of a row
pub row-owner : (mutexes : List Mutex) (h : ℕ)
    → option_flatten (at_number (owners_of mutexes) h) ≡ (mutex_at mutexes h).owner
row-owner mutexes h = ap option_flatten (at_number-map (λ (x : Mutex). x.owner) mutexes h) ∙ by (at_number mutexes h)
  where
    by : (o : Option Mutex) → option_flatten (option_map (λ (x : Mutex). x.owner) o)
        ≡ (unwrap_or o (record { owner = None; waiters = [] })).owner
    by None = refl
    by (Some mutex) = refl

pub owner-seen : (v : Threaded) (mutexes : List Mutex) (h : ℕ) → owners_of mutexes ≡ v.owners
    → owner_of (funding_in v) h ≡ (mutex_at mutexes h).owner
owner-seen v mutexes h same = ap (λ (os : List (Option ℕ)). option_flatten (at_number os h)) (sym same)
    ∙ row-owner mutexes h

-- ---- a queued call

module _ (sizes : Sizes) (freed : Freed) (names : List (Option (List ℕ))) (v : Threaded) (q : QueueLists)
    (was : IsHeld sizes freed names v q) (t port : ℕ) (lead : Bool) (owner : Option ℕ)
    (owned : owner ≡ (mutex_at q.mutexes (sizes.mutexes + port)).owner)
    (leads : lead ≡ option_any (λ u. lends_lead (funding_in v) u t) owner) where
  abbrev s : State
  s = held sizes freed names v q

  back-is : leads_back s t port ≡ lead
  back-is =
      sym (leads ∙ ap (λ (f : Funding). option_any (λ u. lends_lead f u t) owner) (ap funding_in was)
      ∙ ap (option_any (λ u. lends_lead (funding_of s) u t)) (owned ∙ sym (row-owner q.mutexes (sizes.mutexes + port))))

  -- the port loses a server whose lends lead to the caller
  pub served-back : s.limits.queued_lend ≡ true → lead ≡ true
      → record s { mutexes = set_number s.mutexes (holder_of s.limits port) (held_by None) }
      ≡ record s { mutexes = served_at s t port outcome.Queued }
  served-back on is = ap (λ ms. record s { mutexes = ms }) (serves s port None on
      ∙ ap (λ b. cond b (with_server s.limits s.mutexes port None) s.mutexes) (sym (back-is ∙ is)))

  -- and keeps any other
  pub served-kept : lead ≡ false → s ≡ record s { mutexes = served_at s t port outcome.Queued }
  served-kept is =
      ap (λ b. record s { mutexes = cond b (with_server s.limits s.mutexes port None) s.mutexes }) (sym (back-is ∙ is))

-- what a comparison says
pub options-same : (o p : Option ℕ) (r : Bool) → r ≡ option_eq eqb o p → r ≡ true → o ≡ p
options-same None None r is holds = refl
options-same None (Some t) r is holds = let never : false ≡ true = sym is ∙ holds in cc
options-same (Some u) None r is holds = let never : false ≡ true = sym is ∙ holds in cc
options-same (Some u) (Some t) r is holds = ap Some (eqb-true u t (sym is ∙ holds))

pub options-differ : (o p : Option ℕ) (r : Bool) → r ≡ option_eq eqb o p → r ≡ false → o ≢ p
options-differ None None r is fails e = let never : true ≡ false = sym is ∙ fails in cc
options-differ None (Some t) r is fails e = cc
options-differ (Some u) None r is fails e = cc
options-differ (Some u) (Some t) r is fails e = eqb-false u t (sym is ∙ fails) (some-injective u t e)
