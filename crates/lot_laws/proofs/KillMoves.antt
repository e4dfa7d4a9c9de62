-- The kill of a thread that has no tickets and owns no mutex: the values of threads afterwards.
use Rattle.lot_laws.proofs.Common.{Bool, Contains, Dead, HasNoCycle, IsApart, IsBacked, IsInOrder, IsLendChain, IsLive, IsReachable, Kill, Kills, Lend, LendsLead, LendsTo, List, Mutex, Nobody, None, Option, Ready, Receiving, Record, Running, Served, Some, State, Status, ToMutex, ToThread, Waiting, WaitsForThread, after_kill, ap, apart-from, arith, at_number, at_number-map, backing_thread, borrower, borrower_of, cases_eq, change-length, change_each, clients_of, cond, contains-at, each-length, each-now, each-other, ended, false, funding_of, holder_of, if◌then◌else◌, inl, inr, is_live, is_live_status, killed, lend_of, lends-by, lends-of, lends_at, lends_lead, lends_lead-exact, length, length-map, lent-if, lent-to, live_of, live_value, map, mutex_without, ne_eqb, numbers, option_and_then, option_any, option_flatten, option_map, own_value, owner_of, passed_on, place-in, queue-clients, range_with_len, record-of, refl, released, released_by, some-injective, status_of, step-order, subst, sum-filter, sum-same, sum_by, sym, ticket_value, true, value_of, without, ℕ, [], ◌+◌, ◌==◌, ◌∙◌, ◌∷◌, ◌≡◌, ◌≢◌, ◌⊎◌}
use Rattle.lot_machine.specs.declared.record.Status.TheVariants.{Asleep, Queued}
use Rattle.lot_machine.specs.declared.reference.ThreadRef.{ThreadRef}
use Rattle.lot_machine.specs.declared.event.Event.TheVariants as event
use Rattle.lot_machine.proofs.KillKept.{kill-cycle}
use Rattle.lot_machine.proofs.Queues as queues
use Rattle.lot_laws.specs.Kills.{HasOnlyClients}
use Rattle.lot_laws.proofs.Blocked.{lends-nobody, not-live, served-lends}
use Rattle.lot_laws.proofs.DeadThreads.{dead-lends, dead-worth}
use Rattle.lot_laws.proofs.EachTicket.{reachable-order}
use Rattle.lot_laws.proofs.Killed.{kill-is, kill-lists, kill-records, kill-released, listed}
use Rattle.lot_laws.proofs.KeptValues.{same-bool}
use Rattle.lot_laws.proofs.Lending.{leads-itself, none-led, own-same, spread}
use Rattle.lot_laws.proofs.LendersReady.{made_ready, with_ready_each, each-worth, each-together, each-cycle}
use Rattle.lot_laws.proofs.Trapped.{lend-is, live-is}

module _ (s : State) (thread : ThreadRef) (t : ℕ) (reachable : IsReachable s)
    (lends : s.limits.without_lending ≡ false) (kills : Kills s thread t) (has : HasOnlyClients s t)
    (backed : IsBacked (funding_of s) (live_of s) t) where
  order : IsInOrder s
  order = reachable-order s reachable

  -- the state afterwards, and the one before with the clients Ready
  abbrev later : State
  later = killed s t

  abbrev queue : List ℕ
  queue = clients_of s.clients t

  abbrev ready : State
  ready = with_ready_each s queue

  pub is-later : after_kill s thread ≡ killed s t
  is-later = kill-is s thread t kills

  no_cycle_now : HasNoCycle (funding_of later)
  no_cycle_now = kill-cycle s t order.no_cycle

  no_cycle_ready : HasNoCycle (funding_of ready)
  no_cycle_ready = each-cycle queue s order.no_cycle

  -- ---- statuses

  client-is : (u : ℕ) → Contains queue u → status_of s.records u ≡ Some (Served t)
  client-is u c = let (place, at) = place-in queue u c in
      (queue-clients s.records s.clients s.ports s.mutexes order.queues t).each place u at

  clients-apart : IsApart queue
  clients-apart = apart-from queue
      (λ u place other. (queue-clients s.records s.clients s.ports s.mutexes order.queues t).once place other u)

  t-out : ¬ Contains queue t
  t-out c = let (place, at) = place-in queue t c in
      queues.own-absent s.records s.clients s.ports s.mutexes order.queues t place at

  waits-client : (u : ℕ) → WaitsForThread s t u → Contains queue u
  waits-client u (inl c) = c
  waits-client u (inr (m, (mutex, owns, first))) =
      absurd (has.mutexes m (ap option_flatten (at_number-map (λ (x : Mutex). x.owner) s.mutexes m
      ∙ ap (option_map (λ (x : Mutex). x.owner)) owns.0) ∙ owns.1))

  later-ready : (u : ℕ) → Contains queue u → status_of later.records u ≡ Some Ready
  later-ready u c = let (r, at, is) = record-of s.records u (Served t) (client-is u c) in
      ap (λ (a : State). status_of a.records u) (sym is-later)
      ∙ ap (option_map (λ (x : Record). x.status)) (kill-released s thread t order kills u r (inl c) at)

  later-other : (u : ℕ) → u ≢ t → ¬ Contains queue u → status_of later.records u ≡ status_of s.records u
  later-other u differs out =
      ap (λ (a : State). status_of a.records u) (sym is-later)
      ∙ ap (option_map (λ (x : Record). x.status))
      (kill-records s thread t order kills u differs (λ waits. out (waits-client u waits)))

  later-dead : status_of later.records t ≡ Some Dead
  later-dead = ap (λ (a : State). status_of a.records t) (sym is-later) ∙ (kill-lists s thread t reachable kills).dead

  ready-in : (u : ℕ) → Contains queue u → status_of ready.records u ≡ Some Ready
  ready-in u c = let (place, at) = place-in queue u c in
      each-now made_ready Ready (λ r. refl) s.records queue place u (Served t) at (client-is u c)

  ready-out : (u : ℕ) → ¬ Contains queue u → status_of ready.records u ≡ status_of s.records u
  ready-out u out = each-other made_ready s.records queue u (λ place at. out (contains-at queue place u at))

  -- a thread is a client or not
  not-client : (u : ℕ) (o : Option Status) → status_of s.records u ≡ o → ¬ (o ≡ Some (Served t)) → ¬ Contains queue u
  not-client u o is other c = other (sym is ∙ client-is u c)

  told : (u : ℕ) → Contains queue u ⊎ (¬ Contains queue u)
  told u = by (status_of s.records u) refl
    where
      by : (o : Option Status) → status_of s.records u ≡ o → Contains queue u ⊎ (¬ Contains queue u)
      by None is = inr (not-client u None is (λ e. cc))
      by (Some Ready) is = inr (not-client u (Some Ready) is (λ e. cc))
      by (Some (Running p used)) is = inr (not-client u (Some (Running p used)) is (λ e. cc))
      by (Some (Receiving p)) is = inr (not-client u (Some (Receiving p)) is (λ e. cc))
      by (Some (Queued p)) is = inr (not-client u (Some (Queued p)) is (λ e. cc))
      by (Some (Waiting m)) is = inr (not-client u (Some (Waiting m)) is (λ e. cc))
      by (Some Asleep) is = inr (not-client u (Some Asleep) is (λ e. cc))
      by (Some Dead) is = inr (not-client u (Some Dead) is (λ e. cc))
      by (Some (Served w)) is = at (cases_eq w t)
        where
          at : (w ≡ t) ⊎ (¬ (w ≡ t)) → Contains queue u ⊎ (¬ Contains queue u)
          at (inl same) = inl (listed s u t reachable (is ∙ ap (λ x. Some (Served x)) same))
          at (inr differs) =
              inr (not-client u (Some (Served w)) is (λ e. let same : w ≡ t = cc in differs same))

  status-same : (u : ℕ) → u ≢ t → status_of later.records u ≡ status_of ready.records u
  status-same u differs = by (told u)
    where
      by : Contains queue u ⊎ (¬ Contains queue u) → status_of later.records u ≡ status_of ready.records u
      by (inl c) = later-ready u c ∙ sym (ready-in u c)
      by (inr out) = later-other u differs out ∙ sym (ready-out u out)

  lend-same : (u : ℕ) → u ≢ t → at_number (funding_of later).lends u ≡ at_number (funding_of ready).lends u
  lend-same u differs =
      lend-is s.limits later.records u ∙ ap (option_map (lend_of s.limits)) (status-same u differs)
      ∙ sym (lend-is s.limits ready.records u)

  lives-same : (u : ℕ) → u ≢ t → at_number (live_of later) u ≡ at_number (live_of ready) u
  lives-same u differs =
      live-is later.records u ∙ ap (option_map is_live_status) (status-same u differs)
      ∙ sym (live-is ready.records u)

  -- ---- owners, and who lends to whom

  stays-owned : (mutex : Mutex) → mutex.owner ≢ Some t → (mutex_without t mutex).owner ≡ mutex.owner
  stays-owned mutex other =
      ap (λ (b : Bool). (cond b (passed_on (without t mutex.waiters))
      (record { owner = mutex.owner; waiters = without t mutex.waiters })).owner) (by mutex.owner other)
    where
      by : (o : Option ℕ) → o ≢ Some t → option_any (λ owner. owner == t) o ≡ false
      by None differs = refl
      by (Some u) differs = ne_eqb u t (λ same. differs (ap Some same))

  owner-same : (m : ℕ) → owner_of (funding_of later) m ≡ owner_of (funding_of s) m
  owner-same m =
      ap option_flatten (at_number-map (λ (x : Mutex). x.owner) (map (mutex_without t) s.mutexes) m
      ∙ ap (option_map (λ (x : Mutex). x.owner)) (at_number-map (mutex_without t) s.mutexes m))
      ∙ by (at_number s.mutexes m) refl
      ∙ sym (ap option_flatten (at_number-map (λ (x : Mutex). x.owner) s.mutexes m))
    where
      by : (o : Option Mutex) → at_number s.mutexes m ≡ o
          → option_flatten (option_map (λ (x : Mutex). x.owner) (option_map (mutex_without t) o))
          ≡ option_flatten (option_map (λ (x : Mutex). x.owner) o)
      by None there = refl
      by (Some mutex) there =
          stays-owned mutex (λ owned. has.mutexes m (ap option_flatten (at_number-map (λ (x : Mutex). x.owner) s.mutexes
          m ∙ ap (option_map (λ (x : Mutex). x.owner)) there) ∙ owned))

  to-same : (u : ℕ) → u ≢ t → borrower_of (funding_of later) u ≡ borrower_of (funding_of ready) u
  to-same u differs =
      ap (option_and_then (borrower (funding_of later))) (lend-same u differs)
      ∙ by (at_number (funding_of ready).lends u)
    where
      by : (o : Option Lend) → option_and_then (borrower (funding_of later)) o
          ≡ option_and_then (borrower (funding_of ready)) o
      by None = refl
      by (Some Nobody) = refl
      by (Some (ToThread w)) = refl
      by (Some (ToMutex m)) = owner-same m

  -- nobody but the clients lends to the thread
  lender-client : (u : ℕ) (now : Status) → status_of s.records u ≡ Some now
      → borrower (funding_of ready) (lend_of s.limits now) ≡ Some t → Contains queue u
  lender-client u Ready is to = cc
  lender-client u (Running p used) is to = cc
  lender-client u (Receiving p) is to = cc
  lender-client u (Queued p) is to =
      absurd (has.mutexes (holder_of s.limits p) (lent-if (funding_of ready) (lends_at s.limits p)
      (ToMutex (holder_of s.limits p)) t (lent-to (funding_of ready) s.limits.without_lending
      (if lends_at s.limits p then ToMutex (holder_of s.limits p) else Nobody) t to)))
  lender-client u (Served server) is to =
      let same : server ≡ t =
      some-injective server t (lent-to (funding_of ready) s.limits.without_lending (ToThread server) t to) in
      listed s u t reachable (is ∙ ap (λ x. Some (Served x)) same)
  lender-client u (Waiting m) is to =
      absurd (has.mutexes m (lent-to (funding_of ready) s.limits.without_lending (ToMutex m) t to))
  lender-client u Asleep is to = cc
  lender-client u Dead is to = cc

  none-to-t : (u : ℕ) → ¬ LendsTo (funding_of ready) u t
  none-to-t u to = by (told u)
    where
      by : Contains queue u ⊎ (¬ Contains queue u) → ⊥
      by (inl c) = let never : None ≡ Some t = sym (lends-nobody ready u Ready (ready-in u c) refl) ∙ to in cc
      by (inr out) = let (now, is, lent) = lends-by ready u t to in
          out (lender-client u now (sym (ready-out u out) ∙ is) lent)

  chain-on : (u : ℕ) (chain : List ℕ) (v : ℕ) → u ≢ t → IsLendChain (funding_of ready) u chain v
      → IsLendChain (funding_of later) u chain v
  chain-on u [] v differs is = is
  chain-on u (w ∷ rest) v differs (first, more) =
      (to-same u differs ∙ first, chain-on w rest v (λ same. none-to-t u (first ∙ ap Some same)) more)

  chain-back : (u : ℕ) (chain : List ℕ) (v : ℕ) → u ≢ t → IsLendChain (funding_of later) u chain v
      → IsLendChain (funding_of ready) u chain v
  chain-back u [] v differs is = is
  chain-back u (w ∷ rest) v differs (first, more) =
      let was : LendsTo (funding_of ready) u w = sym (to-same u differs) ∙ first in
      (was, chain-back w rest v (λ same. none-to-t u (was ∙ ap Some same)) more)

  -- ---- the same threads but the killed one are backed

  t-gone : ¬ IsLive (live_of later) t
  t-gone = not-live later.records t Dead later-dead refl

  backed-on : (u : ℕ) → IsBacked (funding_of later) (live_of later) u → IsBacked (funding_of ready) (live_of ready) u
  backed-on u (v, (chain, is), alive) = by (cases_eq u t)
    where
      end : ¬ (v ≡ t)
      end same = t-gone (subst (IsLive (live_of later)) same alive)

      by : (u ≡ t) ⊎ (¬ (u ≡ t)) → IsBacked (funding_of ready) (live_of ready) u
      by (inl same) =
          absurd (end (sym (leads-itself (funding_of later) t v (dead-lends later t later-dead)
          (chain, subst (λ x. IsLendChain (funding_of later) x chain v) same is))))
      by (inr differs) = (v, (chain, chain-back u chain v differs is), sym (lives-same v end) ∙ alive)

  backed-back : (u : ℕ) → (backing_thread (funding_of later) u ≡ [])
      ⊎ (IsBacked (funding_of ready) (live_of ready) u → IsBacked (funding_of later) (live_of later) u)
  backed-back u = by (cases_eq u t)
    where
      by : (u ≡ t) ⊎ (¬ (u ≡ t)) → (backing_thread (funding_of later) u ≡ [])
          ⊎ (IsBacked (funding_of ready) (live_of ready) u → IsBacked (funding_of later) (live_of later) u)
      by (inl same) = inl (ap (backing_thread (funding_of later)) same ∙ has.tickets)
      by (inr differs) = inr (λ (v, (chain, is), alive).
          let end = λ (same : v ≡ t). differs
          (none-led (funding_of ready) t none-to-t u chain (subst (IsLendChain (funding_of ready) u chain) same is)) in
          (v, (chain, chain-on u chain v differs is), lives-same v end ∙ alive))

  own-now : (u : ℕ) → own_value s.limits.unit (funding_of later) (live_of later) u
      ≡ own_value s.limits.unit (funding_of ready) (live_of ready) u
  own-now = own-same (funding_of later) (funding_of ready).lends (funding_of ready).owners no_cycle_now no_cycle_ready
      (live_of later) (live_of ready) order.funds_there backed-on backed-back s.limits.unit

  own-t : own_value s.limits.unit (funding_of ready) (live_of ready) t ≡ 0
  own-t = ap (sum_by (ticket_value s.limits.unit (funding_of ready) (live_of ready))) has.tickets

  lead-same : (u v : ℕ) → u ≢ t → lends_lead (funding_of later) u v ≡ lends_lead (funding_of ready) u v
  lead-same u v differs =
      let exact = lends_lead-exact (funding_of ready) no_cycle_ready.lends u v in
      let exact_now = lends_lead-exact (funding_of later) no_cycle_now.lends u v in
      same-bool (lends_lead (funding_of later) u v) (lends_lead (funding_of ready) u v)
      (λ on. let lead = exact_now.0 on in exact.1 (lead.0, chain-back u lead.0 v differs lead.1))
      (λ on. let lead = exact.0 on in exact_now.1 (lead.0, chain-on u lead.0 v differs lead.1))

  as-many : length later.records ≡ length ready.records
  as-many =
      change-length ended (change_each released s.records (released_by s t)) t
      ∙ each-length released s.records (released_by s t) ∙ sym (each-length made_ready s.records queue)

  none : (x y : Bool) (a b : ℕ) → a ≡ 0 → b ≡ 0 → cond x a 0 ≡ cond y b 0
  none true true a b one two = one ∙ sym two
  none true false a b one two = one
  none false true a b one two = sym two
  none false false a b one two = refl

  worth-same : (v : ℕ) → value_of later v ≡ value_of ready v
  worth-same v =
      spread s.limits.unit (funding_of later) (live_of later) v
      ∙ ap (λ n. sum_by (λ u. cond (lends_lead (funding_of later) u v)
      (own_value s.limits.unit (funding_of later) (live_of later) u) 0) (range_with_len 1 n))
      (length-map later.records (λ (r : Record). lend_of s.limits r.status) ∙ as-many
      ∙ sym (length-map ready.records (λ (r : Record). lend_of s.limits r.status)))
      ∙ sum-same (λ u. cond (lends_lead (funding_of later) u v)
      (own_value s.limits.unit (funding_of later) (live_of later) u) 0)
      (λ u. cond (lends_lead (funding_of ready) u v)
      (own_value s.limits.unit (funding_of ready) (live_of ready) u) 0) (numbers (funding_of ready).lends)
      (λ u. by u (cases_eq u t))
      ∙ sym (spread s.limits.unit (funding_of ready) (live_of ready) v)
    where
      by : (u : ℕ) → (u ≡ t) ⊎ (¬ (u ≡ t)) → cond (lends_lead (funding_of later) u v)
          (own_value s.limits.unit (funding_of later) (live_of later) u) 0
          ≡ cond (lends_lead (funding_of ready) u v) (own_value s.limits.unit (funding_of ready) (live_of ready) u) 0
      by u (inl same) =
          let owns : own_value s.limits.unit (funding_of ready) (live_of ready) u ≡ 0 =
          ap (own_value s.limits.unit (funding_of ready) (live_of ready)) same ∙ own-t in
          none (lends_lead (funding_of later) u v) (lends_lead (funding_of ready) u v) _ _ (own-now u ∙ owns) owns
      by u (inr differs) =
          ap (λ on. cond on (own_value s.limits.unit (funding_of later) (live_of later) u) 0) (lead-same u v differs)
          ∙ ap (λ w. cond (lends_lead (funding_of ready) u v) w 0) (own-now u)

  worth-t : value_of ready t ≡ 0
  worth-t = sym (worth-same t) ∙ dead-worth later t later-dead
      (subst IsInOrder is-later (step-order s (event.Command (Kill thread)) order))

  live-same : live_value later ≡ live_value ready
  live-same =
      sum-filter (value_of later) (is_live (live_of later)) (numbers later.records)
      ∙ ap (λ n. sum_by (λ u. cond (is_live (live_of later) u) (value_of later u) 0) (range_with_len 1 n)) as-many
      ∙ sum-same (λ u. cond (is_live (live_of later) u) (value_of later u) 0)
      (λ u. cond (is_live (live_of ready) u) (value_of ready u) 0) (numbers ready.records)
      (λ u. by u (cases_eq u t))
      ∙ sym (sum-filter (value_of ready) (is_live (live_of ready)) (numbers ready.records))
    where
      by : (u : ℕ) → (u ≡ t) ⊎ (¬ (u ≡ t)) → cond (is_live (live_of later) u) (value_of later u) 0
          ≡ cond (is_live (live_of ready) u) (value_of ready u) 0
      by u (inl same) =
          let worth : value_of ready u ≡ 0 = ap (value_of ready) same ∙ worth-t in
          none (is_live (live_of later) u) (is_live (live_of ready) u) _ _ (worth-same u ∙ worth) worth
      by u (inr differs) =
          ap (λ (o : Option Bool). cond (option_any (λ flag. flag) o) (value_of later u) 0) (lives-same u differs)
          ∙ ap (λ w. cond (is_live (live_of ready) u) w 0) (worth-same u)

  -- ---- what moves

  lent : (u : ℕ) → Contains queue u → LendsTo (funding_of s) u t
  lent u c = lends-of s u t (Served t) (client-is u c) (served-lends s t lends)

  moves : (v : ℕ) → value_of s v ≡ value_of later v + cond (lends_lead (funding_of s) t v) (sum_by (value_of s) queue) 0
  moves v =
      each-worth queue s t order.no_cycle order.funds_there backed clients-apart lent v
      ∙ ap (λ w. w + cond (lends_lead (funding_of s) t v) (sum_by (value_of s) queue) 0) (sym (worth-same v))

  t-worth : value_of s t ≡ sum_by (value_of s) queue
  t-worth = omega (
    arith,
    moves t,
    worth-same t,
    worth-t,
    ap (λ on. cond on (sum_by (value_of s) queue) 0)
        ((lends_lead-exact (funding_of s) order.no_cycle.lends t t).1 ([], refl)),
  )

  pub kill-behind : (v : ℕ) → LendsLead (funding_of s) t v → value_of s v ≡ value_of (after_kill s thread) v
      + value_of s t
  kill-behind v lead = omega (
    arith,
    moves v,
    t-worth,
    ap (λ (a : State). value_of a v) is-later,
    ap (λ on. cond on (sum_by (value_of s) queue) 0)
        ((lends_lead-exact (funding_of s) order.no_cycle.lends t v).1 lead),
  )

  pub kill-others : (v : ℕ) → ¬ LendsLead (funding_of s) t v → value_of (after_kill s thread) v ≡ value_of s v
  kill-others v off = omega (
    arith,
    moves v,
    ap (λ (a : State). value_of a v) is-later,
    ap (λ on. cond on (sum_by (value_of s) queue) 0) (by (lends_lead (funding_of s) t v) refl),
  )
    where
      by : (b : Bool) → lends_lead (funding_of s) t v ≡ b → b ≡ false
      by false is = refl
      by true is = absurd (off ((lends_lead-exact (funding_of s) order.no_cycle.lends t v).0 is))

  pub kill-together : live_value (after_kill s thread) ≡ live_value s
  kill-together =
      ap live_value is-later ∙ live-same
      ∙ sym (each-together queue s t order.no_cycle order.funds_there backed clients-apart lent)
