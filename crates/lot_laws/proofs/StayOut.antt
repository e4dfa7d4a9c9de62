-- Nothing refers to a removed thread: tickets, lends and owners that an event makes name an existing thread.
use Rattle.lot_laws.proofs.Common.{Action, After, All-head, All-tail, BadProcessor, BadTicks, Bool, By, Call, Command, Contains, Currency, Drawn, Edge, Effect, Ends, EndsAre, Event, Exit, Funding, GoesOn, IsAlive, IsInOrder, IsNotGiven, IsQueue, IsReachable, IsRemoved, Keeps, Kill, Leaves, Lend, List, Lock, MakeFunded, MakeThread, Mutex, NewThread, Nobody, Node, None, NotRunning, NothingLeadsToRemoved, OfLender, OfMutex, OfTicket, Option, Outcome, PutRecord, QueuedCall, Receive, Record, Refusal, RemoveThread, Serve, Sizes, Some, StandsNowhere, State, Status, Target, Thread, Ticket, ToMutex, ToThread, TrapRefusal, Unlock, after_trap, alive-of, all-pass, ap, arith, at_number, at_number-map, at_number-suc, before_lock, by_event, call, change_record, checked_effect, command_effect, command_refusal, command_step, compensation_for, cond, draw, drop_thread, edge_count_into, edges-many, edges_into, ends-are, ends_of, event_effect, false, first_client, free_threads, free_tickets, funding_of, heir-waits, held_by, holder_of, if◌then◌else◌, inl, inr, into-once, is_bad_processor, is_none, is_owned_by, kept, killed, killed-either, leads_back, lend-at, lend_node, lend_of, lends_at, lends_lead, lends_on_to, lock, map, mutex_at, mutex_without, nat_lt, newborn, next_place, next_thread, number-mapped, number-placed, number-set, number-stays, number-there, of_mutexes, of_ports, opening, opening-order, option_and_then, option_any, option_flatten, option_map, other-sizes, other-tickets, owner-either, pair, place-in, placed, port_at, port_holders, ready_threads, receive, receiver-alive, record-of, refl, remove, replies, reply, serve, served_at, set_number, slice_get, slice_index, some-injective, started, state_after, status-changed, status-number, status_of, step, step-leads, step-limits, step-order, stopped, subst, suc, sym, target_node, there-alive, thread_given, thread_meant, thread_on, thread_there, ticket_at, trap, trap_effect, trap_refusal, true, unless_refused, unlock, unrefused, unserved, unserved_at, unwrap_or, used_there, value_of, waiter-alive, wake, weight_of, winner, with_server, with_thread, with_ticks, without, zero, ℕ, [], ◌++◌, ◌+◌, ◌-◌, ◌==◌, ◌∙◌, ◌∷◌, ◌≡◌, ◌≢◌, ◌⊎◌}
use Rattle.lot_machine.specs.declared.ticket.Target.TheVariants as target
use Rattle.lot_machine.specs.Change.{DropThread, DropTicket, NewTicket, PutMutex, PutTicket}
use Rattle.lot_machine.proofs.StepChanges.{IsConsole, IsIn, MayFund, is_console}
use Rattle.lot_laws.proofs.EachTicket.{EachOf, each-placed, each-put}
use Rattle.lot_machine.specs.declared.record.Thread.{Thread as ThreadRecord}
use Rattle.lot_machine.specs.declared.record.Status.TheVariants as status
use Rattle.lot_machine.specs.declared.funding.Node.TheVariants.{Mutex as MutexNode}
use Rattle.lot_machine.specs.declared.trap.Trap.TheVariants.{Reply as ReplyTo}
use Rattle.lot_machine.specs.declared.event.Event.TheVariants as event
use Rattle.lot_machine.specs.declared.reply.Outcome.TheVariants as outcome

-- ---- whom a state refers to

-- whom tickets fund, whom threads lend to if they lend, and who owns a mutex, is so
abbrev Funds : (ℕ → Type 0) → Ticket → Type 0
Funds IsSo ticket = (t : ℕ) → ticket.target ≡ target.Thread t → IsSo t

abbrev Funded : (ℕ → Type 0) → List (Option Ticket) → Type 0
Funded IsSo tickets = EachOf (Funds IsSo) tickets

abbrev Lent : (ℕ → Type 0) → List Record → Type 0
Lent IsSo records = (u t : ℕ) → status_of records u ≡ Some (status.Served t) → IsSo t

abbrev Owned : (ℕ → Type 0) → List Mutex → Type 0
Owned IsSo mutexes = (m t : ℕ) (mutex : Mutex) → at_number mutexes m ≡ Some mutex → mutex.owner ≡ Some t → IsSo t

abbrev Refers : (ℕ → Type 0) → State → Type 0
Refers IsSo s = Funded IsSo s.tickets × Lent (λ t. s.limits.without_lending ≡ false → IsSo t) s.records
    × Owned IsSo s.mutexes

-- the thread wasn't removed, if threads lend
abbrev LentIn : State → ℕ → Type 0
LentIn s t = s.limits.without_lending ≡ false → IsIn s.threads t

-- the state refers only to threads that are there
abbrev RefersIn : State → Type 0
RefersIn s = Refers (IsIn s.threads) s

served-same : (a b : ℕ) → status.Served a ≡ status.Served b → a ≡ b
served-same a b e = cc

leaves-same : (a b : Status) → Leaves a ≡ Leaves b → a ≡ b
leaves-same a b e = cc

-- ---- references as edges

ticket-edge : (f : Funding) (n t : ℕ) (ticket : Ticket) → ticket_at f n ≡ Some ticket → ticket.target ≡ target.Thread t
    → ends_of f (OfTicket n) ≡ Some (pair (Currency ticket.issuer) (Thread t))
ticket-edge f n t ticket at is =
    ap (option_and_then (λ (x : Ticket). option_map (pair (Currency x.issuer)) (target_node x.target))) at
    ∙ ap (λ (to : Target). option_map (pair (Currency ticket.issuer)) (target_node to)) is

lend-edge : (s : State) (u t : ℕ) → s.limits.without_lending ≡ false → status_of s.records u ≡ Some (status.Served t)
    → ends_of (funding_of s) (OfLender u) ≡ Some (pair (Thread u) (Thread t))
lend-edge s u t on is =
    ap (option_and_then (λ (lend : Lend). option_map (pair (Thread u)) (lend_node lend))) (lend-at s.limits s.records u
    (status.Served t) is ∙ ap (λ (without : Bool). Some (if without then Nobody else ToThread t)) on)

owner-edge : (s : State) (m t : ℕ) (mutex : Mutex) → at_number s.mutexes m ≡ Some mutex → mutex.owner ≡ Some t
    → ends_of (funding_of s) (OfMutex m) ≡ Some (pair (MutexNode m) (Thread t))
owner-edge s m t mutex at is =
    ap (λ o. option_map (λ (owner : ℕ). pair (MutexNode m) (Thread owner)) (option_flatten o))
    (at_number-map (λ (x : Mutex). x.owner) s.mutexes m ∙ ap (option_map (λ (x : Mutex). x.owner)) at ∙ ap Some is)

-- no edge leads there, so nothing refers to it
refers-from : (s : State) → NothingLeadsToRemoved s → RefersIn s
refers-from s none = (
  λ n ticket at t is gone.
      none t gone (Currency ticket.issuer) (OfTicket n, ticket-edge (funding_of s) n t ticket at is),
  λ u t is on gone. none t gone (Thread u) (OfLender u, lend-edge s u t on is),
  λ m t mutex at is gone. none t gone (MutexNode m) (OfMutex m, owner-edge s m t mutex at is),
)

-- and the other way round
target-thread : (to : Target) (t : ℕ) → target_node to ≡ Some (Thread t) → to ≡ target.Thread t
target-thread target.Unfunded t e = cc
target-thread (target.Currency c) t e = cc
target-thread (target.Thread u) t e = let same : Thread u ≡ Thread t = some-injective (Thread u) (Thread t) e in
    let number : u ≡ t = cc in ap target.Thread number

served-thread : (without : Sizes) (now : Status) (t : ℕ) → lend_node (lend_of without now) ≡ Some (Thread t)
    → (without.without_lending ≡ false) × (now ≡ status.Served t)
served-thread without status.Ready t e = cc
served-thread without (status.Running p used) t e = cc
served-thread without (status.Receiving p) t e = cc
served-thread without (status.Queued p) t e = absurd (by without.without_lending (lends_at without p) e)
  where
    by : (b c : Bool)
        → lend_node (if b then Nobody else (if c then ToMutex (holder_of without p) else Nobody)) ≡ Some (Thread t) → ⊥
    by true c e = cc
    by false true e = cc
    by false false e = cc
served-thread without (status.Served u) t e = by without.without_lending refl e
  where
    by : (b : Bool) → without.without_lending ≡ b → lend_node (if b then Nobody else ToThread u) ≡ Some (Thread t)
        → (without.without_lending ≡ false) × (status.Served u ≡ status.Served t)
    by true is e = cc
    by false is e = let same : Thread u ≡ Thread t = some-injective (Thread u) (Thread t) e in
        let number : u ≡ t = cc in (is, ap status.Served number)
served-thread without (status.Waiting m) t e = absurd (by without.without_lending e)
  where
    by : (b : Bool) → lend_node (if b then Nobody else ToMutex m) ≡ Some (Thread t) → ⊥
    by true e = cc
    by false e = cc
served-thread without status.Asleep t e = cc
served-thread without status.Dead t e = cc

edges-from : (s : State) → RefersIn s → NothingLeadsToRemoved s
edges-from s refers t gone from (edge, ends) = by edge (ends-are (funding_of s) edge from (Thread t) ends)
  where
    lent : (u : ℕ) (lend : Lend) → lend_node lend ≡ Some (Thread t) → (o : Option Record) → at_number s.records u ≡ o
        → option_map (λ (r : Record). lend_of s.limits r.status) o ≡ Some lend → ⊥
    lent u lend to None at e = cc
    lent u lend to (Some r) at e =
        let same : lend_of s.limits r.status ≡ lend = some-injective (lend_of s.limits r.status) lend e in
        let (on, serves) = served-thread s.limits r.status t (ap lend_node same ∙ to) in
        refers.1 u t (ap (option_map (λ (x : Record). x.status)) at ∙ ap Some serves) on gone

    owned : (m owner : ℕ) → Thread t ≡ Thread owner → (o : Option Mutex) → at_number s.mutexes m ≡ o
        → option_flatten (option_map (λ (x : Mutex). x.owner) o) ≡ Some owner → ⊥
    owned m owner to None at e = cc
    owned m owner to (Some mutex) at e = let same : owner ≡ t = cc in refers.2 m t mutex at (e ∙ ap Some same) gone

    by : (edge : Edge) → EndsAre (funding_of s) edge from (Thread t) → ⊥
    by (OfTicket n) (ticket, at, first, to) = refers.0 n ticket at t (target-thread ticket.target t to) gone
    by (OfLender u) (lend, at, first, to) = lent u lend to (at_number s.records u) refl
        (sym (at_number-map (λ (r : Record). lend_of s.limits r.status) s.records u) ∙ at)
    by (OfMutex m) (owner, at, first, to) =
        owned m owner to (at_number s.mutexes m) refl
        (sym (ap option_flatten (at_number-map (λ (x : Mutex). x.owner) s.mutexes m)) ∙ at)

-- ---- changes that refer to threads that are so

module _ (IsSo : ℕ → Type 0) where
  lent-changed : (change : Record → Record) (records : List Record) (u : ℕ)
      → ((r : Record) (t : ℕ) → (change r).status ≡ status.Served t → IsSo t) → Lent IsSo records
      → Lent IsSo (change_record change records u)
  lent-changed change records u new old v t is = from (status-changed change records u v)
    where
      from : (status_of (change_record change records u) v ≡ status_of records v) ⊎ ((v ≡ u) × ((r : Record)
          × (at_number records u ≡ Some r) × (status_of (change_record change records u) v ≡ Some (change r).status)))
          → IsSo t
      from (inl same) = old v t (sym same ∙ is)
      from (inr (at, (r, there, now))) = new r t (some-injective (change r).status (status.Served t) (sym now ∙ is))

  lent-more : (records : List Record) (free : List ℕ) (r : Record) → r.status ≡ status.Ready → Lent IsSo records
      → Lent IsSo (placed records free r)
  lent-more records free r ready old v t is = from (number-placed records free r v)
    where
      from : (at_number (placed records free r) v ≡ at_number records v)
          ⊎ (at_number (placed records free r) v ≡ Some r) → IsSo t
      from (inl same) = old v t (sym (ap (option_map (λ (x : Record). x.status)) same) ∙ is)
      from (inr now) =
          let never : status.Ready ≡ status.Served t = sym ready
          ∙ some-injective r.status (status.Served t) (sym (ap (option_map (λ (x : Record). x.status)) now) ∙ is) in cc

  owned-set : (mutexes : List Mutex) (m : ℕ) (x : Mutex) → ((t : ℕ) → x.owner ≡ Some t → IsSo t) → Owned IsSo mutexes
      → Owned IsSo (set_number mutexes m x)
  owned-set mutexes m x new old k t mutex at is = from (number-set mutexes m x k)
    where
      from : (at_number (set_number mutexes m x) k ≡ at_number mutexes k)
          ⊎ ((k ≡ suc (m - 1)) × (at_number (set_number mutexes m x) k ≡ Some x)) → IsSo t
      from (inl same) = old k t mutex (sym same ∙ at) is
      from (inr (place, now)) = new t (ap (λ (y : Mutex). y.owner) (some-injective x mutex (sym now ∙ at)) ∙ is)

-- ---- traps

module _ (s : State) (order : IsInOrder s) where
  -- who isn't dead is there
  alive-in : (t : ℕ) → IsAlive s.records t → IsIn s.threads t
  alive-in t alive gone = alive (order.removed t gone)

  module _ (lent : Lent (LentIn s) s.records) (owned : Owned (IsIn s.threads) s.mutexes) where
    -- the effect refers only to threads that are there, and so does how the thread leaves its processor
    abbrev IsGood : Effect → Type 0
    IsGood e = Lent (LentIn s) e.state.records × Owned (IsIn s.threads) e.state.mutexes
        × ((t : ℕ) → e.after ≡ Leaves (status.Served t) → IsIn s.threads t)

    call-good : (t port number : ℕ) → IsGood (of_ports s (call s.records s.clients s.ports t port number))
    call-good t port number = at (port_at s.ports port).receivers refl
      where
        at : (o : List ℕ) → (port_at s.ports port).receivers ≡ o
            → IsGood (of_ports s (call s.records s.clients s.ports t port number))
        at [] is = rw is (lent, owned, λ u e. cc)
        at (server ∷ others) is =
            let here =
            alive-in server (receiver-alive s.records s.clients s.ports s.mutexes order.queues port server others is) in
            let woken = lent-changed (LentIn s)
            (λ r. record r { status = status.Ready; delivered = Some number }) s.records server (λ r u e. cc) lent in
            rw is (woken, owned, λ u e. subst (IsIn s.threads) (served-same server u (leaves-same (status.Served server) (status.Served u) e)) here)

    receive-good : (a : State) (server port : ℕ) → IsIn s.threads server → Lent (LentIn s) a.records
        → Owned (IsIn s.threads) a.mutexes → IsGood (of_ports a (receive a.records a.clients a.ports server port))
    receive-good a server port here lends owns = at (port_at a.ports port).calls refl
      where
        at : (o : List QueuedCall) → (port_at a.ports port).calls ≡ o
            → IsGood (of_ports a (receive a.records a.clients a.ports server port))
        at [] is = rw is (lends, owns, λ u e. cc)
        at (first ∷ others) is =
            let taken = lent-changed (LentIn s) (λ r. record r { status = status.Served server }) a.records first.caller
            (λ r u e on. subst (IsIn s.threads) (served-same server u e) here) lends in
            rw is (taken, owns, λ u e. cc)

    reply-good : (server number : ℕ) → IsGood (of_ports s (reply s.records s.clients s.ports server number))
    reply-good server number =
        (lent-changed (LentIn s) (λ r. record r { status = status.Ready; delivered = Some number }) s.records (unwrap_or (first_client s.clients server) 0) (λ r u e. cc) lent, owned, λ u e. cc)

    owner-kept : (m t : ℕ) → (mutex_at s.mutexes m).owner ≡ Some t → IsIn s.threads t
    owner-kept m t = by (at_number s.mutexes m) refl
      where
        by : (o : Option Mutex) → at_number s.mutexes m ≡ o
            → (unwrap_or o (record { owner = None; waiters = [] })).owner ≡ Some t → IsIn s.threads t
        by None at e = cc
        by (Some mutex) at e = owned m t mutex at e

    owner-in : (mutexes : List Mutex) → Owned (IsIn s.threads) mutexes → (m t : ℕ) → (mutex_at mutexes m).owner ≡ Some t
        → IsIn s.threads t
    owner-in mutexes owns m t = by (at_number mutexes m) refl
      where
        by : (o : Option Mutex) → at_number mutexes m ≡ o
            → (unwrap_or o (record { owner = None; waiters = [] })).owner ≡ Some t → IsIn s.threads t
        by None at e = cc
        by (Some mutex) at e = owns m t mutex at e

    -- ports get servers that are there, or none
    owned-server : (port : ℕ) (server : Option ℕ) → ((u : ℕ) → server ≡ Some u → IsIn s.threads u)
        → Owned (IsIn s.threads) (with_server s.limits s.mutexes port server)
    owned-server port server here = by s.limits.queued_lend
      where
        by : (b : Bool) → Owned (IsIn s.threads)
            (cond b (set_number s.mutexes (holder_of s.limits port) (held_by server)) s.mutexes)
        by true = owned-set (IsIn s.threads) s.mutexes (holder_of s.limits port) (held_by server) here owned
        by false = owned

    owned-served : (t port : ℕ) (o : Outcome) → IsIn s.threads t
        → ((server : ℕ) → o ≡ outcome.ServedBy server → IsIn s.threads server)
        → Owned (IsIn s.threads) (served_at s t port o)
    owned-served t port o here served = by o served
      where
        it : Owned (IsIn s.threads) (with_server s.limits s.mutexes port (Some t))
        it = owned-server port (Some t) (λ u e. subst (IsIn s.threads) (some-injective t u e) here)

        back : (b : Bool) → Owned (IsIn s.threads) (cond b (with_server s.limits s.mutexes port None) s.mutexes)
        back true = owned-server port None (λ u e. cc)
        back false = owned

        by : (o : Outcome) → ((server : ℕ) → o ≡ outcome.ServedBy server → IsIn s.threads server)
            → Owned (IsIn s.threads) (served_at s t port o)
        by (outcome.ServedBy server) is_in = owned-server port (Some server)
            (λ u e. subst (IsIn s.threads) (some-injective server u e) (is_in server refl))
        by outcome.Queued is_in = back (leads_back s t port)
        by (outcome.Received client number) is_in = it
        by (outcome.RepliedThenReceived to client number) is_in = it
        by other is_in = owned

    owned-unserved : (test : ℕ → Bool) (mutexes : List Mutex) (ns : List ℕ) → Owned (IsIn s.threads) mutexes
        → Owned (IsIn s.threads) (unserved test mutexes ns)
    owned-unserved test mutexes [] owns = owns
    owned-unserved test mutexes (n ∷ ns) owns =
        owned-unserved test (unserved_at test mutexes n) ns (by (option_any test (mutex_at mutexes n).owner))
      where
        by : (b : Bool) → Owned (IsIn s.threads) (cond b (set_number mutexes n (held_by None)) mutexes)
        by true = owned-set (IsIn s.threads) mutexes n (held_by None) (λ u e. cc) owns
        by false = owns

    owned-before : (t m : ℕ) → Owned (IsIn s.threads) (before_lock s t m)
    owned-before t m = by (option_any (λ owner. lends_on_to (funding_of s) owner t) (mutex_at s.mutexes m).owner)
      where
        by : (b : Bool) → Owned (IsIn s.threads) (cond b
            (unserved (λ server. lends_lead (funding_of s) server t) s.mutexes (port_holders s.limits)) s.mutexes)
        by true = owned-unserved (λ server. lends_lead (funding_of s) server t) s.mutexes (port_holders s.limits) owned
        by false = owned

    -- who takes a call at once is there
    call-server : (t port number server : ℕ)
        → (call s.records s.clients s.ports t port number).outcome ≡ outcome.ServedBy server → IsIn s.threads server
    call-server t port number server = at (port_at s.ports port).receivers refl
      where
        at : (o : List ℕ) → (port_at s.ports port).receivers ≡ o
            → (call s.records s.clients s.ports t port number).outcome ≡ outcome.ServedBy server → IsIn s.threads server
        at [] is = rw is (λ e. cc)
        at (first ∷ others) is =
            rw is (λ e. let same : first ≡ server = cc in
            subst (IsIn s.threads) same
            (alive-in first (receiver-alive s.records s.clients s.ports s.mutexes order.queues port first others is)))

    receive-server : (a : State) (t port server : ℕ)
        → ¬ ((receive a.records a.clients a.ports t port).outcome ≡ outcome.ServedBy server)
    receive-server a t port server = at (port_at a.ports port).calls refl
      where
        at : (o : List QueuedCall) → (port_at a.ports port).calls ≡ o
            → ¬ ((receive a.records a.clients a.ports t port).outcome ≡ outcome.ServedBy server)
        at [] is = rw is (λ e. cc)
        at (first ∷ others) is = rw is (λ e. cc)

    serve-server : (t port number server : ℕ)
        → ¬ ((serve s.records s.clients s.ports t port number).outcome ≡ outcome.ServedBy server)
    serve-server t port number server = at (port_at s.ports port).calls refl
      where
        at : (o : List QueuedCall) → (port_at s.ports port).calls ≡ o
            → ¬ ((serve s.records s.clients s.ports t port number).outcome ≡ outcome.ServedBy server)
        at [] is = rw is (λ e. cc)
        at (first ∷ others) is = rw is (λ e. cc)

    lock-good : (a : State) (t m : ℕ) → Owned (IsIn s.threads) a.mutexes → IsIn s.threads t
        → IsGood (of_mutexes s (lock s.records a.mutexes t m))
    lock-good a t m owned here = at (mutex_at a.mutexes m).owner refl
      where
        at : (o : Option ℕ) → (mutex_at a.mutexes m).owner ≡ o → IsGood (of_mutexes s (lock s.records a.mutexes t m))
        at None is =
            rw is (lent, owned-set (IsIn s.threads) a.mutexes m (record { owner = Some t; waiters = (mutex_at a.mutexes m).waiters }) (λ u e. subst (IsIn s.threads) (some-injective t u e) here) owned, λ u e. cc)
        at (Some owner) is =
            rw is (lent, owned-set (IsIn s.threads) a.mutexes m (record { owner = Some owner; waiters = (mutex_at a.mutexes m).waiters ++ t ∷ [] }) (λ u e. owner-in a.mutexes owned m u (is ∙ e)) owned, λ u e. cc)

    unlock-good : (value : ℕ → ℕ) (m d : ℕ) → IsGood (of_mutexes s (unlock s.records s.mutexes value m d))
    unlock-good value m d = at (mutex_at s.mutexes m).waiters refl
      where
        at : (o : List ℕ) → (mutex_at s.mutexes m).waiters ≡ o
            → IsGood (of_mutexes s (unlock s.records s.mutexes value m d))
        at [] is = rw is (lent, owned-set (IsIn s.threads) s.mutexes m (record { owner = None; waiters = [] }) (λ u e. cc) owned, λ u e. cc)
        at (w ∷ ws) is =
            let place = unwrap_or (option_map (λ (drawn : Drawn). drawn.place) (winner (map value (w ∷ ws)) d)) 0 in
            let passed = slice_index (w ∷ ws) place in
            let here =
            alive-in passed (waiter-alive s.records s.clients s.ports s.mutexes order.queues m place (w ∷ ws) is) in
            let woken =
            lent-changed (LentIn s) (λ r. record r { status = status.Ready }) s.records passed (λ r u e. cc) lent in
            rw is (woken, owned-set (IsIn s.threads) s.mutexes m (record { owner = Some passed; waiters = remove (w ∷ ws) place }) (λ u e. subst (IsIn s.threads) (some-injective passed u e) here) owned, λ u e. cc)

    effect-good : (t : ℕ) (action : Action) → IsIn s.threads t → IsGood (trap_effect s t action)
    effect-good t (Call port number) here =
        let good = call-good t port number in
        (good.0, owned-served t port (call s.records s.clients s.ports t port number).outcome here (call-server t port number), good.2)
    effect-good t (Receive port) here =
        let good = receive-good s t port here lent owned in
        (good.0, owned-served t port (receive s.records s.clients s.ports t port).outcome here (λ server e. absurd (receive-server s t port server e)), good.2)
    effect-good t (ReplyTo number) here = reply-good t number
    effect-good t (Serve port number) here =
        let replied = reply-good t number in
        let good =
        receive-good (of_ports s (reply s.records s.clients s.ports t number)).state t port here replied.0 replied.1 in
        (good.0, owned-served t port (serve s.records s.clients s.ports t port number).outcome here (λ server e. absurd (serve-server t port number server e)), good.2)
    effect-good t (Lock m) here = lock-good (record s { mutexes = before_lock s t m }) t m (owned-before t m) here
    effect-good t (Unlock m d) here = unlock-good (value_of s) m d
    effect-good t Exit here =
        (lent, owned-unserved (λ server. server == t) s.mutexes (port_holders s.limits) owned, λ u e. cc)
    effect-good t action here = (lent, owned, λ u e. cc)

    checked-good : (t : ℕ) (action : Action) (o : Option TrapRefusal) → IsIn s.threads t
        → IsGood (checked_effect s o (trap_effect s t action))
    checked-good t action None here = effect-good t action here
    checked-good t action (Some refusal) here = (lent, owned, λ u e. cc)

    -- lends and owners after an event
    abbrev LendsWell : State → Type 0
    LendsWell a = Lent (LentIn s) a.records × Owned (IsIn s.threads) a.mutexes

    trap-good : (p t used ran : ℕ) (action : Action) → IsIn s.threads t → LendsWell (trap s p t used ran action).state
    trap-good p t used ran action here =
        let effect = checked_effect s (trap_refusal s t action) (trap_effect s t action) in
        let good = checked-good t action (trap_refusal s t action) here in
        (lent-changed (LentIn s) (λ r. with_ticks (ran + 1) (after_trap effect.after p (used + ran + 1) s.limits r)) effect.state.records t (λ r u e on. new effect.after good.2 r u e) good.0, good.1)
      where
        new : (after : After) → ((u : ℕ) → after ≡ Leaves (status.Served u) → IsIn s.threads u) → (r : Record) (u : ℕ)
            → (after_trap after p (used + ran + 1) s.limits r).status ≡ status.Served u → IsIn s.threads u
        new GoesOn leaves r u e = at (nat_lt (used + ran + 1) s.limits.quantum) refl
          where
            at : (b : Bool) → nat_lt (used + ran + 1) s.limits.quantum ≡ b → IsIn s.threads u
            at true on = let never : status.Running p (used + ran + 1) ≡ status.Served u = rw on at e in cc
            at false on = let never : status.Ready ≡ status.Served u = rw on at e in cc
        new (Leaves now) leaves r u e = leaves u (ap Leaves e)
        new Ends leaves r u e = cc

    draw-good : (p d : ℕ) → LendsWell (draw s p d).state
    draw-good p d = at (winner (map (weight_of s) (ready_threads s.records)) d) refl
      where
        at : (o : Option Drawn) → winner (map (weight_of s) (ready_threads s.records)) d ≡ o
            → LendsWell (draw s p d).state
        at None is = rw is (lent, owned)
        at (Some w) is = rw is (lent-changed (LentIn s) (started p) s.records (slice_index (ready_threads s.records) w.place) (λ r u e. cc) lent, owned)

    stopped-good : (t ticks : ℕ) (compensation : Option ℕ) → LendsWell (stopped s t ticks compensation).state
    stopped-good t ticks compensation =
        (lent-changed (LentIn s) (λ r. with_ticks ticks (record r { status = status.Ready; compensation = compensation })) s.records t (λ r u e. cc) lent, owned)

    wake-good : (t : ℕ) → LendsWell (wake s t).state
    wake-good t =
        (lent-changed (LentIn s) (λ r. record r { status = status.Ready }) s.records t (λ r u e. cc) lent, owned)

    -- a kill
    kill-good : (t : ℕ) → LendsWell (killed s t)
    kill-good t = (lends, owns)
      where
        lends : Lent (LentIn s) (killed s t).records
        lends u v is = from (killed-either s t u)
          where
            from : (status_of (killed s t).records u ≡ status_of s.records u)
                ⊎ ((status_of (killed s t).records u ≡ Some status.Ready)
                ⊎ (status_of (killed s t).records u ≡ Some status.Dead)) → LentIn s v
            from (inl same) = lent u v (sym same ∙ is)
            from (inr (inl ready)) = let never : Some status.Ready ≡ Some (status.Served v) = sym ready ∙ is in cc
            from (inr (inr dead)) = let never : Some status.Dead ≡ Some (status.Served v) = sym dead ∙ is in cc

        owns : Owned (IsIn s.threads) (killed s t).mutexes
        owns m v mutex there owner = from (number-mapped (mutex_without t) s.mutexes m mutex there)
          where
            from : ((held : Mutex) × ((at_number s.mutexes m ≡ Some held) × (mutex_without t held ≡ mutex)))
                → IsIn s.threads v
            from (held, (here, is)) = whose (owner-either t v held (ap (λ (x : Mutex). x.owner) is ∙ owner))
              where
                whose : ((is_owned_by t held ≡ false) × (held.owner ≡ Some v))
                    ⊎ ((is_owned_by t held ≡ true) × (slice_get (without t held.waiters) 0 ≡ Some v)) → IsIn s.threads v
                whose (inl (other, before)) = owned m v held here before
                whose (inr (mine, first)) =
                    let waits = heir-waits s order.queues t v
                    (record { mutex = m; held = held; there = here; owned = mine; first = first }) in
                    alive-in v (alive-of s.records v (status.Waiting m) waits (λ e. cc))

    command-good : (c : Command) → ¬ IsConsole (by_event s (event.Command c))
        → LendsWell (step s (event.Command c)).state
    command-good (Kill thread) other = unrefused LendsWell s _ (command_effect s (Kill thread)) (lent, owned)
        (λ _. kill-good (unwrap_or (thread_meant s thread) 0))
    command-good c other = absurd (other refl)

    other-good : (e : Event) → ¬ IsConsole (by_event s e) → LendsWell (step s e).state
    other-good (event.Command command) other = command-good command other
    other-good (event.Draw q d) other = unrefused LendsWell s _ (draw s q d) (lent, owned) (λ _. draw-good q d)
    other-good (event.Expire q) other = unrefused LendsWell s _ (event_effect s (event.Expire q)) (lent, owned)
        (λ _. stopped-good (thread_there s q) (s.limits.quantum - used_there s q) None)
    other-good (event.Preempt q ticks) other = unrefused LendsWell s _ (event_effect s (event.Preempt q ticks))
        (lent, owned) (λ _. stopped-good (thread_there s q) ticks None)
    other-good (event.Overrun q late) other =
        unrefused LendsWell s _ (event_effect s (event.Overrun q late)) (lent, owned) (λ _. stopped-good (thread_there s
        q) (s.limits.quantum - used_there s q + late) (compensation_for s.limits (s.limits.quantum + late)))
    other-good (event.Wake t) other =
        unrefused LendsWell s _ (event_effect s (event.Wake t)) (lent, owned) (λ _. wake-good t)
    other-good (event.Trap q ran action) other =
        unrefused LendsWell s _ (event_effect s (event.Trap q ran action)) (lent, owned) (λ e.
        let passed = all-pass ((is_bad_processor s q, BadProcessor) ∷ (is_none (thread_on s.records q), NotRunning)
        ∷ (nat_lt s.limits.quantum (used_there s q + ran + 1), BadTicks) ∷ []) e in
        trap-good q (thread_there s q) (used_there s q) ran action
        (alive-in (thread_there s q) (there-alive s q passed.1.0)))

-- an event that changes no tickets and makes no thread
other-refers : (s : State) (e : Event) → ¬ IsConsole (by_event s e) → IsInOrder s → RefersIn s
    → RefersIn (step s e).state
other-refers s e other order refers =
    let good = other-good s order refers.1 refers.2 e other in
    let funded : Funded (IsIn s.threads) (step s e).state.tickets =
    subst (Funded (IsIn s.threads)) (sym (other-tickets s e other)) refers.0 in
    subst (λ threads. Refers (IsIn threads) (step s e).state) (sym (other-sizes s e other).2)
    (funded, λ u t is on. good.0 u t is (sym (ap (λ (l : Sizes). l.without_lending) (step-limits s e)) ∙ on), good.1)

-- ---- commands

-- who was there still is, once one more thread is made
in-more : (threads : List (Option ThreadRecord)) (free : List ℕ) (x : ThreadRecord) (t : ℕ) → IsIn threads t
    → IsIn (placed threads free (Some x)) t
in-more threads free x t here gone = from (number-placed threads free (Some x) t)
  where
    from : (at_number (placed threads free (Some x)) t ≡ at_number threads t)
        ⊎ (at_number (placed threads free (Some x)) t ≡ Some (Some x)) → ⊥
    from (inl same) = here (sym same ∙ gone)
    from (inr made) = let never : Some (Some x) ≡ Some None = sym made ∙ gone in cc

-- nothing leads to a node without an edge into it
unused : (f : Funding) (node : Node) → edge_count_into f node ≡ 0 → (edge : Edge) (from : Node)
    → ¬ (ends_of f edge ≡ Some (pair from node))
unused f node none edge from ends =
    let there : Contains (edges_into f node) edge = (into-once f node).all edge (from, ends) in
    absurd (omega (arith, there.1, edges-many f node, none))

refers-more : (s : State) (name : List ℕ) (script : ℕ) → RefersIn s → RefersIn (with_thread s name script)
refers-more s name script (funded, lent, owned) =
    let threads = placed s.threads (free_threads s) (Some (record { name = name; script = script })) in
    let more : (t : ℕ) → IsIn s.threads t → IsIn threads t =
    in-more s.threads (free_threads s) (record { name = name; script = script }) in (
      λ n ticket at t is. more t (funded n ticket at t is),
      lent-more (λ t. s.limits.without_lending ≡ false → IsIn threads t) s.records (free_threads s) newborn refl
          (λ u t is on. more t (lent u t is on)),
      λ m t mutex at is. more t (owned m t mutex at is),
    )

-- a dead thread goes to which nothing leads
refers-dropped : (s : State) (gone : ℕ) → status_of s.records gone ≡ Some status.Dead → edge_count_into (funding_of s)
    (Thread gone) ≡ 0 → RefersIn s → RefersIn (record s { threads = set_number s.threads gone None })
refers-dropped s gone dead none (funded, lent, owned) = (
  λ n ticket at t is. still t (funded n ticket at t is) (λ same. unused (funding_of s) (Thread gone) none (OfTicket n)
      (Currency ticket.issuer) (ticket-edge (funding_of s) n gone ticket at (is ∙ ap target.Thread same))),
  λ u t is on. still t (lent u t is on) (λ same. unused (funding_of s) (Thread gone) none (OfLender u) (Thread u)
      (lend-edge s u gone on (is ∙ ap (λ k. Some (status.Served k)) same))),
  λ m t mutex at is. still t (owned m t mutex at is) (λ same. unused (funding_of s) (Thread gone) none (OfMutex m)
      (MutexNode m) (owner-edge s m gone mutex at (is ∙ ap Some same))),
)
  where
    still : (t : ℕ) → IsIn s.threads t → ¬ (t ≡ gone) → IsIn (set_number s.threads gone None) t
    still t here other now = from (number-set s.threads gone None t)
      where
        from : (at_number (set_number s.threads gone None) t ≡ at_number s.threads t)
            ⊎ ((t ≡ suc (gone - 1)) × (at_number (set_number s.threads gone None) t ≡ Some None)) → ⊥
        from (inl same) = here (sym same ∙ now)
        from (inr (place, is)) = other (place ∙ status-number s.records gone status.Dead dead)

-- what the console changes
change-refers : (by : By) (s : State) → IsConsole by → Keeps by s RefersIn
change-refers by s console a (NewTicket t) (_, amount, room, none, issuer, may) (funded, lent, owned) =
    (each-placed (Funds (IsIn a.threads)) a.tickets (free_tickets a) t may.1 funded, lent, owned)
change-refers by s console a (DropTicket n) allowed (funded, lent, owned) =
    (each-put (Funds (IsIn a.threads)) a.tickets n None (λ t is. cc) funded, lent, owned)
change-refers by s console a (PutTicket n place) (_, keeps, (old, new, at, is, replaces)) (funded, lent, owned) =
    (each-put (Funds (IsIn a.threads)) a.tickets n place (λ t now. subst (Funds (IsIn a.threads)) (some-injective new t (sym is ∙ now)) (aimed replaces.aim)) funded, lent, owned)
  where
    aimed : (new.target ≡ old.target) ⊎ MayFund a new.target → Funds (IsIn a.threads) new
    aimed (inl same) t funds = funded n old at t (sym same ∙ funds)
    aimed (inr may) t funds = may.1 t funds
change-refers by s console a (NewThread t) allowed refers = refers-more a t.name t.script refers
change-refers by s console a (DropThread t) (_, dead, there, serves, none) refers = refers-dropped a t dead none refers
change-refers by s console a (PutRecord t r) allowed refers = absurd (allowed.mover console)
change-refers by s console a (PutMutex m x) allowed refers = absurd (allowed console)
change-refers by s console a c allowed refers = refers

-- ---- events and runs

event-refers : (s : State) (e : Event) → IsInOrder s → RefersIn s → RefersIn (step s e).state
event-refers s e order refers = at (is_console (by_event s e)) refl
  where
    at : (b : Bool) → is_console (by_event s e) ≡ b → RefersIn (step s e).state
    at true console = kept RefersIn (change-refers (by_event s e) s console) (step-leads s e) refers
    at false other = other-refers s e (λ console. let never : true ≡ false = sym console ∙ other in cc) order refers

pub event-edges : (s : State) (e : Event) → IsInOrder s → NothingLeadsToRemoved s
    → NothingLeadsToRemoved (step s e).state
event-edges s e order none = edges-from (step s e).state (event-refers s e order (refers-from s none))

run-edges : (s : State) (events : List Event) → IsInOrder s → NothingLeadsToRemoved s
    → NothingLeadsToRemoved (state_after s events)
run-edges s [] order none = none
run-edges s (e ∷ events) order none =
    run-edges (step s e).state events (step-order s e order) (event-edges s e order none)

none-removed : (limits : Sizes) → NothingLeadsToRemoved (opening limits)
none-removed limits zero gone = cc
none-removed limits (suc i) gone = let none : at_number {A = Option ThreadRecord} [] (suc i) ≡ None =
    at_number-suc [] i in let never : None ≡ Some None = sym none ∙ gone in cc

pub reachable-edges : (s : State) → IsReachable s → NothingLeadsToRemoved s
reachable-edges s (limits, events, bounds, is) = subst NothingLeadsToRemoved (sym is)
    (run-edges (opening limits) events (opening-order limits bounds) (none-removed limits))

-- ---- lists

module _ (s : State) (order : IsInOrder s) where
  -- nobody in a list of those who have a status is dead
  out : (now : Status) → ¬ (now ≡ status.Dead) → (threads : List ℕ) → IsQueue s.records now threads → (t : ℕ)
      → status_of s.records t ≡ Some status.Dead → ¬ Contains threads t
  out now lives threads queue t dead there =
      let (place, at) = place-in threads t there in
      lives (some-injective now status.Dead (sym (queue.each place t at) ∙ dead))

  pub dead-nowhere : (t : ℕ) → status_of s.records t ≡ Some status.Dead → StandsNowhere s t
  dead-nowhere t dead = record {
    dead = dead;
    receivers =
        λ p port at. out (status.Receiving p) (λ e. cc) port.receivers (order.queues.receivers p port at) t dead;
    callers = λ p port at. out (status.Queued p) (λ e. cc) (map (λ (call : QueuedCall). call.caller) port.calls)
        (order.queues.callers p port at) t dead;
    waiters = λ m mutex at. out (status.Waiting m) (λ e. cc) mutex.waiters (order.queues.waiters m mutex at) t dead;
    served = λ server clients at.
        out (status.Served server) (λ e. cc) clients (order.queues.served server clients at) t dead;
  }

pub stands-nowhere : (s : State) (t : ℕ) → IsInOrder s → IsRemoved s t → StandsNowhere s t
stands-nowhere s t order gone = dead-nowhere s order t (order.removed t gone)

-- ---- what comes later

-- the next new thread has another number: numbers aren't given again, or the event doesn't give this one
abbrev Elsewhere : State → ℕ → Type 0
Elsewhere s t = ¬ (slice_get (free_threads s) 0 ≡ Some (t - 1))

-- a gap stays one, and its record stays
abbrev StaysOut : State → ℕ → State → Type 0
StaysOut s t a = IsRemoved a t × (at_number a.records t ≡ at_number s.records t)

not-next : (s : State) (t : ℕ) → IsRemoved s t → (s.limits.reuse ≡ true → ¬ (next_thread s ≡ t)) → Elsewhere s t
not-next s t gone another = at s.limits.reuse refl
  where
    by : (free : List ℕ) → ¬ (next_place s.threads free + 1 ≡ t) → ¬ (slice_get free 0 ≡ Some (t - 1))
    by [] other first = cc
    by (place ∷ free) other first =
        let number : suc (t - 1) ≡ t = number-there s.threads t None gone in
        let same : place ≡ t - 1 = some-injective place (t - 1) first in
        other (omega (arith, number, same))

    at : (reuse : Bool) → s.limits.reuse ≡ reuse → Elsewhere s t
    at false once first = let never : None ≡ Some (t - 1) =
        sym (ap (λ b. slice_get (cond {A = List ℕ} b s.freed.threads []) 0) once) ∙ first in cc
    at true on first = by (free_threads s) (another on) first

made-out : (s : State) (name : List ℕ) (script t : ℕ) → IsInOrder s → IsRemoved s t → Elsewhere s t
    → StaysOut s t (with_thread s name script)
made-out s name script t order gone other =
    let (r, at, is) = record-of s.records t status.Dead (order.removed t gone) in
    (number-stays s.threads (free_threads s) (Some (record { name = name; script = script })) None t other gone, number-stays s.records (free_threads s) newborn r t other at ∙ sym at)

dropped-out : (s : State) (u t : ℕ) → IsRemoved s t → StaysOut s t (drop_thread s u)
dropped-out s u t gone = (from (number-set s.threads u None t), refl)
  where
    from : (at_number (set_number s.threads u None) t ≡ at_number s.threads t)
        ⊎ ((t ≡ suc (u - 1)) × (at_number (set_number s.threads u None) t ≡ Some None))
        → at_number (set_number s.threads u None) t ≡ Some None
    from (inl same) = same ∙ gone
    from (inr (place, is)) = is

-- the event doesn't give the number to a new thread
abbrev GivesAnother : State → Event → ℕ → Type 0
GivesAnother s e t = s.limits.reuse ≡ true → thread_given (step s e).reply ≢ Some t

-- the record of a thread that was dead at the start stays
change-dead : (by : By) (s : State) → ¬ IsConsole by → IsInOrder s → (t : ℕ) (r : Record)
    → status_of s.records t ≡ Some status.Dead → Keeps by s (λ a. at_number a.records t ≡ Some r)
change-dead by s other order t r dead a (NewThread x) allowed is = absurd (other allowed.0)
change-dead by s other order t r dead a (PutRecord u x) allowed is = from (number-set a.records u x t)
  where
    from : (at_number (set_number a.records u x) t ≡ at_number a.records t)
        ⊎ ((t ≡ suc (u - 1)) × (at_number (set_number a.records u x) t ≡ Some x))
        → at_number (set_number a.records u x) t ≡ Some r
    from (inl same) = same ∙ is
    from (inr (place, now)) =
        let there : t ≡ u = place ∙ number-there a.records u allowed.there.0 allowed.there.1 in
        absurd (allowed.alive order.queues (ap (status_of s.records) (sym there) ∙ dead))
change-dead by s other order t r dead a c allowed is = is

other-out : (s : State) (e : Event) (t : ℕ) → ¬ IsConsole (by_event s e) → IsInOrder s → IsRemoved s t
    → StaysOut s t (step s e).state
other-out s e t other order gone =
    let dead = order.removed t gone in
    let (r, at, is) = record-of s.records t status.Dead dead in
    let record_stays : at_number (step s e).state.records t ≡ Some r = kept (λ a. at_number a.records t ≡ Some r)
    (change-dead (by_event s e) s other order t r dead) (step-leads s e) at in
    (ap (λ (threads : List (Option ThreadRecord)). at_number threads t) (other-sizes s e other).2 ∙ gone, record_stays ∙ sym at)

command-out : (s : State) (c : Command) (t : ℕ) → IsInOrder s → IsRemoved s t → GivesAnother s (event.Command c) t
    → StaysOut s t (command_step s c).state
command-out s (MakeThread name script) t order gone another = by (command_refusal s (MakeThread name script)) another
  where
    by : (o : Option Refusal) → (s.limits.reuse ≡ true
        → thread_given (unless_refused s o (command_effect s (MakeThread name script))).reply ≢ Some t)
        → StaysOut s t (unless_refused s o (command_effect s (MakeThread name script))).state
    by (Some refusal) other = (gone, refl)
    by None other = made-out s name script t order gone (not-next s t gone (λ on same. other on (ap Some same)))
command-out s (MakeFunded amount currency name script) t order gone another =
    by (command_refusal s (MakeFunded amount currency name script)) another
  where
    by : (o : Option Refusal) → (s.limits.reuse ≡ true
        → thread_given (unless_refused s o (command_effect s (MakeFunded amount currency name script))).reply ≢ Some t)
        → StaysOut s t (unless_refused s o (command_effect s (MakeFunded amount currency name script))).state
    by (Some refusal) other = (gone, refl)
    by None other = made-out s name script t order gone (not-next s t gone (λ on same. other on (ap Some same)))
command-out s (RemoveThread thread) t order gone another =
    unrefused (StaysOut s t) s _ (command_effect s (RemoveThread thread)) (gone, refl)
    (λ _. dropped-out s (unwrap_or (thread_meant s thread) 0) t gone)
command-out s (Kill thread) t order gone another = other-out s (event.Command (Kill thread)) t (λ e. cc) order gone
command-out s other t order gone another =
    unrefused (StaysOut s t) s (command_refusal s other) (command_effect s other) (gone, refl) (λ _. (gone, refl))

event-out : (s : State) (e : Event) (t : ℕ) → IsInOrder s → IsRemoved s t → GivesAnother s e t
    → StaysOut s t (step s e).state
event-out s (event.Command command) t order gone another = command-out s command t order gone another
event-out s (event.Draw p d) t order gone another = other-out s (event.Draw p d) t (λ e. cc) order gone
event-out s (event.Expire p) t order gone another = other-out s (event.Expire p) t (λ e. cc) order gone
event-out s (event.Trap p ran action) t order gone another =
    other-out s (event.Trap p ran action) t (λ e. cc) order gone
event-out s (event.Preempt p ticks) t order gone another = other-out s (event.Preempt p ticks) t (λ e. cc) order gone
event-out s (event.Overrun p ticks) t order gone another = other-out s (event.Overrun p ticks) t (λ e. cc) order gone
event-out s (event.Wake v) t order gone another = other-out s (event.Wake v) t (λ e. cc) order gone

run-out : (s : State) (events : List Event) (t : ℕ) → IsInOrder s → IsRemoved s t
    → (s.limits.reuse ≡ true → IsNotGiven s events t) → StaysOut s t (state_after s events)
run-out s [] t order gone another = (gone, refl)
run-out s (e ∷ events) t order gone another =
    let (out, same) = event-out s e t order gone
    (λ on. All-head (λ r. thread_given r ≢ Some t) (step s e).reply (replies (step s e).state events) (another on)) in
    let (later, also) = run-out (step s e).state events t (step-order s e order) out
    (λ on. All-tail (λ r. thread_given r ≢ Some t) (step s e).reply (replies (step s e).state events)
    (another (sym (ap (λ (limits : Sizes). limits.reuse) (step-limits s e)) ∙ on))) in
    (later, also ∙ same)

pub stays-removed : (s : State) (events : List Event) (t : ℕ) → IsInOrder s → IsRemoved s t
    → (s.limits.reuse ≡ true → IsNotGiven s events t) → IsRemoved (state_after s events) t
stays-removed s events t order gone another = (run-out s events t order gone another).0

pub record-stays : (s : State) (events : List Event) (t : ℕ) → IsInOrder s → IsRemoved s t
    → (s.limits.reuse ≡ true → IsNotGiven s events t)
    → at_number (state_after s events).records t ≡ at_number s.records t
record-stays s events t order gone another = (run-out s events t order gone another).1
