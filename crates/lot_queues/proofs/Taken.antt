-- A thread taken from a queue.
use Rattle.lot_queues.proofs.Common.{Bool, Contains, Fields, IfNone, IfSome, IsConsistent, IsFree, IsListed, IsNowhere, IsThere, IsTrue, IsWaiter, List, Mutex, NodeLists, None, Option, QueueLists, QueuedCall, Some, TakenCall, ap, ap₂, arith, at_number, at_number-suc, call_of, calls_list, cases_lt, clients_of, drop, false, get_or_from_slice_get, inl, inr, is_some, length, map, mutex_at, node_at, nodes_of, not, option_map, port_at, receivers_list, refl, relisted, remove, set_number, slice_get, slice_get-map, slice_get_past, slice_get_read, slice_get_within, some-injective, subst, suc, sym, threads_in, true, unwrap_or, waiters_list, with_calls, with_receivers, with_removed, with_waiters, zero, ℕ, [], ◌+◌, ◌-◌, ◌<◌, ◌^◌, ◌∙◌, ◌≡◌, ◌≤◌}
use Rattle.lot_queues.proofs.Elements.{contains-drop, contains-remove, contains-node, map-drop, map-remove}
use Rattle.lot_queues.proofs.Nowhere.{away-to, away-less}
use Rattle.lot_queues.proofs.Changed.{with_lists, relisted-within}
use Rattle.lot_queues.proofs.Holds.{Holds, away, free, nowhere, there, waiters-below, calls-are, receivers-are, waiters-are, clients-are, set-calls, set-receivers, set-waiters, set-clients}

-- ---- what was taken

pub first-thread : (lists : NodeLists) (list number : ℕ) (o r : Option ℕ) (threads : List ℕ) → o ≡ node_at lists list 0
    → r ≡ option_map (λ n. n + 1) o → list ≡ number → threads ≡ threads_in lists number → r ≡ slice_get threads 0
first-thread lists list number o r threads o_is r_is list_is threads_are =
    r_is ∙ ap (option_map (λ n. n + 1)) o_is ∙ sym (slice_get-map (λ n. n + 1) (nodes_of lists list) 0)
    ∙ ap (λ (ts : List ℕ). slice_get ts 0) (ap (threads_in lists) list_is ∙ sym threads_are)

pub first-call : (lists : NodeLists) (sent read : List ℕ) (list number : ℕ) (o : Option ℕ) (r : Option QueuedCall)
    (calls : List QueuedCall) → read ≡ sent → o ≡ node_at lists list 0 → r ≡ option_map (call_of read) o → list ≡ number
    → calls ≡ map (call_of sent) (nodes_of lists number) → r ≡ slice_get calls 0
first-call lists sent read list number o r calls read_is o_is r_is list_is calls_are =
    r_is ∙ ap₂ (λ (xs : List ℕ) (x : Option ℕ). option_map (call_of xs) x) read_is o_is
    ∙ sym (slice_get-map (call_of sent) (nodes_of lists list) 0)
    ∙ ap (λ (cs : List QueuedCall). slice_get cs 0)
    (ap (λ k. map (call_of sent) (nodes_of lists k)) list_is ∙ sym calls_are)

-- of a call, what holds of its caller
of-caller : (P : ℕ → Type 0) (r : Option TakenCall) → IfSome (option_map (λ (call : TakenCall). call.caller) r) P
    → IfSome r (λ call. P call.caller)
of-caller P None h = tt
of-caller P (Some call) h = h

module _ {f : Fields} {q : QueueLists} (held : Holds f q) where
  pub node-made : (list place node : ℕ) → node_at f.lists list place ≡ Some node → node < f.threads
  node-made list place node at =
      held.laid.made list node
      (place, slice_get_within (nodes_of f.lists list) place node at, get_or_from_slice_get (nodes_of f.lists list) place node node at)

  pub fits : (list : ℕ) (o : Option ℕ) → o ≡ node_at f.lists list 0 → IfSome o (λ n. n + 1 < 2 ^ 32)
  fits list None is = tt
  fits list (Some n) is =
      omega (arith, node-made list 0 n (sym is), held.laid.threads, held.laid.nodes, held.laid.consistent.numbered)

  pub has-sent : (list : ℕ) (o : Option ℕ) (sent : List ℕ) → sent ≡ f.sent → o ≡ node_at f.lists list 0
      → IfSome o (λ n. n < length sent)
  has-sent list None sent sent_is is = tt
  has-sent list (Some n) sent sent_is is =
      omega (arith, ap (length {A = ℕ}) sent_is, node-made list 0 n (sym is), held.laid.threads, held.laid.sent)

  -- whether no list has the thread
  pub nowhere-test : (t node : ℕ) (o : Option ℕ) (test : Bool) → IsThere q.clients t → node ≡ t - 1
      → is_some o ≡ not test → IfSome o (λ list. Contains (nodes_of f.lists list) node) → IfNone o (IsFree f.lists node)
      → (IsTrue test → IsNowhere q t) × (IsNowhere q t → IsTrue test)
  nowhere-test t node None true within node_is test_is found none =
      (λ yes. nowhere held t (away-to f.lists t node (omega (arith, node_is, within.0)) none), λ stands. refl)
  nowhere-test t node None false within node_is test_is found none = cc
  nowhere-test t node (Some list) true within node_is test_is found none = cc
  nowhere-test t node (Some list) false within node_is test_is found none =
      (λ yes. cc, λ stands. absurd (free held t node within node_is stands list found))

  -- ---- the first is taken

  pub take-call : (p list : ℕ) (w : NodeLists) → IsThere q.ports p → list ≡ calls_list f.layout p
      → w ≡ relisted f.lists list (drop 1 (nodes_of f.lists list)) → IsConsistent w
      → Holds (with_lists f w) (record q { ports = with_calls q.ports p (drop 1 (port_at q.ports p).calls) })
  take-call p list w port_there list_is is consistent =
      subst (λ (v : NodeLists).
      Holds (with_lists f v) (record q { ports = with_calls q.ports p (drop 1 (port_at q.ports p).calls) })) (sym is)
      (set-calls held p list (drop 1 (nodes_of f.lists list)) (drop 1 (port_at q.ports p).calls) port_there list_is
      (ap (drop 1) (calls-are held p port_there ∙ ap (λ k. map (call_of f.sent) (nodes_of f.lists k)) (sym list_is))
      ∙ sym (map-drop (call_of f.sent) (nodes_of f.lists list))) (subst IsConsistent is consistent)
      (λ n c. held.laid.made list n (contains-drop (nodes_of f.lists list) 1 n c)))

  pub take-receiver : (p list : ℕ) (w : NodeLists) → IsThere q.ports p → list ≡ receivers_list f.layout p
      → w ≡ relisted f.lists list (drop 1 (nodes_of f.lists list)) → IsConsistent w
      → Holds (with_lists f w) (record q { ports = with_receivers q.ports p (drop 1 (port_at q.ports p).receivers) })
  take-receiver p list w port_there list_is is consistent =
      subst (λ (v : NodeLists). Holds (with_lists f v)
      (record q { ports = with_receivers q.ports p (drop 1 (port_at q.ports p).receivers) })) (sym is)
      (set-receivers held p list (drop 1 (nodes_of f.lists list))
      (drop 1 (port_at q.ports p).receivers) port_there list_is
      (ap (drop 1) (receivers-are held p port_there ∙ ap (threads_in f.lists) (sym list_is))
      ∙ sym (map-drop (λ n. n + 1) (nodes_of f.lists list))) (subst IsConsistent is consistent)
      (λ n c. held.laid.made list n (contains-drop (nodes_of f.lists list) 1 n c)))

  pub take-client : (server list : ℕ) (w : NodeLists) → IsThere q.clients server → list ≡ server - 1
      → w ≡ relisted f.lists list (drop 1 (nodes_of f.lists list)) → IsConsistent w
      → Holds (with_lists f w)
      (record q { clients = set_number q.clients server (drop 1 (clients_of q.clients server)) })
  take-client server list w server_there list_is is consistent =
      subst (λ (v : NodeLists). Holds (with_lists f v)
      (record q { clients = set_number q.clients server (drop 1 (clients_of q.clients server)) })) (sym is)
      (set-clients held server list (drop 1 (nodes_of f.lists list))
      (drop 1 (clients_of q.clients server)) server_there list_is
      (ap (drop 1) (clients-are held server server_there ∙ ap (threads_in f.lists) (sym list_is))
      ∙ sym (map-drop (λ n. n + 1) (nodes_of f.lists list))) (subst IsConsistent is consistent)
      (λ n c. held.laid.made list n (contains-drop (nodes_of f.lists list) 1 n c)))

  pub first-within : (list : ℕ) (w : NodeLists) → list < length f.lists.lists
      → w ≡ relisted f.lists list (drop 1 (nodes_of f.lists list))
      → (other node : ℕ) → Contains (nodes_of w other) node → Contains (nodes_of f.lists other) node
  first-within list w below is other node c =
      relisted-within f.lists list (drop 1 (nodes_of f.lists list)) below (λ n d. contains-drop
      (nodes_of f.lists list) 1 n d) other node (subst (λ (v : NodeLists). Contains (nodes_of v other) node) is c)

  -- the first thread of a list is there
  pub first-there : (list : ℕ) (o t : Option ℕ) → o ≡ node_at f.lists list 0 → t ≡ option_map (λ n. n + 1) o
      → IfSome t (IsThere q.clients)
  first-there list None t o_is t_is = subst (λ (x : Option ℕ). IfSome x (IsThere q.clients)) (sym t_is) tt
  first-there list (Some n) t o_is t_is = subst (λ (x : Option ℕ). IfSome x (IsThere q.clients)) (sym t_is)
      (there held (n + 1) (omega arith) (omega (arith, node-made list 0 n (sym o_is))))

  -- ---- what holds then, if the fields `with_lists f w` hold r

  module _ {w : NodeLists} {r : QueueLists} (after : Holds (with_lists f w) r) where
    pub taken-there : (list : ℕ) (o t : Option ℕ) → o ≡ node_at f.lists list 0 → t ≡ option_map (λ n. n + 1) o
        → IfSome t (IsThere r.clients)
    taken-there list None t o_is t_is = subst (λ (x : Option ℕ). IfSome x (IsThere r.clients)) (sym t_is) tt
    taken-there list (Some n) t o_is t_is = subst (λ (x : Option ℕ). IfSome x (IsThere r.clients)) (sym t_is)
        (there after (n + 1) (omega arith) (omega (arith, node-made list 0 n (sym o_is))))

    pub taken-nowhere : (o t : Option ℕ) → t ≡ option_map (λ n. n + 1) o → IfSome o (IsFree w) → IfSome t (IsNowhere r)
    taken-nowhere None t t_is free = subst (λ (x : Option ℕ). IfSome x (IsNowhere r)) (sym t_is) tt
    taken-nowhere (Some n) t t_is free = subst (λ (x : Option ℕ). IfSome x (IsNowhere r)) (sym t_is)
        (nowhere after (n + 1) (away-to w (n + 1) n refl free))

    pub caller-there : (list : ℕ) (o : Option ℕ) (call : Option TakenCall) → o ≡ node_at f.lists list 0
        → option_map (λ (c : TakenCall). c.caller) call ≡ option_map (λ n. n + 1) o
        → IfSome call (λ c. IsThere r.clients c.caller)
    caller-there list o call o_is call_is = of-caller (IsThere r.clients) call
        (taken-there list o (option_map (λ (c : TakenCall). c.caller) call) o_is call_is)

    pub caller-nowhere : (o : Option ℕ) (call : Option TakenCall) → option_map (λ (c : TakenCall). c.caller) call
        ≡ option_map (λ n. n + 1) o → IfSome o (IsFree w) → IfSome call (λ c. IsNowhere r c.caller)
    caller-nowhere o call call_is free =
        of-caller (IsNowhere r) call (taken-nowhere o (option_map (λ (c : TakenCall). c.caller) call) call_is free)

    pub others-nowhere : ((list node : ℕ) → Contains (nodes_of w list) node → Contains (nodes_of f.lists list) node)
        → (t : ℕ) → IsNowhere q t → IsNowhere r t
    others-nowhere within t before = nowhere after t (away-less f.lists w within t (away held t before))

  -- ---- a waiter is taken

  -- a mutex that has waiters is there
  waited-for : (mutexes : List Mutex) (m place t : ℕ) → slice_get (mutex_at mutexes m).waiters place ≡ Some t
      → IsThere mutexes m
  waited-for mutexes zero place t at = cc
  waited-for mutexes (suc i) place t at = elim (cases_lt i (length mutexes)) [
    | inl low ↦ (omega arith, omega (arith, low))
    | inr high ↦
        let none : at_number mutexes (suc i) ≡ None = at_number-suc mutexes i ∙ slice_get_past mutexes i high in
        let nobody : slice_get {X = ℕ} [] place ≡ Some t = ap (λ (x : Option Mutex).
        slice_get (unwrap_or x (record { owner = None; waiters = [] })).waiters place) (sym none) ∙ at in
        absurd (impossible place t nobody)
  ]
    where
      impossible : (place t : ℕ) → slice_get {X = ℕ} [] place ≡ Some t → ⊥
      impossible place t e = cc

  node-of : (nodes : List ℕ) (place t : ℕ) → slice_get (map (λ n. n + 1) nodes) place ≡ Some t
      → slice_get nodes place ≡ Some (t - 1)
  node-of nodes place t at = from (slice_get nodes place) refl (sym (slice_get-map (λ n. n + 1) nodes place) ∙ at)
    where
      from : (o : Option ℕ) → slice_get nodes place ≡ o → option_map (λ n. n + 1) o ≡ Some t
          → slice_get nodes place ≡ Some (t - 1)
      from None is e = cc
      from (Some n) is e = let same = some-injective (n + 1) t e in is ∙ ap Some (omega (arith, same))

  pub waits-at : (m place t node : ℕ) → slice_get (mutex_at q.mutexes m).waiters place ≡ Some t → node ≡ t - 1
      → node_at f.lists (waiters_list f.layout m) place ≡ Some node
  waits-at m place t node at is =
      node-of (nodes_of f.lists (waiters_list f.layout m)) place t (ap (λ (ts : List ℕ). slice_get ts place)
      (sym (waiters-are held m (waited-for q.mutexes m place t at))) ∙ at) ∙ ap Some (sym is)

  place-of : (t : ℕ) (waits : IsWaiter q.mutexes t)
      → slice_get (mutex_at q.mutexes waits.mutex).waiters waits.waits.0 ≡ Some t
  place-of t waits = slice_get_read (mutex_at q.mutexes waits.mutex).waiters
      (length (mutex_at q.mutexes waits.mutex).waiters) waits.waits.0 t refl waits.waits.1 (sym waits.waits.2)

  pub waiter-there : (t : ℕ) → IsWaiter q.mutexes t → (0 < t) × (t ≤ f.threads)
  waiter-there t waits =
      let at = place-of t waits in
      let made = node-made (waiters_list f.layout waits.mutex) waits.waits.0 (t - 1)
      (waits-at waits.mutex waits.waits.0 t (t - 1) at refl) in
      let contains = subst (λ (ts : List ℕ). Contains ts t)
      (waiters-are held waits.mutex (waited-for q.mutexes waits.mutex waits.waits.0 t at)) waits.waits in
      ((contains-node (nodes_of f.lists (waiters_list f.layout waits.mutex)) t contains).0, omega (arith, made))

  pub waiter-listed : (t node : ℕ) → IsWaiter q.mutexes t → node ≡ t - 1 → IsListed f.lists node
  waiter-listed t node waits is =
      let list = waiters_list f.layout waits.mutex in
      let at = waits-at waits.mutex waits.waits.0 t node (place-of t waits) is in
      record { list = list; contains = (waits.waits.0, slice_get_within (nodes_of f.lists list) waits.waits.0 node at, get_or_from_slice_get (nodes_of f.lists list) waits.waits.0 node node at) }

  pub take-waiter : (m place t node : ℕ) (w : NodeLists) → slice_get (mutex_at q.mutexes m).waiters place ≡ Some t
      → node ≡ t - 1 → ((list at : ℕ) → node_at f.lists list at ≡ Some node → w ≡ with_removed f.lists list at)
      → IsConsistent w
      → Holds (with_lists f w)
      (record q { mutexes = with_waiters q.mutexes m (remove (mutex_at q.mutexes m).waiters place) })
  take-waiter m place t node w at node_is removed consistent =
      let list = waiters_list f.layout m in
      let mutex_there = waited-for q.mutexes m place t at in
      let is = removed list place (waits-at m place t node at node_is) in
      subst (λ (v : NodeLists). Holds (with_lists f v)
      (record q { mutexes = with_waiters q.mutexes m (remove (mutex_at q.mutexes m).waiters place) })) (sym is)
      (set-waiters held m list (remove (nodes_of f.lists list) place)
      (remove (mutex_at q.mutexes m).waiters place) mutex_there refl
      (ap (λ (ts : List ℕ). remove ts place) (waiters-are held m mutex_there)
      ∙ sym (map-remove (λ n. n + 1) (nodes_of f.lists list) place)) (subst IsConsistent is consistent)
      (λ n c. held.laid.made list n (contains-remove (nodes_of f.lists list) place n c)))

  -- who waits, taken from the place where it does
  pub taken-waiter : (t node : ℕ) (w : NodeLists) (waits : IsWaiter q.mutexes t) → node ≡ t - 1
      → ((list at : ℕ) → node_at f.lists list at ≡ Some node → w ≡ with_removed f.lists list at) → IsConsistent w
      → Holds (with_lists f w)
      (record q { mutexes = with_waiters q.mutexes waits.mutex (remove (mutex_at q.mutexes waits.mutex).waiters waits.waits.0) })
  taken-waiter t node w waits is removed consistent =
      take-waiter waits.mutex waits.waits.0 t node w (place-of t waits) is removed consistent

  pub waiter-within : (t node : ℕ) (w : NodeLists) (waits : IsWaiter q.mutexes t) → node ≡ t - 1
      → ((list at : ℕ) → node_at f.lists list at ≡ Some node → w ≡ with_removed f.lists list at)
      → (other n : ℕ) → Contains (nodes_of w other) n → Contains (nodes_of f.lists other) n
  waiter-within t node w waits node_is removed other n c =
      let list = waiters_list f.layout waits.mutex in
      let place = waits.waits.0 in
      let at = place-of t waits in
      let is = removed list place (waits-at waits.mutex place t node at node_is) in
      relisted-within f.lists list (remove (nodes_of f.lists list) place)
      (waiters-below held waits.mutex list (waited-for q.mutexes waits.mutex place t at) refl)
      (λ k d. contains-remove (nodes_of f.lists list) place k d) other n
      (subst (λ (v : NodeLists). Contains (nodes_of v other) n) is c)
