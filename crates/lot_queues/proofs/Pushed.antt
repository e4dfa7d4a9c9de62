-- A thread added at the end of a queue.
use Rattle.lot_queues.proofs.Common.{Contains, Contains-push_cases, Fields, IsConsistent, IsFree, IsNowhere, IsThere, List, NodeLists, QueueLists, QueuedCall, ap, ap₂, arith, call_of, calls_list, clients_of, get_or-set_same, inl, inr, length-set, map, mutex_at, nodes_of, port_at, receivers_list, set, slice_index, subst, sym, threads_in, waiters_list, with_calls, with_client, with_pushed, with_receivers, with_waiters, ℕ, [], ◌++◌, ◌+◌, ◌-◌, ◌<◌, ◌∙◌, ◌∷◌, ◌≡◌}
use Rattle.lot_queues.proofs.Elements.{map-push}
use Rattle.lot_queues.proofs.Changed.{with_lists, sent-kept}
use Rattle.lot_queues.proofs.Holds.{Holds, in-threads, node-below, free, calls-are, receivers-are, waiters-are, clients-are, set-calls, set-receivers, set-waiters, set-clients}

-- the call with this caller and this number
same-call : (t node number sent : ℕ) → node + 1 ≡ t → sent ≡ number
    → let old : QueuedCall = record { caller = node + 1; number = sent } in
    let new : QueuedCall = record { caller = t; number = number } in old ≡ new
same-call t node number sent caller is =
    ap₂ (λ (x y : ℕ). let call : QueuedCall = record { caller = x; number = y } in call) caller is

module _ {f : Fields} {q : QueueLists} (held : Holds f q) where
  pushed-made : (list t node : ℕ) → IsThere q.clients t → node ≡ t - 1 → (n : ℕ)
      → Contains (nodes_of f.lists list ++ node ∷ []) n → n < f.threads
  pushed-made list t node there is n w = elim (Contains-push_cases (nodes_of f.lists list) node n w) [
    | inl before ↦ held.laid.made list n before
    | inr new ↦ let within = in-threads held t there in omega (arith, new, is, within.0, within.1)
  ]

  pushed-threads : (list number t node : ℕ) (threads : List ℕ) → list ≡ number → threads ≡ threads_in f.lists number
      → 0 < t → node ≡ t - 1 → threads ++ t ∷ [] ≡ map (λ n. n + 1) (nodes_of f.lists list ++ node ∷ [])
  pushed-threads list number t node threads list_is threads_are first node_is =
      let next : node + 1 ≡ t = omega (arith, node_is, first) in
      sym (map-push (λ n. n + 1) (nodes_of f.lists list) node
      ∙ ap₂ (λ (xs : List ℕ) (x : ℕ). xs ++ x ∷ []) (ap (threads_in f.lists) list_is ∙ sym threads_are) next)

  pub push-receiver : (p t list node : ℕ) (w : NodeLists) → IsThere q.ports p → IsThere q.clients t
      → list ≡ receivers_list f.layout p → node ≡ t - 1 → w ≡ with_pushed f.lists list node → IsConsistent w
      → Holds (with_lists f w) (record q { ports = with_receivers q.ports p ((port_at q.ports p).receivers ++ t ∷ []) })
  push-receiver p t list node w port_there there list_is node_is is consistent =
      subst (λ (v : NodeLists). Holds (with_lists f v)
      (record q { ports = with_receivers q.ports p ((port_at q.ports p).receivers ++ t ∷ []) })) (sym is)
      (set-receivers held p list (nodes_of f.lists list ++ node ∷ [])
      ((port_at q.ports p).receivers ++ t ∷ []) port_there list_is
      (pushed-threads list (receivers_list f.layout p) t node (port_at q.ports p).receivers list_is (receivers-are held
      p port_there) there.0 node_is) (subst IsConsistent is consistent) (pushed-made list t node there node_is))

  pub push-waiter : (m t list node : ℕ) (w : NodeLists) → IsThere q.mutexes m → IsThere q.clients t
      → list ≡ waiters_list f.layout m → node ≡ t - 1 → w ≡ with_pushed f.lists list node → IsConsistent w
      → Holds (with_lists f w)
      (record q { mutexes = with_waiters q.mutexes m ((mutex_at q.mutexes m).waiters ++ t ∷ []) })
  push-waiter m t list node w mutex_there there list_is node_is is consistent =
      subst (λ (v : NodeLists). Holds (with_lists f v)
      (record q { mutexes = with_waiters q.mutexes m ((mutex_at q.mutexes m).waiters ++ t ∷ []) })) (sym is)
      (set-waiters held m list (nodes_of f.lists list ++ node ∷ [])
      ((mutex_at q.mutexes m).waiters ++ t ∷ []) mutex_there list_is
      (pushed-threads list (waiters_list f.layout m) t node (mutex_at q.mutexes m).waiters list_is (waiters-are held m
      mutex_there) there.0 node_is) (subst IsConsistent is consistent) (pushed-made list t node there node_is))

  pub push-client : (server t list node : ℕ) (w : NodeLists) → IsThere q.clients server → IsThere q.clients t
      → list ≡ server - 1 → node ≡ t - 1 → w ≡ with_pushed f.lists list node → IsConsistent w
      → Holds (with_lists f w) (record q { clients = with_client q.clients server t })
  push-client server t list node w server_there there list_is node_is is consistent =
      subst (λ (v : NodeLists). Holds (with_lists f v) (record q { clients = with_client q.clients server t })) (sym is)
      (set-clients held server list (nodes_of f.lists list ++ node ∷ [])
      (clients_of q.clients server ++ t ∷ []) server_there list_is
      (pushed-threads list (server - 1) t node (clients_of q.clients server) list_is (clients-are held server
      server_there) there.0 node_is) (subst IsConsistent is consistent) (pushed-made list t node there node_is))

  -- the number is noted
  note-number : (node number : ℕ) → IsFree f.lists node → Holds (record f { sent = set f.sent node number }) q
  note-number node number none = record {
    laid = record {
      consistent = held.laid.consistent;
      nodes = held.laid.nodes;
      lists = held.laid.lists;
      sent = length-set f.sent node number ∙ held.laid.sent;
      owners = held.laid.owners;
      threads = held.laid.threads;
      made = held.laid.made;
      unused = held.laid.unused;
    };
    is = sent-kept f node number none ∙ held.is;
  }

  pub push-call : (p t number list node : ℕ) (w : NodeLists) → IsThere q.ports p → IsThere q.clients t → IsNowhere q t
      → list ≡ calls_list f.layout p → node ≡ t - 1 → w ≡ with_pushed f.lists list node → IsConsistent w
      → Holds (record f { lists = w; sent = set f.sent node number })
      (record q { ports = with_calls q.ports p ((port_at q.ports p).calls ++ record { caller = t; number = number } ∷ []) })
  push-call p t number list node w port_there there nowhere list_is node_is is consistent =
      let noted = note-number node number (free held t node there node_is nowhere) in
      let sent = set f.sent node number in
      let below = node-below held t node there node_is in
      let same = same-call t node number (slice_index sent node) (omega (arith, node_is, there.0))
      (get_or-set_same f.sent node number 0 (omega (arith, below, held.laid.nodes, held.laid.sent))) in
      subst (λ (v : NodeLists). Holds (record f { lists = v; sent = set f.sent node number })
      (record q { ports = with_calls q.ports p ((port_at q.ports p).calls ++ record { caller = t; number = number } ∷ []) })) (sym is)
      (set-calls noted p list (nodes_of f.lists list ++ node ∷ [])
      ((port_at q.ports p).calls ++ record { caller = t; number = number } ∷ []) port_there list_is
      (sym (map-push (call_of sent) (nodes_of f.lists list) node
      ∙ ap₂ (λ (xs : List QueuedCall) (x : QueuedCall). xs ++ x ∷ [])
      (ap (λ k. map (call_of sent) (nodes_of f.lists k)) list_is ∙ sym (calls-are noted p port_there)) same))
      (subst IsConsistent is consistent) (pushed-made list t node there node_is))
