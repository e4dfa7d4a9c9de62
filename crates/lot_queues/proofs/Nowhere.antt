-- Each queue is one of the lists, so a thread in no queue is in no list, and the other way round.
use Rattle.lot_queues.proofs.Common.{Contains, Fields, IsFree, IsLaidOut, IsNowhere, IsThere, List, Mutex, NodeLists, None, Option, Port, QueuedCall, ap, arith, callers_at, calls_list, cases_lt, clients_in, clients_of, get_or_past, inl, inr, length, map, mutex_at, mutex_in, nodes_of, port_at, port_in, receivers_list, refl, subst, suc, sym, threads_in, unwrap_or, waiters_list, zero, ℕ, [], ◌+◌, ◌-◌, ◌<◌, ◌∙◌, ◌≡◌, ◌≤◌, ◌⊎◌}
use Rattle.lot_queues.specs.Fields.{seen}
use Rattle.lot_queues.proofs.Elements.{contains-nothing, contains-thread, contains-node, callers}
use Rattle.lot_queues.proofs.Tables.{table-length, table-at, table-past}

-- the thread is in no list
abbrev pub IsAway : NodeLists → ℕ → Type 0
IsAway lists t = (list : ℕ) → ¬ Contains (threads_in lists list) t

pub free-from : (lists : NodeLists) (t node : ℕ) → 0 < t → node ≡ t - 1 → IsAway lists t → IsFree lists node
free-from lists t node first is away list w =
    let same : node + 1 ≡ t = omega (arith, is, first) in
    away list (subst (Contains (threads_in lists list)) same (contains-thread (nodes_of lists list) node w))

pub away-to : (lists : NodeLists) (t node : ℕ) → t ≡ node + 1 → IsFree lists node → IsAway lists t
away-to lists t node is free list w =
    let same : t - 1 ≡ node = omega (arith, is) in
    free list (subst (Contains (nodes_of lists list)) same (contains-node (nodes_of lists list) t w).1)

-- lists that contain no more
pub away-less : (lists less : NodeLists)
    → ((list node : ℕ) → Contains (nodes_of less list) node → Contains (nodes_of lists list) node) → (t : ℕ)
    → IsAway lists t → IsAway less t
away-less lists less within t away list w =
    let node = contains-node (nodes_of less list) t w in
    let same : t - 1 + 1 ≡ t = omega (arith, node.0) in
    away list (subst (Contains (threads_in lists list)) same
    (contains-thread (nodes_of lists list) (t - 1) (within list (t - 1) node.1)))

number-cases : (n k : ℕ) → ((0 < k) × (k ≤ n)) ⊎ ((k ≡ 0) ⊎ (n < k))
number-cases n zero = inr (inl refl)
number-cases n (suc i) = elim (cases_lt n (suc i)) [
  | inl past ↦ inr (inr past)
  | inr within ↦ inl (omega arith, within)
]

-- ---- where each queue is

pub there-port : (f : Fields) (p : ℕ) → IsThere (seen f).ports p → (0 < p) × (p ≤ f.layout.ports)
unfolding seen
there-port f p there = (there.0, omega (arith, there.1, table-length (port_in f) f.layout.ports))

pub there-mutex : (f : Fields) (m : ℕ) → IsThere (seen f).mutexes m → (0 < m) × (m ≤ f.layout.mutexes)
unfolding seen
there-mutex f m there = (there.0, omega (arith, there.1, table-length (mutex_in f) f.layout.mutexes))

pub there-thread : (f : Fields) (t : ℕ) → IsThere (seen f).clients t → (0 < t) × (t ≤ f.threads)
unfolding seen
there-thread f t there = (there.0, omega (arith, there.1, table-length (clients_in f) f.threads))

pub thread-there : (f : Fields) (t : ℕ) → 0 < t → t ≤ f.threads → IsThere (seen f).clients t
unfolding seen
thread-there f t first last = (first, omega (arith, last, table-length (clients_in f) f.threads))

pub port-at : (f : Fields) (p : ℕ) → (0 < p) × (p ≤ f.layout.ports) → port_at (seen f).ports p ≡ port_in f p
unfolding seen
port-at f p there = ap (λ (o : Option Port). unwrap_or o (record { calls = []; receivers = [] }))
    (table-at (port_in f) f.layout.ports p there.0 there.1)

pub mutex-at : (f : Fields) (m : ℕ) → (0 < m) × (m ≤ f.layout.mutexes) → mutex_at (seen f).mutexes m ≡ mutex_in f m
unfolding seen
mutex-at f m there = ap (λ (o : Option Mutex). unwrap_or o (record { owner = None; waiters = [] }))
    (table-at (mutex_in f) f.layout.mutexes m there.0 there.1)

pub clients-at : (f : Fields) (t : ℕ) → (0 < t) × (t ≤ f.threads) → clients_of (seen f).clients t ≡ clients_in f t
unfolding seen
clients-at f t there =
    ap (λ (o : Option (List ℕ)). unwrap_or o []) (table-at (clients_in f) f.threads t there.0 there.1)

port-past : (f : Fields) (p : ℕ) → (p ≡ 0) ⊎ (f.layout.ports < p)
    → port_at (seen f).ports p ≡ record { calls = []; receivers = [] }
unfolding seen
port-past f p (inl none) = rw none refl
port-past f p (inr past) = ap (λ (o : Option Port). unwrap_or o (record { calls = []; receivers = [] }))
    (table-past (port_in f) f.layout.ports p past)

mutex-past : (f : Fields) (m : ℕ) → (m ≡ 0) ⊎ (f.layout.mutexes < m)
    → mutex_at (seen f).mutexes m ≡ record { owner = None; waiters = [] }
unfolding seen
mutex-past f m (inl none) = rw none refl
mutex-past f m (inr past) = ap (λ (o : Option Mutex). unwrap_or o (record { owner = None; waiters = [] }))
    (table-past (mutex_in f) f.layout.mutexes m past)

clients-past : (f : Fields) (t : ℕ) → (t ≡ 0) ⊎ (f.threads < t) → clients_of (seen f).clients t ≡ []
unfolding seen
clients-past f t (inl none) = rw none refl
clients-past f t (inr past) = ap (λ (o : Option (List ℕ)). unwrap_or o []) (table-past (clients_in f) f.threads t past)

pub callers-at : (f : Fields) (p : ℕ) → (0 < p) × (p ≤ f.layout.ports)
    → callers_at (seen f).ports p ≡ threads_in f.lists (calls_list f.layout p)
callers-at f p there =
    ap (λ (port : Port). map (λ (call : QueuedCall). call.caller) port.calls) (port-at f p there)
    ∙ callers f.sent (nodes_of f.lists (calls_list f.layout p))

-- ---- standing nowhere

pub nowhere-from : (f : Fields) (t : ℕ) → IsAway f.lists t → IsNowhere (seen f) t
nowhere-from f t away = record {
  calls = λ p w. call p w (number-cases f.layout.ports p);
  receivers = λ p w. receiver p w (number-cases f.layout.ports p);
  waiters = λ m w. waiter m w (number-cases f.layout.mutexes m);
  clients = λ server w. client server w (number-cases f.threads server);
}
  where
    in_list : (threads : List ℕ) (list : ℕ) → threads ≡ threads_in f.lists list → Contains threads t → ⊥
    in_list threads list is w = away list (subst (λ (ts : List ℕ). Contains ts t) is w)

    in_none : (threads : List ℕ) → threads ≡ [] → Contains threads t → ⊥
    in_none threads is w = contains-nothing t (subst (λ (ts : List ℕ). Contains ts t) is w)

    call : (p : ℕ) → Contains (callers_at (seen f).ports p) t
        → ((0 < p) × (p ≤ f.layout.ports)) ⊎ ((p ≡ 0) ⊎ (f.layout.ports < p)) → ⊥
    call p w (inl there) = in_list (callers_at (seen f).ports p) (calls_list f.layout p) (callers-at f p there) w
    call p w (inr past) = in_none (callers_at (seen f).ports p)
        (ap (λ (port : Port). map (λ (c : QueuedCall). c.caller) port.calls) (port-past f p past)) w

    receiver : (p : ℕ) → Contains (port_at (seen f).ports p).receivers t
        → ((0 < p) × (p ≤ f.layout.ports)) ⊎ ((p ≡ 0) ⊎ (f.layout.ports < p)) → ⊥
    receiver p w (inl there) = in_list (port_at (seen f).ports p).receivers (receivers_list f.layout p)
        (ap (λ (port : Port). port.receivers) (port-at f p there)) w
    receiver p w (inr past) =
        in_none (port_at (seen f).ports p).receivers (ap (λ (port : Port). port.receivers) (port-past f p past)) w

    waiter : (m : ℕ) → Contains (mutex_at (seen f).mutexes m).waiters t
        → ((0 < m) × (m ≤ f.layout.mutexes)) ⊎ ((m ≡ 0) ⊎ (f.layout.mutexes < m)) → ⊥
    waiter m w (inl there) = in_list (mutex_at (seen f).mutexes m).waiters (waiters_list f.layout m)
        (ap (λ (mutex : Mutex). mutex.waiters) (mutex-at f m there)) w
    waiter m w (inr past) =
        in_none (mutex_at (seen f).mutexes m).waiters (ap (λ (mutex : Mutex). mutex.waiters) (mutex-past f m past)) w

    client : (server : ℕ) → Contains (clients_of (seen f).clients server) t
        → ((0 < server) × (server ≤ f.threads)) ⊎ ((server ≡ 0) ⊎ (f.threads < server)) → ⊥
    client server w (inl there) =
        in_list (clients_of (seen f).clients server) (server - 1) (clients-at f server there) w
    client server w (inr past) = in_none (clients_of (seen f).clients server) (clients-past f server past) w

pub away-from : (f : Fields) (t : ℕ) → IsLaidOut f → IsNowhere (seen f) t → IsAway f.lists t
away-from f t laid nowhere list w = elim (cases_lt list f.layout.room) [
  | inl client ↦
      let server_there = laid.unused list (t - 1) client (contains-node (nodes_of f.lists list) t w).1 in
      nowhere.clients (list + 1) (at (clients_of (seen f).clients (list + 1)) (list + 1 - 1) (omega arith)
      (clients-at f (list + 1) (omega arith, omega (arith, server_there))))
  | inr past_clients ↦ elim (cases_lt list (f.layout.room + f.layout.ports)) [
    | inl call ↦
        let p = list - f.layout.room + 1 in
        nowhere.calls p (at (callers_at (seen f).ports p) (calls_list f.layout p) (omega (arith, past_clients))
        (callers-at f p (omega arith, omega (arith, call, past_clients))))
    | inr past_calls ↦ elim (cases_lt list (f.layout.room + f.layout.ports + f.layout.ports)) [
      | inl receiver ↦
          let p = list - (f.layout.room + f.layout.ports) + 1 in
          nowhere.receivers p
          (at (port_at (seen f).ports p).receivers (receivers_list f.layout p) (omega (arith, past_calls))
          (ap (λ (port : Port). port.receivers) (port-at f p (omega arith, omega (arith, receiver, past_calls)))))
      | inr past_receivers ↦ elim (cases_lt list (length f.lists.lists)) [
        | inl waiter ↦
            let m = list - (f.layout.room + f.layout.ports + f.layout.ports) + 1 in
            nowhere.waiters m (at (mutex_at (seen f).mutexes m).waiters (waiters_list f.layout m)
            (omega (arith, past_receivers)) (ap (λ (mutex : Mutex). mutex.waiters)
            (mutex-at f m (omega arith, omega (arith, waiter, past_receivers, laid.lists)))))
        | inr past ↦ contains-nothing t
            (subst (λ (nodes : List ℕ). Contains (map (λ n. n + 1) nodes) t) (get_or_past f.lists.lists list [] past) w)
      ]
    ]
  ]
]
  where
    at : (threads : List ℕ) (number : ℕ) → number ≡ list → threads ≡ threads_in f.lists number → Contains threads t
    at threads number same is = subst (λ (ts : List ℕ). Contains ts t) (ap (threads_in f.lists) (sym same) ∙ sym is) w
