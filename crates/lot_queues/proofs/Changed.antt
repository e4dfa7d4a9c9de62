-- The queues after a change of one of the lists.
use Rattle.lot_queues.proofs.Common.{Contains, Fields, IsConsistent, IsFree, IsLaidOut, List, Mutex, NodeLists, Option, Port, QueueLists, QueuedCall, ap, ap₂, arith, call_of, calls_list, cases_eq, clients_in, get_or-set_other, get_or-set_same, inl, inr, length, length-set, map, mutex_in, nodes_of, port_in, receivers_list, refl, relisted, set, set_number, subst, sym, waiters_list, with_calls, with_receivers, with_waiters, ℕ, [], ◌+◌, ◌-◌, ◌<◌, ◌∙◌, ◌≡◌, ◌≤◌, ◌⊎◌}
use Rattle.lot_queues.specs.Fields.{seen}
use Rattle.lot_queues.proofs.Elements.{calls-kept}
use Rattle.lot_queues.proofs.Tables.{table, table-same, table-set}
use Rattle.lot_queues.proofs.Nowhere.{port-at, mutex-at}

-- the fields with these lists
abbrev pub with_lists : Fields → NodeLists → Fields
with_lists f lists = record f { lists = lists }

pub relisted-here : (lists : NodeLists) (list : ℕ) (nodes : List ℕ) → list < length lists.lists
    → nodes_of (relisted lists list nodes) list ≡ nodes
relisted-here lists list nodes within = get_or-set_same lists.lists list nodes [] within

pub relisted-other : (lists : NodeLists) (list other : ℕ) (nodes : List ℕ) → ¬ (other ≡ list)
    → nodes_of (relisted lists list nodes) other ≡ nodes_of lists other
relisted-other lists list other nodes off = get_or-set_other lists.lists list other nodes [] off

pub relisted-within : (lists : NodeLists) (list : ℕ) (nodes : List ℕ) → list < length lists.lists
    → ((node : ℕ) → Contains nodes node → Contains (nodes_of lists list) node)
    → (other node : ℕ) → Contains (nodes_of (relisted lists list nodes) other) node
    → Contains (nodes_of lists other) node
relisted-within lists list nodes below fewer other node w = elim (cases_eq other list) [
  | inl same ↦
      let here : nodes_of (relisted lists list nodes) other ≡ nodes = ap (nodes_of (relisted lists list nodes)) same
      ∙ relisted-here lists list nodes below in
      subst (λ k. Contains (nodes_of lists k) node) (sym same)
      (fewer node (subst (λ (xs : List ℕ). Contains xs node) here w))
  | inr off ↦ subst (λ (xs : List ℕ). Contains xs node) (relisted-other lists list other nodes off) w
]

pub same-queues : {c d : List (List ℕ)} {p q : List Port} {m n : List Mutex} (room : ℕ) → c ≡ d → p ≡ q → m ≡ n
    → let old : QueueLists = record { clients = c; ports = p; mutexes = m; room = room } in
    let new : QueueLists = record { clients = d; ports = q; mutexes = n; room = room } in old ≡ new
same-queues {c} {d} {p} {q} {m} {n} room clients ports mutexes =
    ap₂ (λ (x : List (List ℕ)) (y : List Port). let lists : QueueLists =
    record { clients = x; ports = y; mutexes = m; room = room } in lists) clients ports
    ∙ ap (λ (z : List Mutex). let lists : QueueLists = record { clients = d; ports = q; mutexes = z; room = room } in
    lists) mutexes

pub same-port : {c d : List QueuedCall} {r s : List ℕ} → c ≡ d → r ≡ s → let old : Port =
    record { calls = c; receivers = r } in let new : Port = record { calls = d; receivers = s } in old ≡ new
same-port calls receivers = ap₂ (λ (x : List QueuedCall) (y : List ℕ). let port : Port =
    record { calls = x; receivers = y } in port) calls receivers

pub same-mutex : {o p : Option ℕ} {v w : List ℕ} → o ≡ p → v ≡ w → let old : Mutex =
    record { owner = o; waiters = v } in let new : Mutex = record { owner = p; waiters = w } in old ≡ new
same-mutex owner waiters =
    ap₂ (λ (x : Option ℕ) (y : List ℕ). let mutex : Mutex = record { owner = x; waiters = y } in mutex) owner waiters

module _ (f : Fields) (laid : IsLaidOut f) (list : ℕ) (nodes : List ℕ) where
  other : (k : ℕ) → ¬ (k ≡ list) → nodes_of (relisted f.lists list nodes) k ≡ nodes_of f.lists k
  other k off = relisted-other f.lists list k nodes off

  clients-same : f.layout.room ≤ list
      → table (clients_in (with_lists f (relisted f.lists list nodes))) f.threads ≡ table (clients_in f) f.threads
  clients-same past =
      table-same (clients_in f) (clients_in (with_lists f (relisted f.lists list nodes))) f.threads (λ t first last.
      ap (map (λ n. n + 1)) (other (t - 1) (λ same. absurd (omega (arith, same, first, last, past, laid.threads)))))

  port-same : (p : ℕ) → ¬ (calls_list f.layout p ≡ list) → ¬ (receivers_list f.layout p ≡ list)
      → port_in (with_lists f (relisted f.lists list nodes)) p ≡ port_in f p
  port-same p off_calls off_receivers = same-port (ap (map (call_of f.sent)) (other (calls_list f.layout p) off_calls))
      (ap (map (λ n. n + 1)) (other (receivers_list f.layout p) off_receivers))

  ports-same : (list < f.layout.room) ⊎ (f.layout.room + f.layout.ports + f.layout.ports ≤ list)
      → table (port_in (with_lists f (relisted f.lists list nodes))) f.layout.ports ≡ table (port_in f) f.layout.ports
  ports-same (inl before) =
      table-same (port_in f) (port_in (with_lists f (relisted f.lists list nodes))) f.layout.ports (λ p first last.
      port-same p (λ same. absurd (omega (arith, same, before))) (λ same. absurd (omega (arith, same, before))))
  ports-same (inr following) =
      table-same (port_in f) (port_in (with_lists f (relisted f.lists list nodes))) f.layout.ports (λ p first last.
      port-same p (λ same. absurd (omega (arith, same, following, first, last)))
      (λ same. absurd (omega (arith, same, following, first, last))))

  mutexes-same : list < f.layout.room + f.layout.ports + f.layout.ports → table
      (mutex_in (with_lists f (relisted f.lists list nodes))) f.layout.mutexes ≡ table (mutex_in f) f.layout.mutexes
  mutexes-same before =
      table-same (mutex_in f) (mutex_in (with_lists f (relisted f.lists list nodes))) f.layout.mutexes (λ m first last.
      same-mutex refl
      (ap (map (λ n. n + 1)) (other (waiters_list f.layout m) (λ same. absurd (omega (arith, same, before))))))

  -- the calls of a port
  pub calls-seen : (p : ℕ) → (0 < p) × (p ≤ f.layout.ports) → list ≡ calls_list f.layout p
      → seen (with_lists f (relisted f.lists list nodes))
      ≡ record (seen f) { ports = with_calls (seen f).ports p (map (call_of f.sent) nodes) }
  unfolding seen
  calls-seen p there is =
      same-queues f.layout.room (clients-same (omega (arith, is)))
      (table-set (port_in f) (port_in (with_lists f (relisted f.lists list nodes))) f.layout.ports p there.0 there.1
      (λ j first last off.
      port-same j (λ same. absurd (omega (arith, same, is, first, off, there.0)))
      (λ same. absurd (omega (arith, same, is, first, there.1))))
      ∙ ap (set_number (table (port_in f) f.layout.ports) p) (same-port
      (ap (map (call_of f.sent)) (ap (nodes_of (relisted f.lists list nodes)) (sym is)
      ∙ relisted-here f.lists list nodes (omega (arith, is, there.0, there.1, laid.lists))))
      (ap (map (λ n. n + 1)) (other (receivers_list f.layout p) (λ same. absurd
      (omega (arith, same, is, there.0, there.1)))) ∙ sym (ap (λ (port : Port). port.receivers) (port-at f p there)))))
      (mutexes-same (omega (arith, is, there.0, there.1)))

  -- the receivers at a port
  pub receivers-seen : (p : ℕ) → (0 < p) × (p ≤ f.layout.ports) → list ≡ receivers_list f.layout p
      → seen (with_lists f (relisted f.lists list nodes))
      ≡ record (seen f) { ports = with_receivers (seen f).ports p (map (λ n. n + 1) nodes) }
  unfolding seen
  receivers-seen p there is =
      same-queues f.layout.room (clients-same (omega (arith, is)))
      (table-set (port_in f) (port_in (with_lists f (relisted f.lists list nodes))) f.layout.ports p there.0 there.1
      (λ j first last off.
      port-same j (λ same. absurd (omega (arith, same, is, first, last, there.0)))
      (λ same. absurd (omega (arith, same, is, first, off, there.0))))
      ∙ ap (set_number (table (port_in f) f.layout.ports) p) (same-port
      (ap (map (call_of f.sent)) (other (calls_list f.layout p) (λ same.
      absurd (omega (arith, same, is, there.0, there.1)))) ∙ sym (ap (λ (port : Port). port.calls) (port-at f p there)))
      (ap (map (λ n. n + 1)) (ap (nodes_of (relisted f.lists list nodes)) (sym is)
      ∙ relisted-here f.lists list nodes (omega (arith, is, there.0, there.1, laid.lists))))))
      (mutexes-same (omega (arith, is, there.0, there.1)))

  -- the waiters of a mutex
  pub waiters-seen : (m : ℕ) → (0 < m) × (m ≤ f.layout.mutexes) → list ≡ waiters_list f.layout m
      → seen (with_lists f (relisted f.lists list nodes))
      ≡ record (seen f) { mutexes = with_waiters (seen f).mutexes m (map (λ n. n + 1) nodes) }
  unfolding seen
  waiters-seen m there is =
      same-queues f.layout.room (clients-same (omega (arith, is))) (ports-same (inr (omega (arith, is))))
      (table-set (mutex_in f) (mutex_in (with_lists f (relisted f.lists list nodes))) f.layout.mutexes m there.0 there.1
      (λ j first last off.
      same-mutex refl (ap (map (λ n. n + 1))
      (other (waiters_list f.layout j) (λ same. absurd (omega (arith, same, is, first, off, there.0))))))
      ∙ ap (set_number (table (mutex_in f) f.layout.mutexes) m)
      (same-mutex (sym (ap (λ (mutex : Mutex). mutex.owner) (mutex-at f m there)))
      (ap (map (λ n. n + 1)) (ap (nodes_of (relisted f.lists list nodes)) (sym is)
      ∙ relisted-here f.lists list nodes (omega (arith, is, there.0, there.1, laid.lists))))))

  -- the clients of a thread
  pub clients-seen : (server : ℕ) → (0 < server) × (server ≤ f.threads) → list ≡ server - 1
      → seen (with_lists f (relisted f.lists list nodes))
      ≡ record (seen f) { clients = set_number (seen f).clients server (map (λ n. n + 1) nodes) }
  unfolding seen
  clients-seen server there is =
      same-queues f.layout.room
      (table-set (clients_in f)
      (clients_in (with_lists f (relisted f.lists list nodes))) f.threads server there.0 there.1 (λ j first last off.
      ap (map (λ n. n + 1)) (other (j - 1) (λ same. absurd (omega (arith, same, is, first, off, there.0)))))
      ∙ ap (set_number (table (clients_in f) f.threads) server)
      (ap (map (λ n. n + 1)) (ap (nodes_of (relisted f.lists list nodes)) (sym is)
      ∙ relisted-here f.lists list nodes (omega (arith, is, there.0, there.1, laid.lists, laid.threads)))))
      (ports-same (inl (omega (arith, is, there.0, there.1, laid.threads))))
      (mutexes-same (omega (arith, is, there.0, there.1, laid.threads)))

  -- what holds of the fields still does
  pub laid-relisted : list < length f.lists.lists → IsConsistent (relisted f.lists list nodes)
      → ((node : ℕ) → Contains nodes node → node < f.threads) → (list < f.layout.room → list < f.threads)
      → IsLaidOut (with_lists f (relisted f.lists list nodes))
  laid-relisted within consistent made used = record {
    consistent = consistent;
    nodes = laid.nodes;
    lists = length-set f.lists.lists list nodes ∙ laid.lists;
    sent = laid.sent;
    owners = laid.owners;
    threads = laid.threads;
    made = λ k node w. elim (cases_eq k list) [
      | inl same ↦ made node (subst (λ (xs : List ℕ). Contains xs node)
          (ap (nodes_of (relisted f.lists list nodes)) same ∙ relisted-here f.lists list nodes within) w)
      | inr off ↦ laid.made k node (subst (λ (xs : List ℕ). Contains xs node) (other k off) w)
    ];
    unused = λ k node below w. elim (cases_eq k list) [
      | inl same ↦ omega (arith, same, used (omega (arith, same, below)))
      | inr off ↦ laid.unused k node below (subst (λ (xs : List ℕ). Contains xs node) (other k off) w)
    ];
  }

-- What a thread that is in no list sent last doesn't matter to the queues.
pub sent-kept : (f : Fields) (node number : ℕ) → IsFree f.lists node
    → seen (record f { sent = set f.sent node number }) ≡ seen f
unfolding seen
sent-kept f node number free =
    same-queues f.layout.room refl
    (table-same (port_in f) (port_in (record f { sent = set f.sent node number })) f.layout.ports (λ p first last.
    same-port (calls-kept f.sent (nodes_of f.lists (calls_list f.layout p)) node number (free (calls_list f.layout p)))
    refl)) refl
