-- The fields against the value in contracts, as each method opens and closes it.
use Rattle.lot_queues.proofs.Common.{Contains, Fields, IsConsistent, IsFree, IsLaidOut, IsNowhere, IsThere, Layout, List, Mutex, NodeLists, None, Option, Port, QueueLists, QueuedCall, ap, ap₂, arith, call_of, calls_list, cases_lt, clients_in, clients_of, empty_lists, empty_queues, get_or, get_or-map, get_or-map-range_with_len, get_or-replicate, get_or-set_other, get_or-set_same, get_or_default, get_or_past, inl, inr, length, length-map, length-replicate, length-set, list_count, map, mutex_at, mutex_in, nodes_of, port_at, port_in, receivers_list, refl, relisted, replicate, same_lists, set, set_number, slice_index_or, subst, sym, threads_in, waiters_list, with_calls, with_owner, with_receivers, with_waiters, ℕ, [], ◌++◌, ◌+◌, ◌-◌, ◌<◌, ◌∙◌, ◌∷◌, ◌≡◌, ◌≤◌}
use Rattle.lot_queues.specs.Fields.{seen}
use Rattle.lot_queues.proofs.Elements.{contains-nothing}
use Rattle.lot_queues.proofs.Tables.{table, table-set, table-more, table-alike, table-length}
use Rattle.lot_queues.proofs.Nowhere.{port-at, mutex-at, clients-at, free-from, away-from, nowhere-from, IsAway}
use Rattle.lot_queues.proofs.Changed.{with_lists, same-queues, same-mutex, same-port, calls-seen, receivers-seen, waiters-seen, clients-seen, laid-relisted}

-- The fields hold the value.
pub record Holds (f : Fields) (q : QueueLists) : Type 0 where
  pub laid : IsLaidOut f
  pub is : seen f ≡ q

pub opened : (f : Fields) (q : QueueLists) → seen f ≡ q → IsLaidOut f → Holds f q
opened f q is laid = record { laid = laid; is = is }

-- the fields hold what they are seen as
pub itself : {f : Fields} {q : QueueLists} → Holds f q → Holds f (seen f)
itself held = record { laid = held.laid; is = refl }

seen-room : (f : Fields) → (seen f).room ≡ f.layout.room
unfolding seen
seen-room f = refl

seen-ports : (f : Fields) → length (seen f).ports ≡ f.layout.ports
unfolding seen
seen-ports f = table-length (port_in f) f.layout.ports

seen-mutexes : (f : Fields) → length (seen f).mutexes ≡ f.layout.mutexes
unfolding seen
seen-mutexes f = table-length (mutex_in f) f.layout.mutexes

seen-threads : (f : Fields) → length (seen f).clients ≡ f.threads
unfolding seen
seen-threads f = table-length (clients_in f) f.threads

owner-seen : (f : Fields) → IsLaidOut f → (m place : ℕ) (owner : Option ℕ) → (0 < m) × (m ≤ f.layout.mutexes)
    → place ≡ m - 1
    → seen (record f { owners = set f.owners place owner })
    ≡ record (seen f) { mutexes = with_owner (seen f).mutexes m owner }
unfolding seen
owner-seen f laid m place owner there at =
    same-queues f.layout.room refl refl
    (table-set (mutex_in f)
    (mutex_in (record f { owners = set f.owners place owner })) f.layout.mutexes m there.0 there.1 (λ j first last off.
    same-mutex
    (get_or-set_other f.owners place (j - 1) owner None (λ same. off (omega (arith, same, at, first, there.0)))) refl)
    ∙ ap (set_number (table (mutex_in f) f.layout.mutexes) m) (same-mutex
    (ap (λ k. get_or (set f.owners place owner) k None) (sym at)
    ∙ get_or-set_same f.owners place owner None (omega (arith, at, there.0, there.1, laid.owners)))
    (sym (ap (λ (mutex : Mutex). mutex.waiters) (mutex-at f m there)))))

owners-seen : (f : Fields) → IsLaidOut f → f.owners ≡ map (λ (m : Mutex). m.owner) (seen f).mutexes
unfolding seen
owners-seen f laid =
    let n = f.layout.mutexes in
    let count = length-map (table (mutex_in f) n) (λ (m : Mutex). m.owner) ∙ table-length (mutex_in f) n in
    same_lists f.owners (map (λ (m : Mutex). m.owner) (table (mutex_in f) n)) (laid.owners ∙ sym count) (λ k d h.
    let within : k < n = omega (arith, h, laid.owners) in
    let free_mutex : Mutex = record { owner = None; waiters = [] } in
    get_or_default f.owners k d None h
    ∙ sym (get_or-map (λ (m : Mutex). m.owner) (table (mutex_in f) n) k free_mutex d
    (omega (arith, within, table-length (mutex_in f) n))
    ∙ ap (λ (m : Mutex). m.owner) (get_or-map-range_with_len (mutex_in f) 1 n k (k + 1) free_mutex within (omega arith))
    ∙ ap (λ i. get_or f.owners i None) (omega arith)))

nothing : (nodes : List ℕ) → ((node : ℕ) → ¬ Contains nodes node) → map (λ n. n + 1) nodes ≡ []
nothing [] none = refl
nothing (n ∷ nodes) none = absurd (none n (0, omega arith, refl))

thread-seen : (f : Fields) → IsLaidOut f → f.threads < f.layout.room
    → seen (record f { threads = f.threads + 1 }) ≡ record (seen f) { clients = (seen f).clients ++ [] ∷ [] }
unfolding seen
thread-seen f laid low =
    same-queues f.layout.room
    (table-more (clients_in f) f.threads
    ∙ ap (λ (ts : List ℕ). table (clients_in f) f.threads ++ ts ∷ []) (ap (threads_in f.lists) (omega arith) ∙ nothing
    (nodes_of f.lists f.threads) (λ node w. absurd (omega (arith, laid.unused f.threads node low w))))) refl refl

module _ {f : Fields} {q : QueueLists} (held : Holds f q) where
  pub room-is : f.layout.room ≡ q.room
  room-is = sym (seen-room f) ∙ ap (λ (x : QueueLists). x.room) held.is

  pub ports-are : f.layout.ports ≡ length q.ports
  ports-are = sym (seen-ports f) ∙ ap (λ (x : QueueLists). length x.ports) held.is

  pub mutexes-are : f.layout.mutexes ≡ length q.mutexes
  mutexes-are = sym (seen-mutexes f) ∙ ap (λ (x : QueueLists). length x.mutexes) held.is

  pub threads-are : f.threads ≡ length q.clients
  threads-are = sym (seen-threads f) ∙ ap (λ (x : QueueLists). length x.clients) held.is

  pub in-ports : (p : ℕ) → IsThere q.ports p → (0 < p) × (p ≤ f.layout.ports)
  in-ports p there = (there.0, omega (arith, there.1, ports-are))

  pub in-mutexes : (m : ℕ) → IsThere q.mutexes m → (0 < m) × (m ≤ f.layout.mutexes)
  in-mutexes m there = (there.0, omega (arith, there.1, mutexes-are))

  pub in-threads : (t : ℕ) → IsThere q.clients t → (0 < t) × (t ≤ f.threads)
  in-threads t there = (there.0, omega (arith, there.1, threads-are))

  -- ---- what calls of the lists need

  pub calls-below : (p list : ℕ) → IsThere q.ports p → list ≡ calls_list f.layout p → list < length f.lists.lists
  calls-below p list there is = let within = in-ports p there in omega (arith, is, within.0, within.1, held.laid.lists)

  pub receivers-below : (p list : ℕ) → IsThere q.ports p → list ≡ receivers_list f.layout p
      → list < length f.lists.lists
  receivers-below p list there is = let within = in-ports p there in
      omega (arith, is, within.0, within.1, held.laid.lists)

  pub waiters-below : (m list : ℕ) → IsThere q.mutexes m → list ≡ waiters_list f.layout m → list < length f.lists.lists
  waiters-below m list there is = let within = in-mutexes m there in
      omega (arith, is, within.0, within.1, held.laid.lists)

  pub clients-below : (t list : ℕ) → IsThere q.clients t → list ≡ t - 1 → list < length f.lists.lists
  clients-below t list there is = let within = in-threads t there in
      omega (arith, is, within.0, within.1, held.laid.lists, held.laid.threads)

  pub node-below : (t node : ℕ) → IsThere q.clients t → node ≡ t - 1 → node < f.lists.nodes
  node-below t node there is = let within = in-threads t there in
      omega (arith, is, within.0, within.1, held.laid.nodes, held.laid.threads)

  pub away : (t : ℕ) → IsNowhere q t → IsAway f.lists t
  away t nowhere = away-from f t held.laid (subst (λ (x : QueueLists). IsNowhere x t) (sym held.is) nowhere)

  pub free : (t node : ℕ) → IsThere q.clients t → node ≡ t - 1 → IsNowhere q t → IsFree f.lists node
  free t node there is nowhere = free-from f.lists t node there.0 is (away t nowhere)

  pub nowhere : (t : ℕ) → IsAway f.lists t → IsNowhere q t
  nowhere t none = subst (λ (x : QueueLists). IsNowhere x t) held.is (nowhere-from f t none)

  pub there : (t : ℕ) → 0 < t → t ≤ f.threads → IsThere q.clients t
  there t first last = (first, omega (arith, last, threads-are))

  -- ---- what the queues are

  pub calls-are : (p : ℕ) → IsThere q.ports p
      → (port_at q.ports p).calls ≡ map (call_of f.sent) (nodes_of f.lists (calls_list f.layout p))
  calls-are p there = ap (λ (x : QueueLists). (port_at x.ports p).calls) (sym held.is)
      ∙ ap (λ (port : Port). port.calls) (port-at f p (in-ports p there))

  pub receivers-are : (p : ℕ) → IsThere q.ports p
      → (port_at q.ports p).receivers ≡ threads_in f.lists (receivers_list f.layout p)
  receivers-are p there = ap (λ (x : QueueLists). (port_at x.ports p).receivers) (sym held.is)
      ∙ ap (λ (port : Port). port.receivers) (port-at f p (in-ports p there))

  pub waiters-are : (m : ℕ) → IsThere q.mutexes m
      → (mutex_at q.mutexes m).waiters ≡ threads_in f.lists (waiters_list f.layout m)
  waiters-are m there = ap (λ (x : QueueLists). (mutex_at x.mutexes m).waiters) (sym held.is)
      ∙ ap (λ (mutex : Mutex). mutex.waiters) (mutex-at f m (in-mutexes m there))

  pub owner-is : (m : ℕ) → IsThere q.mutexes m → (mutex_at q.mutexes m).owner ≡ slice_index_or f.owners (m - 1) None
  owner-is m there = ap (λ (x : QueueLists). (mutex_at x.mutexes m).owner) (sym held.is)
      ∙ ap (λ (mutex : Mutex). mutex.owner) (mutex-at f m (in-mutexes m there))

  pub clients-are : (t : ℕ) → IsThere q.clients t → clients_of q.clients t ≡ threads_in f.lists (t - 1)
  clients-are t there = ap (λ (x : QueueLists). clients_of x.clients t) (sym held.is)
      ∙ clients-at f t (in-threads t there)

  -- ---- a change of one queue

  pub set-calls : (p list : ℕ) (nodes : List ℕ) (calls : List QueuedCall) → IsThere q.ports p
      → list ≡ calls_list f.layout p → calls ≡ map (call_of f.sent) nodes
      → IsConsistent (relisted f.lists list nodes) → ((node : ℕ) → Contains nodes node → node < f.threads)
      → Holds (with_lists f (relisted f.lists list nodes)) (record q { ports = with_calls q.ports p calls })
  set-calls p list nodes calls there is calls_is consistent made = record {
    laid = laid-relisted f held.laid list nodes (calls-below p list there is) consistent made
        (λ low. absurd (omega (arith, is, low)));
    is = calls-seen f held.laid list nodes p (in-ports p there) is
        ∙ ap₂ (λ (x : QueueLists) (cs : List QueuedCall). let next : QueueLists =
        record x { ports = with_calls x.ports p cs } in next) held.is (sym calls_is);
  }

  pub set-receivers : (p list : ℕ) (nodes receivers : List ℕ) → IsThere q.ports p → list ≡ receivers_list f.layout p
      → receivers ≡ map (λ n. n + 1) nodes
      → IsConsistent (relisted f.lists list nodes) → ((node : ℕ) → Contains nodes node → node < f.threads)
      → Holds (with_lists f (relisted f.lists list nodes)) (record q { ports = with_receivers q.ports p receivers })
  set-receivers p list nodes receivers there is receivers_are consistent made = record {
    laid = laid-relisted f held.laid list nodes (receivers-below p list there is) consistent made
        (λ low. absurd (omega (arith, is, low)));
    is = receivers-seen f held.laid list nodes p (in-ports p there) is
        ∙ ap₂ (λ (x : QueueLists) (ts : List ℕ). let next : QueueLists =
        record x { ports = with_receivers x.ports p ts } in next) held.is (sym receivers_are);
  }

  pub set-waiters : (m list : ℕ) (nodes waiters : List ℕ) → IsThere q.mutexes m → list ≡ waiters_list f.layout m
      → waiters ≡ map (λ n. n + 1) nodes
      → IsConsistent (relisted f.lists list nodes) → ((node : ℕ) → Contains nodes node → node < f.threads)
      → Holds (with_lists f (relisted f.lists list nodes)) (record q { mutexes = with_waiters q.mutexes m waiters })
  set-waiters m list nodes waiters there is waiters_are consistent made = record {
    laid = laid-relisted f held.laid list nodes (waiters-below m list there is) consistent made
        (λ low. absurd (omega (arith, is, low)));
    is = waiters-seen f held.laid list nodes m (in-mutexes m there) is
        ∙ ap₂ (λ (x : QueueLists) (ts : List ℕ). let next : QueueLists =
        record x { mutexes = with_waiters x.mutexes m ts } in next) held.is (sym waiters_are);
  }

  pub set-clients : (server list : ℕ) (nodes clients : List ℕ) → IsThere q.clients server → list ≡ server - 1
      → clients ≡ map (λ n. n + 1) nodes
      → IsConsistent (relisted f.lists list nodes) → ((node : ℕ) → Contains nodes node → node < f.threads)
      → Holds (with_lists f (relisted f.lists list nodes)) (record q { clients = set_number q.clients server clients })
  set-clients server list nodes clients there is clients_are consistent made =
      let within = in-threads server there in record {
        laid = laid-relisted f held.laid list nodes (clients-below server list there is) consistent made
            (λ low. omega (arith, is, within.0, within.1));
        is = clients-seen f held.laid list nodes server within is
            ∙ ap₂ (λ (x : QueueLists) (ts : List ℕ). let next : QueueLists =
            record x { clients = set_number x.clients server ts } in next) held.is (sym clients_are);
      }

  -- ---- owners

  pub set-owner : (m place : ℕ) (owner : Option ℕ) → IsThere q.mutexes m → place ≡ m - 1
      → Holds (record f { owners = set f.owners place owner }) (record q { mutexes = with_owner q.mutexes m owner })
  set-owner m place owner there at = record {
    laid = record {
      consistent = held.laid.consistent;
      nodes = held.laid.nodes;
      lists = held.laid.lists;
      sent = held.laid.sent;
      owners = length-set f.owners place owner ∙ held.laid.owners;
      threads = held.laid.threads;
      made = held.laid.made;
      unused = held.laid.unused;
    };
    is = owner-seen f held.laid m place owner (in-mutexes m there) at ∙ ap (λ (x : QueueLists). let next : QueueLists =
        record x { mutexes = with_owner x.mutexes m owner } in next) held.is;
  }

  pub owners-are : f.owners ≡ map (λ (m : Mutex). m.owner) q.mutexes
  owners-are = owners-seen f held.laid ∙ ap (λ (x : QueueLists). map (λ (m : Mutex). m.owner) x.mutexes) held.is

  -- ---- one thread more

  pub add-thread : length q.clients < q.room
      → Holds (record f { threads = f.threads + 1 }) (record q { clients = q.clients ++ [] ∷ [] })
  add-thread room = record {
    laid = record {
      consistent = held.laid.consistent;
      nodes = held.laid.nodes;
      lists = held.laid.lists;
      sent = held.laid.sent;
      owners = held.laid.owners;
      threads = omega (arith, room, room-is, threads-are);
      made = λ list node w. omega (arith, held.laid.made list node w);
      unused = λ list node low w. omega (arith, held.laid.unused list node low w);
    };
    is = thread-seen f held.laid (omega (arith, room, room-is, threads-are))
        ∙ ap (λ (x : QueueLists). let next : QueueLists = record x { clients = x.clients ++ [] ∷ [] } in next) held.is;
  }

-- ---- the start

nothing-listed : (lists nodes list : ℕ) → nodes_of (empty_lists lists nodes) list ≡ []
nothing-listed lists nodes list = elim (cases_lt list lists) [
  | inl low ↦ get_or-replicate lists list [] [] low
  | inr high ↦ get_or_past (replicate lists []) list [] (omega (arith, high, length-replicate {A = List ℕ} lists []))
]

abbrev pub starting : Layout → NodeLists → List ℕ → List (Option ℕ) → Fields
starting layout lists sent owners = record { lists = lists; sent = sent; owners = owners; threads = 0; layout = layout }

empty-seen : (layout : Layout) (lists : NodeLists) (sent : List ℕ) (owners : List (Option ℕ))
    → ((list : ℕ) → nodes_of lists list ≡ []) → owners ≡ replicate layout.mutexes None
    → seen (starting layout lists sent owners) ≡ empty_queues layout.ports layout.mutexes layout.room
unfolding seen
empty-seen layout lists sent owners listed owners_are =
    same-queues layout.room refl
    (table-alike (port_in (starting layout lists sent owners)) layout.ports (record { calls = []; receivers = [] })
    (λ p first last.
    same-port (ap (map (call_of sent)) (listed (calls_list layout p)))
    (ap (map (λ n. n + 1)) (listed (receivers_list layout p)))))
    (table-alike (mutex_in (starting layout lists sent owners)) layout.mutexes (record { owner = None; waiters = [] })
    (λ m first last.
    same-mutex (ap (λ (os : List (Option ℕ)). get_or os (m - 1) None) owners_are ∙ get_or-replicate layout.mutexes
    (m - 1) None None (omega (arith, first, last))) (ap (map (λ n. n + 1)) (listed (waiters_list layout m)))))

pub start : (layout : Layout) (lists : NodeLists) (sent : List ℕ) (owners : List (Option ℕ))
    → lists ≡ empty_lists (list_count layout) layout.room → IsConsistent lists → sent ≡ replicate layout.room 0
    → owners ≡ replicate layout.mutexes None
    → Holds (starting layout lists sent owners) (empty_queues layout.ports layout.mutexes layout.room)
start layout lists sent owners lists_are consistent sent_is owners_are = record {
  laid = record {
    consistent = consistent;
    nodes = ap (λ (v : NodeLists). v.nodes) lists_are;
    lists = ap (λ (v : NodeLists). length v.lists) lists_are ∙ length-replicate (list_count layout) [];
    sent = ap length sent_is ∙ length-replicate layout.room 0;
    owners = ap length owners_are ∙ length-replicate layout.mutexes None;
    threads = omega arith;
    made = λ list node w. absurd (empty list node w);
    unused = λ list node low w. absurd (empty list node w);
  };
  is = empty-seen layout lists sent owners listed owners_are;
}
  where
    listed : (list : ℕ) → nodes_of lists list ≡ []
    listed list = ap (λ (v : NodeLists). nodes_of v list) lists_are
        ∙ nothing-listed (list_count layout) layout.room list

    empty : (list node : ℕ) → ¬ Contains (nodes_of lists list) node
    empty list node w = contains-nothing node (subst (λ (xs : List ℕ). Contains xs node) (listed list) w)
