-- A thread taken out of its queue, from any index.
use Rattle.lot_queues.proofs.Common.{Bool, Contains, Fields, HasSameSize, IfNone, IfSome, IsConsistent, IsFree, IsLaidOut, IsNowhere, IsThere, List, Mutex, NodeLists, None, Option, Port, QueueLists, QueuedCall, Some, ap, ap₂, arith, call_of, calls_list, cases_eq, cases_lt, clients_in, cond, contains-at, eq-eqb, eqb-false, eqb-true, false, filter, filter-was, get_or_past, inl, inr, is_some, length, list_count, map, mutex_in, ne_eqb, node_at, nodes_of, not, place-in, port_in, port_without, queues_without, range_with_len, receivers_list, refl, remove, slice_get, some-injective, subst, suc, sym, threads_in, true, waiters_list, with_removed, without, without-absent, zero, ℕ, [], ◌+◌, ◌-◌, ◌<◌, ◌==◌, ◌∙◌, ◌∷◌, ◌≡◌, ◌≤◌, ◌⊎◌}
use Rattle.lot_queues.specs.Fields.{seen}
use Rattle.lot_queues.proofs.Tables.{table, table-same}
use Rattle.lot_queues.proofs.Nowhere.{away-to}
use Rattle.lot_queues.proofs.Changed.{with_lists, relisted-here, relisted-other, same-queues, same-port, same-mutex}
use Rattle.lot_queues.proofs.Holds.{Holds, in-threads, nowhere}

-- ---- the nodes that are left

-- one is removed that stands once
remove-without : (nodes : List ℕ) (place node : ℕ) → slice_get nodes place ≡ Some node
    → ((i : ℕ) → slice_get nodes i ≡ Some node → i ≡ place) → remove nodes place ≡ without node nodes
remove-without [] place node e once = cc
remove-without (x ∷ xs) zero node e once =
    let is : (x == node) ≡ true = eq-eqb x node (some-injective x node e) in
    let rest : without node xs ≡ xs = without-absent node xs (λ i h. absurd (omega (arith, once (suc i) h))) in
    sym (ap (λ b. cond (not b) (x ∷ without node xs) (without node xs)) is ∙ rest)
remove-without (x ∷ xs) (suc place) node e once =
    let other : (x == node) ≡ false = ne_eqb x node (λ same. absurd (omega (arith, once 0 (ap Some same)))) in
    let rest : remove xs place ≡ without node xs =
    remove-without xs place node e (λ i h. let at = once (suc i) h in omega (arith, at)) in
    ap (λ ys. x ∷ ys) rest ∙ sym (ap (λ b. cond (not b) (x ∷ without node xs) (without node xs)) other)

-- of lists that don't have the node
pub left-free : (v : NodeLists) (node : ℕ) → IsFree v node → (list : ℕ)
    → nodes_of v list ≡ without node (nodes_of v list)
left-free v node free list =
    sym (without-absent node (nodes_of v list) (λ place e. free list (contains-at (nodes_of v list) place node e)))

-- of lists from which it is removed
pub left-removed : (v w : NodeLists) (node from : ℕ) → IsConsistent v → Contains (nodes_of v from) node
    → ((list place : ℕ) → node_at v list place ≡ Some node → w ≡ with_removed v list place)
    → (list : ℕ) → nodes_of w list ≡ without node (nodes_of v list)
left-removed v w node from consistent listed removed list = at (place-in (nodes_of v from) node listed)
  where
    below : (place : ℕ) → node_at v from place ≡ Some node → from < length v.lists
    below place here = elim (cases_lt from (length v.lists)) [
      | inl low ↦ low
      | inr high ↦ let none : slice_get {X = ℕ} [] place ≡ Some node =
          ap (λ xs. slice_get xs place) (sym (get_or_past v.lists from [] high)) ∙ here in absurd (nothing place none)
    ]
      where
        nothing : (place : ℕ) → slice_get {X = ℕ} [] place ≡ Some node → ⊥
        nothing place e = cc

    at : ((place : ℕ) × (node_at v from place ≡ Some node)) → nodes_of w list ≡ without node (nodes_of v list)
    at (place, here) = ap (λ x. nodes_of x list) (removed from place here) ∙ elim (cases_eq list from) [
      | inl same ↦
          ap (nodes_of (with_removed v from place)) same
          ∙ relisted-here v from (remove (nodes_of v from) place) (below place here)
          ∙ remove-without (nodes_of v from) place node here (λ i e.
          (consistent.disjoint node from i from place e here).1) ∙ ap (λ k. without node (nodes_of v k)) (sym same)
      | inr off ↦
          relisted-other v from list (remove (nodes_of v from) place) off
          ∙ sym
          (without-absent node (nodes_of v list) (λ i e. off (consistent.disjoint node list i from place e here).0))
    ]

-- ---- the queues without the thread

-- the threads of the nodes
threads-without : (node : ℕ) (nodes : List ℕ)
    → map (λ n. n + 1) (without node nodes) ≡ without (node + 1) (map (λ n. n + 1) nodes)
threads-without node [] = refl
threads-without node (x ∷ xs) = at (x == node) refl (threads-without node xs)
  where
    at : (b : Bool) → (x == node) ≡ b → map (λ n. n + 1) (without node xs) ≡ without (node + 1) (map (λ n. n + 1) xs)
        → map (λ n. n + 1) (cond (not b) (x ∷ without node xs) (without node xs)) ≡ cond (not (x + 1 == node + 1))
        ((x + 1) ∷ without (node + 1) (map (λ n. n + 1) xs)) (without (node + 1) (map (λ n. n + 1) xs))
    at true is rest =
        let same : (x + 1 == node + 1) ≡ true = eq-eqb (x + 1) (node + 1) (ap (λ n. n + 1) (eqb-true x node is)) in
        rest ∙ sym (ap (λ b. cond (not b) ((x + 1) ∷ without (node + 1) (map (λ n. n + 1) xs))
        (without (node + 1) (map (λ n. n + 1) xs))) same)
    at false is rest =
        let other : (x + 1 == node + 1) ≡ false =
        ne_eqb (x + 1) (node + 1) (λ same. eqb-false x node is (omega (arith, same))) in
        ap (λ ys. (x + 1) ∷ ys) rest ∙ sym (ap (λ b. cond (not b) ((x + 1) ∷ without (node + 1) (map (λ n. n + 1) xs))
        (without (node + 1) (map (λ n. n + 1) xs))) other)

-- and their calls
abbrev calls_left : ℕ → List QueuedCall → List QueuedCall
calls_left t calls = filter (λ call. not (call.caller == t)) calls

calls-without : (sent : List ℕ) (node : ℕ) (nodes : List ℕ)
    → map (call_of sent) (without node nodes) ≡ calls_left (node + 1) (map (call_of sent) nodes)
calls-without sent node [] = refl
calls-without sent node (x ∷ xs) = at (x == node) refl (calls-without sent node xs)
  where
    at : (b : Bool) → (x == node) ≡ b
        → map (call_of sent) (without node xs) ≡ calls_left (node + 1) (map (call_of sent) xs)
        → map (call_of sent) (cond (not b) (x ∷ without node xs) (without node xs)) ≡ cond (not (x + 1 == node + 1))
        (call_of sent x ∷ calls_left (node + 1) (map (call_of sent) xs)) (calls_left (node + 1) (map (call_of sent) xs))
    at true is rest =
        let same : (x + 1 == node + 1) ≡ true = eq-eqb (x + 1) (node + 1) (ap (λ n. n + 1) (eqb-true x node is)) in
        rest ∙ sym (ap (λ b. cond (not b) (call_of sent x ∷ calls_left (node + 1) (map (call_of sent) xs))
        (calls_left (node + 1) (map (call_of sent) xs))) same)
    at false is rest =
        let other : (x + 1 == node + 1) ≡ false =
        ne_eqb (x + 1) (node + 1) (λ same. eqb-false x node is (omega (arith, same))) in
        ap (λ ys. call_of sent x ∷ ys) rest ∙ sym (ap (λ b. cond (not b) (call_of sent x
        ∷ calls_left (node + 1) (map (call_of sent) xs)) (calls_left (node + 1) (map (call_of sent) xs))) other)

-- a table of what a function gives of another table
table-mapped : {X Y : Type 0} (g : X → Y) (h : ℕ → X) (xs : List ℕ) → map (λ k. g (h k)) xs ≡ map g (map h xs)
table-mapped g h [] = refl
table-mapped g h (x ∷ xs) = ap (λ ys. g (h x) ∷ ys) (table-mapped g h xs)

seen-without : (f : Fields) (w : NodeLists) (node : ℕ)
    → ((list : ℕ) → nodes_of w list ≡ without node (nodes_of f.lists list))
    → seen (with_lists f w) ≡ queues_without (seen f) (node + 1)
unfolding seen
seen-without f w node left =
    same-queues f.layout.room
    (table-same (λ k. without (node + 1) (clients_in f k)) (clients_in (with_lists f w)) f.threads
    (λ k first last. threads (k - 1)) ∙ table-mapped (without (node + 1)) (clients_in f) (range_with_len 1 f.threads))
    (table-same (λ p. port_without (node + 1) (port_in f p)) (port_in (with_lists f w)) f.layout.ports (λ p first last.
    same-port (ap (map (call_of f.sent)) (left (calls_list f.layout p))
    ∙ calls-without f.sent node (nodes_of f.lists (calls_list f.layout p))) (threads (receivers_list f.layout p)))
    ∙ table-mapped (port_without (node + 1)) (port_in f) (range_with_len 1 f.layout.ports))
    (table-same (λ m. waiters_left (mutex_in f m)) (mutex_in (with_lists f w)) f.layout.mutexes
    (λ m first last. same-mutex refl (threads (waiters_list f.layout m)))
    ∙ table-mapped waiters_left (mutex_in f) (range_with_len 1 f.layout.mutexes))
  where
    waiters_left : Mutex → Mutex
    waiters_left mutex = record { owner = mutex.owner; waiters = without (node + 1) mutex.waiters }

    threads : (list : ℕ) → threads_in w list ≡ without (node + 1) (threads_in f.lists list)
    threads list = ap (map (λ n. n + 1)) (left list) ∙ threads-without node (nodes_of f.lists list)

module _ {f : Fields} {q : QueueLists} (held : Holds f q) (t node : ℕ) (there : IsThere q.clients t)
    (is : node ≡ t - 1) where
  number : node + 1 ≡ t
  number = omega (arith, is, there.0)

  module _ (w : NodeLists) (left : (list : ℕ) → nodes_of w list ≡ without node (nodes_of f.lists list))
      (size : HasSameSize f.lists w) (consistent : IsConsistent w) where
    -- what is left was there
    was : (list n : ℕ) → Contains (nodes_of w list) n → Contains (nodes_of f.lists list) n
    was list n there =
        let (place, e) = place-in (nodes_of w list) n there in
        let (old, here) = filter-was (λ x. not (x == node)) (nodes_of f.lists list) place n
        (ap (λ xs. slice_get xs place) (sym (left list)) ∙ e) in
        contains-at (nodes_of f.lists list) old n here

    pub taken-out : Holds (with_lists f w) (queues_without q t)
    taken-out = record {
      laid = record {
        consistent = consistent;
        nodes = size.0 ∙ held.laid.nodes;
        lists = size.1 ∙ held.laid.lists;
        sent = held.laid.sent;
        owners = held.laid.owners;
        threads = held.laid.threads;
        made = λ list n there. held.laid.made list n (was list n there);
        unused = λ list n low there. held.laid.unused list n low (was list n there);
      };
      is = seen-without f w node left ∙ ap (queues_without (seen f)) number
          ∙ ap (λ (x : QueueLists). queues_without x t) held.is;
    }

-- ---- whether a list has a node

pub none-free : (v : NodeLists) (node : ℕ) (o : Option ℕ) (test : Bool) → is_some o ≡ not test → test ≡ true
    → IfNone o (IsFree v node) → IsFree v node
none-free v node None test test_is none free = free
none-free v node (Some list) test test_is none free = let never : true ≡ false = test_is ∙ ap not none in
    absurd (differs never)
  where
    differs : true ≡ false → ⊥
    differs e = cc

pub some-listed : (v : NodeLists) (node : ℕ) (o : Option ℕ) (test : Bool) → is_some o ≡ not test → test ≡ false
    → IfSome o (λ list. Contains (nodes_of v list) node) → (list : ℕ) × Contains (nodes_of v list) node
some-listed v node None test test_is some listed = let never : false ≡ true = test_is ∙ ap not some in
    absurd (differs never)
  where
    differs : false ≡ true → ⊥
    differs e = cc
some-listed v node (Some list) test test_is some listed = (list, listed)
