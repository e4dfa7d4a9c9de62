-- The changes of a call, by nodes.
use Rattle.lot_active.proofs.Common.{Activity, AdjustsNode, AwakeAre, Bool, Changes, ChangesNodes, Contains, Currency, Edge, EdgePlaces, FitsIn, Funding, HasEachOnce, IsActiveNode, IsEdgeWithin, IsKeptFor, IsNodeOf, IsNodeWithin, IsTrue, IsWay, Layout, Lend, LimitedFunding, List, Mutex, Nobody, Node, None, OfLender, OfMutex, OfTicket, Option, Some, SwitchesNode, Tells, Thread, ToMutex, ToThread, active_amount, adjusted_nodes, amount_from, amount_of, ap, ap₂, arith, at_number, awake_at, borrower, cases_lt, cond, contains-at, contains-mapped, counted_amount, edge-back, edge-low, edge_at, edge_count, edge_place, ends-lender, ends-mutex, ends_of, false, get_or_past, graph_net, inl, inr, is_backed, is_backed-exact, layout_of, leads_to, leads_to_passed, lend_node, lender-ends, list-back, map, mapped-at, mapped-contains, mark_of, mutex-ends, nat_lt, net_of, node-back, node_amount, node_count, node_of, node_place, option_and_then, option_any, option_map, owner_of, part, place-back, places_of_edge, refl, same-list, subst, suc, sum_below, switched_nodes, sym, ticket-ends, true, zero, ℕ, [], ◌+◌, ◌<◌, ◌||◌, ◌↔◌, ◌∙◌, ◌∷◌, ◌≡◌, ◌≢◌, ◌≤◌, ◌⊎◌}
use Rattle.lot_machine.specs.Facts as facts
use Rattle.lot_graph.specs.Graphs.{Reaches}
use Rattle.lot_active.proofs.Local.{awake-is}
use Rattle.lot_active.proofs.Sums.{sum-more, part-here, part-off, part-none}
use Rattle.lot_active.proofs.Ends.{places-ends, places-edge}
use Rattle.lot_active.proofs.Ways.{net-active, active-net}
use Rattle.lot_active.proofs.Bridge.{kept-amount}

-- ---- a node with one edge out at most

same-bool : (a b : Bool) → (a ≡ true → b ≡ true) → (b ≡ true → a ≡ true) → a ≡ b
same-bool true true p q = refl
same-bool false false p q = refl
same-bool true false p q = let wrong = p refl in cc
same-bool false true p q = let wrong = q refl in cc

zero-sum : (m : ℕ) → sum_below m (λ e. 0) ≡ 0
zero-sum zero = refl
zero-sum (suc m) = omega (arith, zero-sum m)

module _ (l : Layout) (f : Funding) (live awake : List Bool) (fits : FitsIn l f) (are : AwakeAre l live awake)
    (none : facts.HasNoCycle f) (test : ℕ → Bool) (tells : Tells (net_of l f) awake test) where
  thread-test : (s : ℕ) → IsNodeWithin l (Thread s) → test (node_place l (Thread s)) ≡ is_backed f live s
  thread-test s within =
      same-bool (test (node_place l (Thread s))) (is_backed f live s)
      (λ on. (is_backed-exact f none.lends live s).1
      (net-active l f live awake fits are (Thread s) within ((tells (node_place l (Thread s))).0 on)))
      (λ on. (tells (node_place l (Thread s))).1
      (active-net l f live awake fits are (Thread s) within ((is_backed-exact f none.lends live s).0 on)))

  owner-backed : (m : ℕ) (o : Option ℕ) → owner_of f m ≡ o → option_any (is_backed f live) o ≡ true
      → IsActiveNode f live (Mutex m)
  owner-backed m None is e = cc
  owner-backed m (Some owner) is e = (owner, is, (is_backed-exact f none.lends live owner).0 e)

  mutex-test : (m : ℕ) → IsNodeWithin l (Mutex m)
      → test (node_place l (Mutex m)) ≡ option_any (is_backed f live) (owner_of f m)
  mutex-test m within =
      same-bool (test (node_place l (Mutex m))) (option_any (is_backed f live) (owner_of f m))
      (λ on. by (net-active l f live awake fits are (Mutex m) within ((tells (node_place l (Mutex m))).0 on)))
      (λ on. (tells (node_place l (Mutex m))).1
      (active-net l f live awake fits are (Mutex m) within (owner-backed m (owner_of f m) refl on)))
    where
      by : IsActiveNode f live (Mutex m) → option_any (is_backed f live) (owner_of f m) ≡ true
      by (owner, owned, backed) = ap (option_any (is_backed f live)) owned
          ∙ (is_backed-exact f none.lends live owner).1 backed

  -- what an edge gives to the amount of the node at a place
  piece_at : Edge → ℕ → ℕ
  piece_at edge place = part (places_of_edge l f edge) (leads_to_passed test (places_of_edge l f edge)) place

  -- an edge that is there and lent
  lent-piece : (edge : Edge) (from to : Node) (b : Bool) → ends_of f edge ≡ Some (from, to) → counted_amount f edge ≡ 1
      → test (node_place l to) ≡ b → piece_at edge (node_place l from) ≡ cond b 1 0
  unfolding piece_at
  lent-piece edge from to b ends one is =
      let a : EdgePlaces = record { from = node_place l from; to = node_place l to; amount = counted_amount f edge } in
      ap (λ (o : Option EdgePlaces). part o (leads_to_passed test o) (node_place l from))
      (ap (option_map (λ (x : Node × Node). let made : EdgePlaces =
      record { from = node_place l x.0; to = node_place l x.1; amount = counted_amount f edge } in made)) ends)
      ∙ ap (λ c. part (Some a) c (node_place l from)) is ∙ by b
    where
      by : (c : Bool) → part (Some (let a : EdgePlaces =
          record { from = node_place l from; to = node_place l to; amount = counted_amount f edge } in a)) c
          (node_place l from) ≡ cond c 1 0
      by true = part-here (record { from = node_place l from; to = node_place l to; amount = counted_amount f edge })
          (node_place l from) refl ∙ one
      by false = part-none (Some (let a : EdgePlaces =
          record { from = node_place l from; to = node_place l to; amount = counted_amount f edge } in a))
          (node_place l from)

  no-piece : (edge : Edge) (place : ℕ) → ends_of f edge ≡ None → piece_at edge place ≡ 0
  unfolding piece_at
  no-piece edge place gone =
      ap (λ (o : Option EdgePlaces). part o (leads_to_passed test o) place)
      (ap (option_map (λ (x : Node × Node). let made : EdgePlaces =
      record { from = node_place l x.0; to = node_place l x.1; amount = counted_amount f edge } in made)) gone)

  -- if only this edge can leave the node, the sum is what it gives
  one-edge : (edge : Edge) (from : Node) → IsNodeWithin l from → IsEdgeWithin l edge
      → ((other : Edge) (to : Node) → ends_of f other ≡ Some (from, to) → other ≡ edge)
      → amount_from (net_of l f) (leads_to (net_of l f) test) (node_place l from) ≡ piece_at edge (node_place l from)
  unfolding piece_at
  one-edge edge from within in_edges only =
      sum-more (edge_count l) (λ e. part (places_of_edge l f (edge_at l e))
      (leads_to_passed test (places_of_edge l f (edge_at l e))) (node_place l from)) (λ e. 0) (edge_place l edge)
      (piece_at edge (node_place l from)) (edge-low l edge in_edges) here others
      ∙ (let none_else = zero-sum (edge_count l) in omega (arith, none_else))
    where
      here : part (places_of_edge l f (edge_at l (edge_place l edge)))
          (leads_to_passed test (places_of_edge l f (edge_at l (edge_place l edge)))) (node_place l from)
          ≡ 0 + part (places_of_edge l f edge) (leads_to_passed test (places_of_edge l f edge)) (node_place l from)
      here = ap (λ x. part (places_of_edge l f x) (leads_to_passed test (places_of_edge l f x)) (node_place l from))
          (edge-back l edge in_edges) ∙ omega arith

      others : (e : ℕ) → ¬ (e ≡ edge_place l edge) → part (places_of_edge l f (edge_at l e))
          (leads_to_passed test (places_of_edge l f (edge_at l e))) (node_place l from) ≡ 0
      others e off = by (places_of_edge l f (edge_at l e)) refl
        where
          elsewhere : (a : EdgePlaces) → places_of_edge l f (edge_at l e) ≡ Some a → ¬ (a.from ≡ node_place l from)
          elsewhere a is same =
              let r = places-ends l f (edge_at l e) a is in
              let from_is : r.0 ≡ from =
              same-list l r.0 from (fits.from (edge_at l e) r.0 r.1 r.2) within (sym r.3 ∙ same) in
              let edge_is : edge_at l e ≡ edge =
              only (edge_at l e) r.1 (r.2 ∙ ap (λ (x : Node). let p : Node × Node = (x, r.1) in Some p) from_is) in
              off (sym (place-back l e) ∙ ap (edge_place l) edge_is)

          by : (o : Option EdgePlaces) → places_of_edge l f (edge_at l e) ≡ o
              → part o (leads_to_passed test o) (node_place l from) ≡ 0
          by None is = refl
          by (Some a) is = part-off a (test a.to) (node_place l from) (elsewhere a is)

  lend-piece : (t : ℕ) → piece_at (OfLender t) (node_place l (Thread t)) ≡ node_amount f live (Thread t)
  lend-piece t = by (at_number f.lends t) refl
    where
      gone : (o : Option Lend) → at_number f.lends t ≡ o → option_and_then lend_node o ≡ None
          → option_and_then (borrower f) o ≡ None
          → piece_at (OfLender t) (node_place l (Thread t)) ≡ node_amount f live (Thread t)
      gone o is no_node no_borrower =
          no-piece (OfLender t) (node_place l (Thread t)) (no-ends o is no_node) ∙ sym
          (ap (λ x. cond (option_any (is_backed f live) x) 1 0) (ap (option_and_then (borrower f)) is ∙ no_borrower))
        where
          no-ends : (x : Option Lend) → at_number f.lends t ≡ x → option_and_then lend_node x ≡ None
              → ends_of f (OfLender t) ≡ None
          no-ends None at e = ap (option_and_then
              (λ lend. option_map (λ to. let p : Node × Node = (Thread t, to) in p) (lend_node lend))) at
          no-ends (Some lend) at e =
              ap (option_and_then (λ x. option_map (λ to. let p : Node × Node = (Thread t, to) in p) (lend_node x))) at
              ∙ ap (option_map (λ to. let p : Node × Node = (Thread t, to) in p)) e

      by : (o : Option Lend) → at_number f.lends t ≡ o
          → piece_at (OfLender t) (node_place l (Thread t)) ≡ node_amount f live (Thread t)
      by None is = gone None is refl refl
      by (Some Nobody) is = gone (Some Nobody) is refl refl
      by (Some (ToThread s)) is =
          let ends = ends-lender f t (ToThread s) (Thread s) is refl in
          lent-piece (OfLender t) (Thread t) (Thread s) (is_backed f live s) ends refl
          (thread-test s (fits.to (OfLender t) (Thread t) (Thread s) ends))
          ∙ sym (ap (λ x. cond (option_any (is_backed f live) x) 1 0) (ap (option_and_then (borrower f)) is))
      by (Some (ToMutex m)) is =
          let ends = ends-lender f t (ToMutex m) (Mutex m) is refl in
          lent-piece (OfLender t) (Thread t) (Mutex m) (option_any (is_backed f live) (owner_of f m)) ends refl
          (mutex-test m (fits.to (OfLender t) (Thread t) (Mutex m) ends))
          ∙ sym (ap (λ x. cond (option_any (is_backed f live) x) 1 0) (ap (option_and_then (borrower f)) is))

  own-piece : (m : ℕ) → piece_at (OfMutex m) (node_place l (Mutex m)) ≡ node_amount f live (Mutex m)
  own-piece m = by (owner_of f m) refl
    where
      by : (o : Option ℕ) → owner_of f m ≡ o
          → piece_at (OfMutex m) (node_place l (Mutex m)) ≡ node_amount f live (Mutex m)
      by None is =
          no-piece (OfMutex m) (node_place l (Mutex m))
          (ap (option_map (λ owner. let p : Node × Node = (Mutex m, Thread owner) in p)) is)
          ∙ sym (ap (λ x. cond (option_any (is_backed f live) x) 1 0) is)
      by (Some owner) is =
          let ends = ends-mutex f m owner is in
          lent-piece (OfMutex m) (Mutex m) (Thread owner) (is_backed f live owner) ends refl
          (thread-test owner (fits.to (OfMutex m) (Mutex m) (Thread owner) ends))
          ∙ sym (ap (λ x. cond (option_any (is_backed f live) x) 1 0) is)

  pub lend-amount : (t : ℕ) → IsNodeWithin l (Thread t)
      → amount_from (net_of l f) (leads_to (net_of l f) test) (node_place l (Thread t)) ≡ node_amount f live (Thread t)
  lend-amount t within = one-edge (OfLender t) (Thread t) within within only ∙ lend-piece t
    where
      only : (other : Edge) (to : Node) → ends_of f other ≡ Some (Thread t, to) → other ≡ OfLender t
      only (OfTicket n) to ends = let r = ticket-ends f n (Thread t) to ends in
          let wrong : Thread t ≡ Currency r.0.issuer = r.2 in cc
      only (OfLender u) to ends = let r = lender-ends f u (Thread t) to ends in let same : Thread t ≡ Thread u = r.2 in
          cc
      only (OfMutex m) to ends = let r = mutex-ends f m (Thread t) to ends in let wrong : Thread t ≡ Mutex m = r.2 in cc

  pub own-amount : (m : ℕ) → IsNodeWithin l (Mutex m)
      → amount_from (net_of l f) (leads_to (net_of l f) test) (node_place l (Mutex m)) ≡ node_amount f live (Mutex m)
  own-amount m within = one-edge (OfMutex m) (Mutex m) within within only ∙ own-piece m
    where
      only : (other : Edge) (to : Node) → ends_of f other ≡ Some (Mutex m, to) → other ≡ OfMutex m
      only (OfTicket n) to ends = let r = ticket-ends f n (Mutex m) to ends in
          let wrong : Mutex m ≡ Currency r.0.issuer = r.2 in cc
      only (OfLender u) to ends = let r = lender-ends f u (Mutex m) to ends in let wrong : Mutex m ≡ Thread u = r.2 in
          cc
      only (OfMutex k) to ends = let r = mutex-ends f k (Mutex m) to ends in let same : Mutex m ≡ Mutex k = r.2 in cc

-- ---- what is kept of a node

module _ (v : Activity) (w : LimitedFunding) (live : List Bool) (kept : IsKeptFor v w live) where
  pub kept-node : (node : Node) → IsNodeWithin (layout_of w) node
      → IsTrue (mark_of v (node_place (layout_of w) node)) ↔ IsActiveNode w.funding live node
  kept-node node within =
      let tells = kept.kept.marks (node_place (layout_of w) node) in (
        λ on. net-active (layout_of w) w.funding live v.awake kept.fits kept.awake node within (tells.0 on),
        λ is. tells.1 (active-net (layout_of w) w.funding live v.awake kept.fits kept.awake node within is),
      )

  pub kept-node_amount : (node : Node) → IsNodeWithin (layout_of w) node
      → amount_of v (node_place (layout_of w) node) ≡ node_amount w.funding live node
  kept-node_amount (Currency c) within = kept-amount v w live kept c within
  kept-node_amount (Thread t) within =
      let (test, tells, is) = kept.kept.amounts (node_place (layout_of w) (Thread t)) in is
      ∙ lend-amount (layout_of w) w.funding live v.awake kept.fits kept.awake kept.sound.no_cycle test tells t within
  kept-node_amount (Mutex m) within =
      let (test, tells, is) = kept.kept.amounts (node_place (layout_of w) (Mutex m)) in is
      ∙ own-amount (layout_of w) w.funding live v.awake kept.fits kept.awake kept.sound.no_cycle test tells m within

  -- after the last place nothing is held
  pub past-amount : (place : ℕ) → node_count (layout_of w) ≤ place → amount_of v place ≡ 0
  past-amount place high =
      get_or_past v.amounts place 0 (let size = kept.kept.amounts_length in omega (arith, size, high))

  pub past-mark : (place : ℕ) → node_count (layout_of w) ≤ place → mark_of v place ≡ false
  past-mark place high =
      ap₂ (λ (b : Bool) (n : ℕ). b || nat_lt 0 n) (get_or_past v.awake place false
      (let size = kept.kept.awake_length in omega (arith, size, high))) (past-amount place high)

-- ---- lists of nodes

module _ (l : Layout) (xs : List ℕ) (IsSo : ℕ → Type 0) (Good : Node → Type 0) (each_once : HasEachOnce xs IsSo)
    (low : (place : ℕ) → IsSo place → place < node_count l)
    (good : (place : ℕ) → place < node_count l → IsSo place → Good (node_of l place))
    (back : (node : Node) → Good node → IsNodeWithin l node × IsSo (node_place l node)) where
  pub nodes-each : HasEachOnce (map (node_of l) xs) Good
  nodes-each = record {
    each = λ node c.
        let (place, there, is) = contains-mapped (node_of l) xs node c in
        let so = each_once.each place there in
        subst Good is (good place (low place so) so);
    all = λ node is.
        let r = back node is in
        subst (Contains (map (node_of l) xs)) (node-back l node r.0)
        (mapped-contains (node_of l) xs (node_place l node) (each_once.all (node_place l node) r.1));
    once = λ node place other at at'.
        let a = mapped-at (node_of l) xs place node at in
        let b = mapped-at (node_of l) xs other node at' in
        let low_a = low a.0 (each_once.each a.0 (contains-at xs place a.0 a.1)) in
        let low_b = low b.0 (each_once.each b.0 (contains-at xs other b.0 b.1)) in
        let same : b.0 ≡ a.0 = sym (list-back l b.0 low_b).0 ∙ ap (node_place l) (b.2 ∙ sym a.2)
        ∙ (list-back l a.0 low_a).0 in
        each_once.once a.0 place other a.1 (b.1 ∙ ap Some same);
  }

-- a path of the net is a path of edges
pub way-reaches : (l : Layout) (f : Funding) → FitsIn l f → (a b : Node) (x : ℕ) (way : List ℕ) (y : ℕ)
    → IsNodeWithin l a → IsNodeWithin l b → x ≡ node_place l a → y ≡ node_place l b → IsWay (net_of l f) x way y
    → Reaches f a b
way-reaches l f fits a b x [] y in_a in_b x_is y_is same = ([], same-list l a b in_a in_b (sym x_is ∙ same ∙ y_is))
way-reaches l f fits a b x (next ∷ rest) y in_a in_b x_is y_is (places, others) =
    let (edge, to, ends, next_is) = places-edge l f fits a x next in_a x_is places in
    let more = way-reaches l f fits to b next rest y (fits.to edge a to ends) in_b next_is y_is others in
    (to ∷ more.0, ((edge, ends), more.1))

-- the node is one of those that there may be
pub node-within : (w : LimitedFunding) (node : Node) → IsNodeOf w node → IsNodeWithin (layout_of w) node
node-within w (Currency c) is = is
node-within w (Thread t) is = is
node-within w (Mutex m) is = is

pub within-node : (w : LimitedFunding) (node : Node) → IsNodeWithin (layout_of w) node → IsNodeOf w node
within-node w (Currency c) is = is
within-node w (Thread t) is = is
within-node w (Mutex m) is = is

-- ---- what changed

either-way : {A B : Type 0} (a b : Bool) → (IsTrue a ↔ A) → (IsTrue b ↔ B) → ¬ (a ≡ b) → (A × (¬ B)) ⊎ (B × (¬ A))
either-way true true p q off = absurd (off refl)
either-way false false p q off = absurd (off refl)
either-way true false p q off = inl (p.0 refl, λ is. let wrong : false ≡ true = q.1 is in cc)
either-way false true p q off = inr (q.0 refl, λ is. let wrong : false ≡ true = p.1 is in cc)

not-same : {A B : Type 0} (a b : Bool) → (IsTrue a ↔ A) → (IsTrue b ↔ B) → (A × (¬ B)) ⊎ (B × (¬ A)) → ¬ (a ≡ b)
not-same a b p q (inl (is, off)) same = off (q.0 (sym same ∙ p.1 is))
not-same a b p q (inr (is, off)) same = off (p.0 (same ∙ q.1 is))

module _ (old new : Activity) (before now : LimitedFunding) (live after : List Bool) (was : IsKeptFor old before live)
    (is : IsKeptFor new now after) (layout : layout_of now ≡ layout_of before) where
  was-node : (node : Node) → IsNodeWithin (layout_of now) node
      → IsTrue (mark_of old (node_place (layout_of now) node)) ↔ IsActiveNode before.funding live node
  was-node node = subst (λ (l : Layout). IsNodeWithin l node → IsTrue (mark_of old (node_place l node))
      ↔ IsActiveNode before.funding live node) (sym layout) (kept-node old before live was node)

  was-amount : (node : Node) → IsNodeWithin (layout_of now) node
      → amount_of old (node_place (layout_of now) node) ≡ node_amount before.funding live node
  was-amount node = subst (λ (l : Layout). IsNodeWithin l node → amount_of old (node_place l node)
      ≡ node_amount before.funding live node) (sym layout) (kept-node_amount old before live was node)

  was-past : (place : ℕ) → node_count (layout_of now) ≤ place → (mark_of old place ≡ false) × (amount_of old place ≡ 0)
  was-past place =
      subst (λ (l : Layout). node_count l ≤ place → (mark_of old place ≡ false) × (amount_of old place ≡ 0))
      (sym layout) (λ high. (past-mark old before live was place high, past-amount old before live was place high))

  -- the marks differ if and only if the node was switched
  pub switched-node : (node : Node) → IsNodeWithin (layout_of now) node
      → ¬ (mark_of new (node_place (layout_of now) node) ≡ mark_of old (node_place (layout_of now) node))
      → SwitchesNode before.funding live now.funding after node
  switched-node node within = either-way (mark_of new (node_place (layout_of now) node))
      (mark_of old (node_place (layout_of now) node)) (kept-node new now after is node within) (was-node node within)

  pub node-switched : (node : Node) → IsNodeWithin (layout_of now) node
      → SwitchesNode before.funding live now.funding after node
      → ¬ (mark_of new (node_place (layout_of now) node) ≡ mark_of old (node_place (layout_of now) node))
  node-switched node within = not-same (mark_of new (node_place (layout_of now) node))
      (mark_of old (node_place (layout_of now) node)) (kept-node new now after is node within) (was-node node within)

  pub same-node : (node : Node) → IsNodeWithin (layout_of now) node
      → mark_of new (node_place (layout_of now) node) ≡ mark_of old (node_place (layout_of now) node)
      → IsActiveNode now.funding after node ↔ IsActiveNode before.funding live node
  same-node node within same =
      let p = kept-node new now after is node within in
      let q = was-node node within in
      (λ on. q.0 (sym same ∙ p.1 on), λ on. p.0 (same ∙ q.1 on))

  pub node-same : (node : Node) → IsNodeWithin (layout_of now) node
      → IsActiveNode now.funding after node ↔ IsActiveNode before.funding live node
      → mark_of new (node_place (layout_of now) node) ≡ mark_of old (node_place (layout_of now) node)
  node-same node within same =
      let p = kept-node new now after is node within in
      let q = was-node node within in
      same-bool (mark_of new (node_place (layout_of now) node)) (mark_of old (node_place (layout_of now) node))
      (λ on. q.1 (same.0 (p.0 on))) (λ on. p.1 (same.1 (q.0 on)))

  adjusted-node : (node : Node) → IsNodeWithin (layout_of now) node
      → ¬ (amount_of new (node_place (layout_of now) node) ≡ amount_of old (node_place (layout_of now) node))
      → mark_of new (node_place (layout_of now) node) ≡ mark_of old (node_place (layout_of now) node)
      → AdjustsNode before.funding live now.funding after node
  adjusted-node node within off same =
      ((λ equal. off (kept-node_amount new now after is node within ∙ equal ∙ sym (was-amount node within))), same-node node within same)

  node-adjusted : (node : Node) → IsNodeWithin (layout_of now) node
      → AdjustsNode before.funding live now.funding after node
      → (¬ (amount_of new (node_place (layout_of now) node) ≡ amount_of old (node_place (layout_of now) node)))
      × (mark_of new (node_place (layout_of now) node) ≡ mark_of old (node_place (layout_of now) node))
  node-adjusted node within (off, same) =
      ((λ equal. off (sym (kept-node_amount new now after is node within) ∙ equal ∙ was-amount node within)), node-same node within same)

  module _ (begun : Node) (in_begun : IsNodeWithin (layout_of now) begun)
      (changes : Changes (graph_net now) (node_place (layout_of now) begun) old new) where
    switched-low : (place : ℕ) → ¬ (mark_of new place ≡ mark_of old place) → place < node_count (layout_of now)
    switched-low place off = elim (cases_lt place (node_count (layout_of now))) [
      | inl low ↦ low
      | inr high ↦ absurd (off (past-mark new now after is place high ∙ sym (was-past place high).0))
    ]

    adjusted-low : (place : ℕ) → (¬ (amount_of new place ≡ amount_of old place))
        × (mark_of new place ≡ mark_of old place) → place < node_count (layout_of now)
    adjusted-low place (off, same) = elim (cases_lt place (node_count (layout_of now))) [
      | inl low ↦ low
      | inr high ↦ absurd (off (past-amount new now after is place high ∙ sym (was-past place high).1))
    ]

    path-from : (place : ℕ) → place < node_count (layout_of now) → Contains new.switched place
        ⊎ Contains new.adjusted place → Reaches now.funding (node_of (layout_of now) place) begun
    path-from place low listed =
        let back = list-back (layout_of now) place low in
        let (way, steps) = changes.upstream place listed in
        way-reaches (layout_of now) now.funding is.fits (node_of (layout_of now) place) begun place way
        (node_place (layout_of now) begun) back.1 in_begun (sym back.0) refl steps

    path-to : (node : Node) → Contains (switched_nodes now new) node ⊎ Contains (adjusted_nodes now new) node
        → Reaches now.funding node begun
    path-to node (inl c) =
        let (place, there, at) = contains-mapped (node_of (layout_of now)) new.switched node c in
        subst (λ (x : Node). Reaches now.funding x begun) at
        (path-from place (switched-low place (changes.switched.each place there)) (inl there))
    path-to node (inr c) =
        let (place, there, at) = contains-mapped (node_of (layout_of now)) new.adjusted node c in
        subst (λ (x : Node). Reaches now.funding x begun) at
        (path-from place (adjusted-low place (changes.adjusted.each place there)) (inr there))

    pub changes-nodes : ChangesNodes before live now after begun new
    changes-nodes = record {
      switched = nodes-each (layout_of now) new.switched (λ place. ¬ (mark_of new place ≡ mark_of old place)) (λ node.
          IsNodeOf now node × SwitchesNode before.funding live now.funding after node) changes.switched switched-low
          (λ place low off.
          let back = list-back (layout_of now) place low in
          let there : ¬ (mark_of new (node_place (layout_of now) (node_of (layout_of now) place))
          ≡ mark_of old (node_place (layout_of now) (node_of (layout_of now) place))) =
          subst (λ x. ¬ (mark_of new x ≡ mark_of old x)) (sym back.0) off in
          (within-node now (node_of (layout_of now) place) back.1, switched-node (node_of (layout_of now) place) back.1 there))
          (λ node (there, so). let within = node-within now node there in (within, node-switched node within so));
      adjusted = nodes-each (layout_of now) new.adjusted
          (λ place. (¬ (amount_of new place ≡ amount_of old place)) × (mark_of new place ≡ mark_of old place)) (λ node.
          IsNodeOf now node × AdjustsNode before.funding live now.funding after node) changes.adjusted adjusted-low
          (λ place low off.
          let back = list-back (layout_of now) place low in
          let there : (¬ (amount_of new (node_place (layout_of now) (node_of (layout_of now) place)) ≡ amount_of old
          (node_place (layout_of now) (node_of (layout_of now) place)))) × (mark_of new (node_place (layout_of now)
          (node_of (layout_of now) place)) ≡ mark_of old (node_place (layout_of now) (node_of (layout_of now) place))) =
          subst (λ x. (¬ (amount_of new x ≡ amount_of old x)) × (mark_of new x ≡ mark_of old x)) (sym back.0) off in
          (within-node now (node_of (layout_of now) place) back.1, adjusted-node (node_of (layout_of now) place) back.1 there.0 there.1))
          (λ node (there, so). let within = node-within now node there in (within, node-adjusted node within so));
      leads = path-to;
    }

-- ---- currencies

-- no currency is awake
no-currency : (v : Activity) (w : LimitedFunding) (live : List Bool) → IsKeptFor v w live → (c : ℕ)
    → c ≤ w.currency_limit → awake_at v.awake c ≡ false
no-currency v w live kept c low = by (awake_at v.awake c) refl
  where
    by : (b : Bool) → awake_at v.awake c ≡ b → awake_at v.awake c ≡ false
    by false off = off
    by true on = let (t, place, within, alive) = kept.awake.lives c (awake-is v.awake c on) in
        absurd (omega (arith, place, within, low))

bits : (a b : Bool) → (a ≡ b) ⊎ ¬ (a ≡ b)
bits true true = inl refl
bits false false = inl refl
bits true false = inr (λ same. cc)
bits false true = inr (λ same. cc)

-- a currency is listed if and only if its active amount is another
pub amounts-listed : (begun : Node) (old new : Activity) (before now : LimitedFunding) (live after : List Bool) (c : ℕ)
    → ChangesNodes before live now after begun new → IsKeptFor old before live → IsKeptFor new now after
    → layout_of now ≡ layout_of before → c ≤ now.currency_limit
    → (Contains (switched_nodes now new) (Currency c) ⊎ Contains (adjusted_nodes now new) (Currency c))
    ↔ (active_amount now.funding after c ≢ active_amount before.funding live c)
amounts-listed begun old new before now live after c changes was is layout low =
    (listed, λ off. other off (bits (mark_of new c) (mark_of old c)))
  where
    still : c ≤ before.currency_limit
    still = omega (arith, low, ap (λ (l : Layout). l.currencies) layout)

    was_amount : amount_of old c ≡ active_amount before.funding live c
    was_amount = kept-amount old before live was c still

    now_amount : amount_of new c ≡ active_amount now.funding after c
    now_amount = kept-amount new now after is c low

    asleep : awake_at new.awake c ≡ awake_at old.awake c
    asleep = no-currency new now after is c low ∙ sym (no-currency old before live was c still)

    listed : Contains (switched_nodes now new) (Currency c) ⊎ Contains (adjusted_nodes now new) (Currency c)
        → active_amount now.funding after c ≢ active_amount before.funding live c
    listed (inl on) same =
        node-switched old new before now live after was is layout (Currency c) low (changes.switched.each
        (Currency c) on).1 (ap₂ (λ (b : Bool) (n : ℕ). b || nat_lt 0 n) asleep (now_amount ∙ same ∙ sym was_amount))
    listed (inr on) same = (changes.adjusted.each (Currency c) on).1.0 same

    other : active_amount now.funding after c ≢ active_amount before.funding live c
        → (mark_of new c ≡ mark_of old c) ⊎ ¬ (mark_of new c ≡ mark_of old c)
        → Contains (switched_nodes now new) (Currency c) ⊎ Contains (adjusted_nodes now new) (Currency c)
    other off (inl same) = inr (changes.adjusted.all (Currency c)
        (low, (off, same-node old new before now live after was is layout (Currency c) low same)))
    other off (inr switched) = inl (changes.switched.all (Currency c)
        (low, switched-node old new before now live after was is layout (Currency c) low switched))
