-- The result of a call that wakes a node or puts it to sleep.
use Rattle.lot_active.proofs.Common.{Activity, AllEmpty, Bool, Changes, ChangesNodes, HasNoCycle, Held, IsKept, IsKeptFor, IsNet, IsSized, IsThread, Layout, LimitedFunding, List, Net, SetsAwake, Spreading, Thread, ap, arith, graph_net, layout_of, length, node_count, node_place, nodes_of, refl, set_number, slice_set, subst, sym, ℕ, [], ◌<◌, ◌∙◌, ◌≡◌, ◌≤◌}
use Rattle.lot_active.proofs.Bridge.{kept-lives, kept-place, thread-low, thread-within}
use Rattle.lot_active.proofs.Calls.{awake-spreads, end-changes_from, end-kept, local-by}
use Rattle.lot_active.proofs.Local.{kept-local}
use Rattle.lot_active.proofs.NodeChanges.{changes-nodes}

-- ---- the node at a place

module _ (g : Net) (on : Bool) (n : ℕ) (inside now : Activity) (view : inside ≡ now) (kept : IsKept g now)
    (there : n < g.nodes) (h set : Held) (awake : h.awake ≡ inside.awake) (amounts : h.amounts ≡ inside.amounts)
    (empty : AllEmpty h.lists) (sized : IsSized h) (sets : SetsAwake h set n on) where
  -- the call begins with the marks that were there
  same-awake : h.awake ≡ now.awake
  same-awake = awake ∙ ap (λ (v : Activity). v.awake) view

  -- and with the amounts that were there
  same-amounts : h.amounts ≡ now.amounts
  same-amounts = amounts ∙ ap (λ (v : Activity). v.amounts) view

  -- there are as many amounts as nodes
  size : length h.amounts ≡ g.nodes
  size = ap (length {A = ℕ}) same-amounts ∙ kept.amounts_length

  -- the change spreads from the node
  pub turn-spreads : Spreading g n on h set
  turn-spreads = awake-spreads g on h set n empty
      (local-by g now h same-awake same-amounts (kept-local g now kept)) sets (omega (arith, there, size, sized.awake))

  module _ (new : Held) (spreads : Spreading g n on h set → Spreading g n on h new) (none : nodes_of new.lists 0 ≡ [])
      (new_sized : IsSized new) (l : Layout) where
    -- what is kept holds again when nothing waits
    pub turn-kept : IsNet g → HasNoCycle g → length new.amounts ≡ length set.amounts
        → IsKept g (record { layout = l; awake = new.awake; amounts = new.amounts; switched = nodes_of new.lists 1; adjusted = nodes_of new.lists 2 })
    turn-kept net no_cycle same = end-kept g n on h new (spreads turn-spreads) none new_sized l net no_cycle
        (same ∙ ap (length {A = ℕ}) sets.amounts ∙ size)

    -- the lists then say what the call changed
    pub turn-changes : Changes g n now (record { layout = l; awake = new.awake; amounts = new.amounts; switched = nodes_of new.lists 1; adjusted = nodes_of new.lists 2 })
    turn-changes = end-changes_from g n on h new (spreads turn-spreads) none new_sized l now same-awake same-amounts

-- ---- a thread

module _ (w : LimitedFunding) (live : List Bool) (on : Bool) (t place : ℕ) (inside now : Activity) (view : inside ≡ now)
    (kept : IsKeptFor now w live) (there : IsThread w.funding t)
    (at : place ≡ node_place inside.layout (Thread t)) where
  -- the place is the thread's in the graph
  place-is : place ≡ node_place (layout_of w) (Thread t)
  place-is = kept-place now w live kept inside.layout (Thread t) place at (ap (λ (v : Activity). v.layout) view)

  -- the graph has the place
  pub turn-low : place < node_count (layout_of w)
  turn-low = subst (λ x. x < node_count (layout_of w)) (sym place-is) (thread-low w kept.fits t there)

  module _ (new : Activity) (low : t ≤ length live) (layout : new.layout ≡ now.layout)
      (awake : new.awake ≡ slice_set now.awake place on) (is : IsKept (graph_net w) new) where
    -- what is kept for the graph holds with the thread live, or not live
    pub turn-lives : IsKeptFor new w (set_number live t on)
    turn-lives = kept-lives now new w live t place on kept there low place-is layout awake is

    -- what changed at places is what changed at nodes
    pub turn-nodes : Changes (graph_net w) place now new → ChangesNodes w live w (set_number live t on) (Thread t) new
    turn-nodes changes =
        changes-nodes now new w w live (set_number live t on) kept turn-lives refl (Thread t)
        (thread-within w kept.fits t there)
        (subst (λ x. Changes (graph_net w) x now new) place-is changes)
