-- An edge that moves from one active node to another.
use Rattle.lot_active.proofs.Common.{Activity, Adds, AddsEdge, Bool, ChangesNodes, Contains, Edge, EdgeEnds, EdgePlaces, FitsLimits, IsKeptFor, IsLive, IsNodeWithin, IsSound, Layout, LimitedFunding, List, Net, Node, Option, Reaches, Some, Thread, ap, cases_eq, contains-nothing, edge_place, graph_net, inl, inr, is_on, layout_of, leads_to_passed, mark_of, node_count, node_place, part, places_of_ends, refl, subst, sum_below, sym, true, ℕ, [], ◌∙◌, ◌≡◌, ◌⊎◌}
use Rattle.lot_active.proofs.Local.{IsLocal, awake-on, kept-local, local-kept}
use Rattle.lot_active.proofs.Sums.{sum-same}
use Rattle.lot_active.proofs.Edits.{adds-net}
use Rattle.lot_active.proofs.Bridge.{graph-net, graph-no_cycle, kept-moves}
use Rattle.lot_active.proofs.NodeChanges.{changes-nodes}

-- ---- by place

-- what an edge gives to the amount of a node
piece : (ℕ → Bool) → ℕ → Option EdgePlaces → ℕ
piece test n o = part o (leads_to_passed test o) n

-- it gives as much if it leads to another node that passes the test
same-piece : (test : ℕ → Bool) (n : ℕ) (a b : EdgePlaces) → b.from ≡ a.from → b.amount ≡ a.amount → test a.to ≡ true
    → test b.to ≡ true → piece test n (Some a) ≡ piece test n (Some b)
unfolding piece
same-piece test n a b from amount on_a on_b = rw (on_a, on_b, from, amount) refl

-- the amounts are those of the net with the edge elsewhere
pub moved-local : (less old new : Net) (e : ℕ) (a b : EdgePlaces) → Adds less old e a → Adds less new e b
    → b.from ≡ a.from → b.amount ≡ a.amount → (awake : List Bool) (amounts : List ℕ) → is_on awake amounts a.to ≡ true
    → is_on awake amounts b.to ≡ true
    → IsLocal old awake amounts → IsLocal new awake amounts
unfolding piece
moved-local less old new e a b was is from amount awake amounts on_a on_b local n =
    local n ∙ sum-same old.edges (λ k. piece test n (old.places k)) (λ k. piece test n (new.places k))
    (λ k low. at k (cases_eq k e)) ∙ ap (λ m. sum_below m (λ k. piece test n (new.places k))) (was.edges ∙ sym is.edges)
  where
    test : ℕ → Bool
    test = is_on awake amounts

    at : (k : ℕ) → (k ≡ e) ⊎ (¬ (k ≡ e)) → piece test n (old.places k) ≡ piece test n (new.places k)
    at k (inl same) = ap (piece test n) (ap old.places same ∙ was.here) ∙ same-piece test n a b from amount on_a on_b
        ∙ sym (ap (piece test n) (ap new.places same ∙ is.here))
    at k (inr off) = ap (piece test n) (was.others k off ∙ sym (is.others k off))

-- ---- by node

-- nothing is listed
abbrev pub unlisted : Activity → Activity
unlisted v = record v { switched = []; adjusted = [] }

module _ (mid w now : LimitedFunding) (edge : Edge) (a b : EdgeEnds) (was : AddsEdge mid w edge a)
    (is : AddsEdge mid now edge b) (from : b.from ≡ a.from) (amount : b.amount ≡ a.amount) (v : Activity)
    (live : List Bool) (kept : IsKeptFor v w live)
    (sound : IsSound now.funding) (fits : FitsLimits now) (s t : ℕ) (to_s : a.to ≡ Thread s) (to_t : b.to ≡ Thread t)
    (in_s : IsNodeWithin (layout_of w) (Thread s)) (in_t : IsNodeWithin (layout_of w) (Thread t))
    (live_s : IsLive live s) (live_t : IsLive live t) where
  pub moved-layout : layout_of now ≡ layout_of w
  moved-layout = is.layout ∙ sym was.layout

  on-at : (node : Node) (x : ℕ) → node ≡ Thread x → IsNodeWithin (layout_of w) (Thread x) → IsLive live x
      → mark_of v (node_place (layout_of w) node) ≡ true
  on-at node x same within lives = ap (λ (k : Node). mark_of v (node_place (layout_of w) k)) same
      ∙ awake-on v.awake v.amounts (node_place (layout_of w) (Thread x)) (kept.awake.wakes x within lives)

  at-now : Adds (graph_net mid) (graph_net now) (edge_place (layout_of w) edge) (places_of_ends (layout_of w) b)
  at-now = subst (λ (l : Layout). Adds (graph_net mid) (graph_net now) (edge_place l edge) (places_of_ends l b))
      moved-layout (adds-net mid now edge b fits is)

  local : IsLocal (graph_net now) v.awake v.amounts
  local =
      moved-local (graph_net mid) (graph_net w) (graph_net now) (edge_place (layout_of w) edge)
      (places_of_ends (layout_of w) a) (places_of_ends (layout_of w) b) (adds-net mid w edge a kept.fits was) at-now
      (ap (node_place (layout_of w)) from) amount v.awake v.amounts (on-at a.to s to_s in_s live_s)
      (on-at b.to t to_t in_t live_t) (kept-local (graph_net w) v kept.kept)

  -- the same is kept whatever is listed
  pub moved-kept : (switched adjusted : List ℕ)
      → IsKeptFor (record v { switched = switched; adjusted = adjusted }) now live
  moved-kept switched adjusted =
      let new : Activity = record v { switched = switched; adjusted = adjusted } in
      kept-moves v new w now live kept moved-layout sound fits refl refl
      (local-kept (graph_net now) new (graph-net now fits) (graph-no_cycle now fits sound) (kept.kept.awake_length
      ∙ sym (ap node_count moved-layout)) (kept.kept.amounts_length ∙ sym (ap node_count moved-layout)) local)

  -- and no node is switched or adjusted
  pub moved-changes : (begun : Node) → IsNodeWithin (layout_of now) begun
      → ChangesNodes w live now live begun (unlisted v)
  moved-changes begun within =
      changes-nodes v (unlisted v) w now live live kept (moved-kept [] []) moved-layout begun within (record {
        switched = record { each = λ x c. absurd (contains-nothing x c); all = λ x off. absurd (off refl); once = λ x place other at. cc };
        adjusted = record { each = λ x c. absurd (contains-nothing x c); all = λ x off. absurd (off.0 refl); once = λ x place other at. cc };
        upstream = λ n listed. none n listed;
      })
    where
      none : (n : ℕ) → Contains (unlisted v).switched n ⊎ Contains (unlisted v).adjusted n
          → Reaches (graph_net now) n (node_place (layout_of now) begun)
      none n (inl c) = absurd (contains-nothing n c)
      none n (inr c) = absurd (contains-nothing n c)
