-- Graph, activity and values together follow an edge that comes or goes.
use Rattle.lot_value.proofs.Common.{Activity, AddsEdge, Bool, ChangesNodes, Currency, Edge, EdgeEnds, Funding, HasEquation, IsChangedEdge, IsEdge, IsKeptFor, IsListed, IsRight, IsStale, IsTouched, Known, LimitedFunding, List, Mutex, Node, None, OfLender, OfMutex, OfTicket, PathLeads, Reaches, Some, StandsFor, Thread, Touched, TouchesListed, ap, arith, ends_of, ends_of_edge, inl, inr, layout_of, length, only-there, refl, subst, sym, [], ◌∙◌, ◌≡◌, ◌⊎◌}
use Rattle.lot_value.proofs.Ends.{edge-there, there-edge, to-is}
use Rattle.lot_value.proofs.Nodes.{same-or-not as same-node}
use Rattle.lot_value.proofs.Rightness.{has-not-base}
use Rattle.lot_value.proofs.Following.{right-follows, listed-downstream, reach-path}

-- an edge as a node: which kind of the three it is, and its number
abbrev edge-node : Edge → Node
edge-node (OfTicket n) = Currency n
edge-node (OfLender n) = Thread n
edge-node (OfMutex n) = Mutex n

-- and back
abbrev node-edge : Node → Edge
node-edge (Currency n) = OfTicket n
node-edge (Thread n) = OfLender n
node-edge (Mutex n) = OfMutex n

-- nothing is lost on the way
edge-again : (edge : Edge) → node-edge (edge-node edge) ≡ edge
edge-again (OfTicket n) = refl
edge-again (OfLender n) = refl
edge-again (OfMutex n) = refl

-- two edges are the same or not
pub same-or-not : (a b : Edge) → (a ≡ b) ⊎ (¬ (a ≡ b))
same-or-not a b = by (same-node (edge-node a) (edge-node b))
  where
    by : (edge-node a ≡ edge-node b) ⊎ (¬ (edge-node a ≡ edge-node b)) → (a ≡ b) ⊎ (¬ (a ≡ b))
    by (inl same) = inl (sym (edge-again a) ∙ ap node-edge same ∙ edge-again b)
    by (inr off) = inr (λ same. off (ap edge-node same))

pub has-same : (f g : Funding) → length g.lends ≡ length f.lends → (node : Node) → HasEquation f node
    → HasEquation g node
has-same f g same (Currency c) has = has
has-same f g same (Thread t) has = (has.0, omega (arith, has.1, same))
has-same f g same (Mutex m) has = has

-- an edge that isn't there has no ends
pub no-ends : (f : Funding) (edge : Edge) (from to : Node) → ends_of_edge f edge ≡ None
    → ends_of f edge ≡ Some (from, to) → ⊥
no-ends f edge from to none at = let no = sym none ∙ edge-there f edge from to at in cc

-- the edge came, or it went
abbrev pub Differ : LimitedFunding → LimitedFunding → Edge → EdgeEnds → Type 0
Differ before after edge ends = AddsEdge before after edge ends ⊎ AddsEdge after before edge ends

module _ (before after : LimitedFunding) (edge : Edge) (ends : EdgeEnds) (differ : Differ before after edge ends)
    (stands : StandsFor before after ends) where
  pub same-layout : layout_of after ≡ layout_of before
  same-layout = by differ
    where
      by : Differ before after edge ends → layout_of after ≡ layout_of before
      by (inl adds) = adds.layout
      by (inr adds) = sym adds.layout

  -- another edge leads where it led
  same-others : (other : Edge) → ¬ (other ≡ edge) → ends_of_edge after.funding other ≡ ends_of_edge before.funding other
  same-others other off = by differ
    where
      by : Differ before after edge ends → ends_of_edge after.funding other ≡ ends_of_edge before.funding other
      by (inl adds) = adds.others other off
      by (inr adds) = sym (adds.others other off)

  -- and this one to its end
  own-end : (from to : Node)
      → (ends_of before.funding edge ≡ Some (from, to)) ⊎ (ends_of after.funding edge ≡ Some (from, to)) → ends.to ≡ to
  own-end from to at = by differ at
    where
      by : Differ before after edge ends → (ends_of before.funding edge ≡ Some (from, to))
          ⊎ (ends_of after.funding edge ≡ Some (from, to)) → ends.to ≡ to
      by (inl adds) (inl here) = absurd (no-ends before.funding edge from to adds.none here)
      by (inl adds) (inr here) = to-is after.funding edge from to here ends adds.here
      by (inr adds) (inl here) = to-is before.funding edge from to here ends adds.here
      by (inr adds) (inr here) = absurd (no-ends after.funding edge from to adds.none here)

  changed-edge : IsChangedEdge before.funding after.funding ends.from ends.to
  changed-edge = by differ
    where
      by : Differ before after edge ends → IsChangedEdge before.funding after.funding ends.from ends.to
      by (inl adds) = inr (only-there after.funding before.funding edge ends.from ends.to (there-edge after.funding edge
          ends adds.here) (λ at. no-ends before.funding edge ends.from ends.to adds.none at))
      by (inr adds) = inl (only-there before.funding after.funding edge ends.from ends.to (there-edge before.funding
          edge ends adds.here) (λ at. no-ends after.funding edge ends.from ends.to adds.none at))

  pub ends-have : ((from to : Node) → IsEdge before.funding from to → HasEquation before.funding to) → (from to : Node)
      → IsEdge after.funding from to → HasEquation after.funding to
  ends-have have from to (other, at) = by (same-or-not other edge)
    where
      by : (other ≡ edge) ⊎ (¬ (other ≡ edge)) → HasEquation after.funding to
      by (inl same) = subst (HasEquation after.funding)
          (own-end from to (inr (ap (ends_of after.funding) (sym same) ∙ at))) stands.has
      by (inr off) =
          let at_before =
          there-edge before.funding other _ (sym (same-others other off) ∙ edge-there after.funding other from to at) in
          has-same before.funding after.funding stands.threads to (have from to (other, at_before))

  module _ (old new : Activity) (live : List Bool) (c known : Known) (was : IsKeptFor old before live)
      (is : IsKeptFor new after live) (changes : ChangesNodes before live after live ends.from new) where
    pub right-one : {IsSuch : Node → Type 0} → IsRight before live c → Touched after c known IsSuch
        → TouchesListed after new known.stale → IsStale known ends.to → IsRight after live known
    right-one right touched listed marked =
        right-follows old new before after live live ends.from c known same-layout was is changes right
        (ends-have right.ends) (has-same before.funding after.funding stands.threads) listed
        (λ other. by other (same-or-not other edge)) touched
      where
        by : (other : Edge) → (other ≡ edge) ⊎ (¬ (other ≡ edge))
            → (ends_of_edge after.funding other ≡ ends_of_edge before.funding other)
            ⊎ ((from to : Node) → (ends_of before.funding other ≡ Some (from, to))
            ⊎ (ends_of after.funding other ≡ Some (from, to)) → IsStale known to)
        by other (inr off) = inl (same-others other off)
        by other (inl same) = inr (λ from to at. subst (IsStale known) (own-end from to (subst (λ (e : Edge). (ends_of
            before.funding e ≡ Some (from, to)) ⊎ (ends_of after.funding e ≡ Some (from, to))) same at)) marked)

    pub stale-one : Touched after c known (λ node. IsListed after new node ⊎ (node ≡ ends.to)) → (x : Node)
        → IsStale known x → IsStale c x ⊎ ((node : Node) × IsTouched before.funding after.funding live live node
        × PathLeads before.funding after.funding node x)
    stale-one touched x stale = by (touched.only x stale)
      where
        by : IsStale c x ⊎ ((node : Node) × (IsListed after new node ⊎ (node ≡ ends.to)) × Reaches after.funding node x)
            → IsStale c x ⊎ ((node : Node) × IsTouched before.funding after.funding live live node
            × PathLeads before.funding after.funding node x)
        by (inl already) = inl already
        by (inr (node, inl listed, reached)) = inr (listed-downstream before after live live ends.from new changes
            (inl (ends.to, inl changed-edge)) node listed x reached)
        by (inr (node, inr same, reached)) = inr (
          ends.to,
          (has-not-base after.funding ends.to stands.has, (ends.to, ([], refl), inl (ends.from, inr changed-edge))),
          reach-path before.funding after.funding ends.to x (subst (λ n. Reaches after.funding n x) same reached),
        )
