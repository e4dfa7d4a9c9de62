-- The nodes that two changes of a graph make stale together.
use Rattle.lot_value.proofs.Common.{Bool, FollowsGraph, Funding, IsStale, IsTouched, Known, LimitedFunding, List, LiveBetween, MakesStale, Node, PathLeads, Valued, WeighedBetween, ap, at_number, edges-between, inl, inr, leads-first, leads-second, live-between, subst, sym, touched-first, touched-second, weighed_of, ◌∙◌, ◌≡◌, ◌⊎◌}

-- what two steps make stale, given what is stale before, between and after them
module _ (f g h : Funding) (k l m : List Bool) (before between after : Node → Type 0) (edges : WeighedBetween f g h)
    (live : LiveBetween k l m) where
  pub makes-together : ((x : Node) → between x
      → before x ⊎ ((node : Node) × IsTouched f g k l node × PathLeads f g node x))
      → ((x : Node) → after x → between x ⊎ ((node : Node) × IsTouched g h l m node × PathLeads g h node x))
      → (x : Node) → after x → before x ⊎ ((node : Node) × IsTouched f h k m node × PathLeads f h node x)
  makes-together first second x stale = by (second x stale)
    where
      early : before x ⊎ ((node : Node) × IsTouched f g k l node × PathLeads f g node x)
          → before x ⊎ ((node : Node) × IsTouched f h k m node × PathLeads f h node x)
      early (inl old) = inl old
      early (inr (node, touched, leads)) =
          inr (node, touched-first f g h k l m edges live node touched, leads-first f g h edges node x leads)

      by : between x ⊎ ((node : Node) × IsTouched g h l m node × PathLeads g h node x)
          → before x ⊎ ((node : Node) × IsTouched f h k m node × PathLeads f h node x)
      by (inl was) = early (first x was)
      by (inr (node, touched, leads)) =
          inr (node, touched-second f g h k l m edges live node touched, leads-second f g h edges node x leads)

-- if the graph in between has no edge and no live thread that neither end has, and lacks none that both have
pub makes-both : (a b c : Valued) → WeighedBetween a.now.funding b.now.funding c.now.funding
    → LiveBetween a.live b.live c.live → MakesStale a b → MakesStale b c → MakesStale a c
makes-both a b c edges live = makes-together a.now.funding b.now.funding c.now.funding a.live b.live c.live
    (IsStale a.known) (IsStale b.known) (IsStale c.known) edges live

-- a change that changes neither the graph nor who is live makes nothing stale
pub makes-none : (a b : Valued) → b ≡ a → MakesStale a b
makes-none a b same x stale = inl (subst (λ (v : Valued). IsStale v.known x) same stale)

-- first who is live changes, and then the graph
pub lives-first : (a b c : Valued) → b.now ≡ a.now → c.live ≡ b.live → MakesStale a b → MakesStale b c → MakesStale a c
lives-first a b c graph live =
    makes-both a b c
    (edges-between a.now.funding b.now.funding c.now.funding
    (λ edge. inl (ap (λ (w : LimitedFunding). weighed_of w.funding edge) graph)))
    (live-between a.live b.live c.live (λ t. inr (ap (λ (flags : List Bool). at_number flags t) (sym live))))

-- first the graph changes, and then who is live
pub graph-first : (a b c : Valued) → b.live ≡ a.live → c.now ≡ b.now → MakesStale a b → MakesStale b c → MakesStale a c
graph-first a b c live graph =
    makes-both a b c
    (edges-between a.now.funding b.now.funding c.now.funding
    (λ edge. inr (ap (λ (w : LimitedFunding). weighed_of w.funding edge) (sym graph))))
    (live-between a.live b.live c.live (λ t. inl (ap (λ (flags : List Bool). at_number flags t) live)))

-- who is live doesn't change
pub edges-both : (a b c : Valued) → b.live ≡ a.live → WeighedBetween a.now.funding b.now.funding c.now.funding
    → MakesStale a b → MakesStale b c → MakesStale a c
edges-both a b c live edges = makes-both a b c edges
    (live-between a.live b.live c.live (λ t. inl (ap (λ (flags : List Bool). at_number flags t) live)))

-- two changes of the graph that come to this graph, one after the other
pub follows-both : (a b c : Valued) {one two graph : LimitedFunding} → c.now ≡ graph → FollowsGraph a b one
    → FollowsGraph b c two → WeighedBetween a.now.funding b.now.funding c.now.funding → FollowsGraph a c graph
follows-both a b c now first second edges = record {
  now = now;
  live = second.live ∙ first.live;
  known = second.known ∙ ap (λ (k : Known). record k { stale = c.known.stale }) first.known;
  kept = λ node is. second.kept node (first.kept node is);
  reached = edges-both a b c first.live edges first.reached second.reached;
}
