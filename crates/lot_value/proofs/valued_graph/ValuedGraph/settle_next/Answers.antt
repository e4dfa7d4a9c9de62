use Rattle.lot_value.proofs.Lemmas.{HasEquation, IfNone, IfSome, IsNodeOf, IsNodeWithin, IsOnce, IsUnit, Known, Layout, LimitedFunding, Node, None, Option, Settles, Some, Valued, ap, counted_up, edge_count_into, layout_of, live_of, node-within, right-worth, stays-small, subst, sym, within-node, [], ◌≡◌}
use Rattle.lot_value.proofs.valued_graph.ValuedGraph.settle_next.Goals as goal

unit-stays : (old new : Known) (o : Option Node) → IfSome o (Settles old new)
    → IfNone o ((old.stale ≡ []) × (new ≡ old)) → new.unit ≡ old.unit
unit-stays old new (Some node) settles none = settles.unit
unit-stays old new None settles none = ap (λ (k : Known). k.unit) none.1

is-of : (w : LimitedFunding) (known : Known) (o : Option Node) → known.layout ≡ layout_of w
    → IfSome o (IsNodeWithin known.layout) → IfSome o (IsNodeOf w)
is-of w known (Some node) layout within = within-node w node (subst (λ (l : Layout). IsNodeWithin l node) layout within)
is-of w known None layout within = tt

pub settle_next-requires : goal.settle_next-requires
settle_next-requires c =
    let w = c.self.inside.graph in
    let inv = c.self.invariant in
    let live = live_of w c.self.inside.active in
    record { right = (live, inv.kept, stays-small c.self.inside.values.unit w live inv.kept.fits inv.tickets inv.unit, inv.right) }

pub invariant_of-self : goal.invariant_of-self
invariant_of-self c =
    let inv = c.self.invariant in record {
      kept = inv.kept;
      right = c.settle_next.ensures.right (live_of c.self.inside.graph c.self.inside.active) inv.kept inv.right;
      tickets = inv.tickets;
      unit = subst IsUnit (sym (unit-stays c.self.inside.values c.settle_next.new.self c.settle_next.result
          c.settle_next.ensures.settles c.settle_next.ensures.none)) inv.unit;
    }

pub returns-clause-worth : goal.returns-clause-worth
returns-clause-worth c node within fresh has =
    let w = c.self.inside.graph in
    let inv = c.self.invariant in
    let live = live_of w c.self.inside.active in
    let right = c.settle_next.ensures.right live inv.kept inv.right in
    right-worth w live c.settle_next.new.self inv.kept.sound inv.kept.fits right node fresh
    (node-within w node within) has

pub returns-clause-within : goal.returns-clause-within
returns-clause-within c =
    subst (λ (v : Valued). IfSome c.settle_next.result (IsNodeOf v.now)) c.self.view_is (is-of c.self.inside.graph
    c.self.inside.values c.settle_next.result c.self.invariant.right.layout c.settle_next.ensures.within)

pub returns-clause-now : goal.returns-clause-now
returns-clause-now c = ap (λ (v : Valued). v.now) c.self.view_is

pub returns-clause-live : goal.returns-clause-live
returns-clause-live c = ap (λ (v : Valued). v.live) c.self.view_is

pub returns-clause-layout : goal.returns-clause-layout
returns-clause-layout c =
    let inv = c.self.invariant in
    (c.settle_next.ensures.right (live_of c.self.inside.graph c.self.inside.active) inv.kept inv.right).layout

pub returns-clause-node : goal.returns-clause-node
returns-clause-node c = subst
    (λ (v : Valued). IfSome c.settle_next.result (HasEquation v.now.funding)) c.self.view_is c.settle_next.ensures.node

pub returns-clause-once : goal.returns-clause-once
returns-clause-once c = subst (λ (v : Valued). IsOnce v.known) c.self.view_is c.settle_next.ensures.once

pub returns-clause-settles : goal.returns-clause-settles
returns-clause-settles c = subst (λ (v : Valued). IfSome c.settle_next.result (Settles v.known c.settle_next.new.self))
    c.self.view_is c.settle_next.ensures.settles

pub returns-clause-counted : goal.returns-clause-counted
returns-clause-counted c =
    subst (λ (v : Valued). IfSome c.settle_next.result (λ node. c.settle_next.new.self.reads
    ≡ counted_up v.known.reads (edge_count_into v.now.funding node))) c.self.view_is c.settle_next.ensures.counted
