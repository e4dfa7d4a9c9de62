use Rattle.lot_value.proofs.Lemmas.{Edge, HasEachOnce, IsEdge, IsNodeOf, Known, LeadsOutOf, List, Node, Some, ap, contains-nothing, each-done, each-here, each-next, edge-there, subst, sym, targets-marked, to-is, touched-none, touched-one, touched-then, within-node, ◌∙◌}
use Rattle.lot_value.proofs.touching.touch_targets.Goals as goal

pub loop-edge-init : goal.loop-edge-init
loop-edge-init c = record {
  split = subst (λ (edges : List Edge). HasEachOnce edges (LeadsOutOf c.args.graph.now.funding c.args.node))
      (sym c.into_iter-edge-iterator.ensures.into_iter_gives) c.edges_out_of-edge-items.ensures.edges;
  touched = touched-none c.args.graph.now c.args.values.now (IsEdge c.args.graph.now.funding c.args.node);
  marked = λ edge to c' ends. absurd (contains-nothing edge c');
}

pub unreachable-requires : goal.unreachable-requires
unreachable-requires c =
    let w = c.args.graph.now in
    let here = each-here (LeadsOutOf w.funding c.args.node) c.loop-edge.yielded _ _ c.in-Some.edge
    c.in-Some.ensures.steps c.loop-edge.invariant.split in
    c.in_default.not-Some _
    (c.ends_of_edge.ensures.ends ∙ edge-there w.funding c.in-Some.edge c.args.node here.0 here.1)

pub touch-requires-clause-layout : goal.touch-requires-clause-layout
touch-requires-clause-layout c = ap (λ (k : Known). k.layout) c.loop-edge.invariant.touched.others ∙ c.requires.layout

pub touch-requires-clause-node : goal.touch-requires-clause-node
touch-requires-clause-node c =
    let w = c.args.graph.now in
    let is = sym c.ends_of_edge.ensures.ends ∙ c.in-Some-ends_of_edge.is in
    let (to, ends) = each-here (LeadsOutOf w.funding c.args.node) c.loop-edge.yielded _ _ c.in-Some.edge
    c.in-Some.ensures.steps c.loop-edge.invariant.split in
    subst (IsNodeOf w) (sym (to-is w.funding c.in-Some.edge c.args.node to ends c.in-Some-ends_of_edge.ends is))
    (within-node w to (c.ends_of_edge.ensures.fits.to c.in-Some.edge c.args.node to ends))

pub loop-edge-preserved : goal.loop-edge-preserved
loop-edge-preserved c =
    let w = c.args.graph.now in
    let f = w.funding in
    let inv = c.loop-edge.invariant in
    let edge = c.in-Some.edge in
    let is = sym c.ends_of_edge.ensures.ends ∙ c.in-Some-ends_of_edge.is in
    let (to, ends) =
    each-here (LeadsOutOf f c.args.node) c.loop-edge.yielded _ _ edge c.in-Some.ensures.steps inv.split in
    let same = to-is f edge c.args.node to ends c.in-Some-ends_of_edge.ends is in
    let such : IsEdge f c.args.node c.in-Some-ends_of_edge.ends.to =
    (edge, ends ∙ ap (λ (x : Node). Some (c.args.node, x)) (sym same)) in
    let one = touched-one w c.loop-edge.values c.touch.new.self c.in-Some-ends_of_edge.ends.to
    (IsEdge f c.args.node) such (c.requires.ends c.args.node c.in-Some-ends_of_edge.ends.to such) c.touch.ensures.right
    c.touch.ensures.kept c.touch.ensures.only c.touch.ensures.others in record {
      split = each-next (LeadsOutOf f c.args.node) c.loop-edge.yielded _ _ edge c.in-Some.ensures.steps inv.split;
      touched = touched-then w c.args.values.now c.loop-edge.values c.touch.new.self (IsEdge f c.args.node)
          (IsEdge f c.args.node) (IsEdge f c.args.node) inv.touched one (λ x so. so) (λ x so. so);
      marked = targets-marked f c.loop-edge.values c.touch.new.self c.loop-edge.yielded edge c.args.node
          c.in-Some-ends_of_edge.ends.to such.1 c.touch.ensures.kept inv.marked c.touch.ensures.marked;
    }

pub returns-clause-marked : goal.returns-clause-marked
returns-clause-marked c to (edge, ends) =
    let f = c.args.graph.now.funding in
    let each =
    each-done (LeadsOutOf f c.args.node) c.loop-edge.yielded _ c.in-None.ensures.steps.0 c.loop-edge.invariant.split in
    c.loop-edge.invariant.marked edge to (each.all edge (to, ends)) ends
