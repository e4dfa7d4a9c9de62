use Rattle.lot_graph.proofs.Lemmas.{Edge, HasEachOnce, IfSome, IsNodeWithin, IsOfSome, LeadsInto, List, contains-nothing, into-within, layout_of, next-contained, some-more, spread-none, subst, sym, tail-within, tail_of, tails-all, walk-end, walk-more, within-limits, [], ◌++◌, ◌∙◌}
use Rattle.lot_graph.proofs.above.GraphSteps.add_next.Goals as goal

pub edges_into-edge-items-requires : goal.edges_into-edge-items-requires
edges_into-edge-items-requires c =
    record { node = within-limits c.args.self.now c.args.node (subst (λ l. IsNodeWithin l c.args.node) c.requires.fit c.requires.within) }

pub loop-edge-init : goal.loop-edge-init
loop-edge-init c = record {
  split = subst (λ (es : List Edge). HasEachOnce es (LeadsInto c.args.self.now.funding c.args.node))
      (sym c.into_iter-edge-iterator.ensures.into_iter_gives) c.edges_into-edge-items.ensures.edges;
  found_list = c.requires.list;
  spread = spread-none c.args.found.now (IsOfSome c.args.layout (tail_of c.args.self.now.funding) [])
      (λ x (edge, there, here). absurd (contains-nothing edge there));
}

pub tail_of-requires : goal.tail_of-requires
tail_of-requires c =
    let w = c.args.self.now in
    let there = next-contained c.loop-edge.yielded c.loop-edge.edge-iterator c.next.new.self c.in-Some.edge
    c.in-Some.ensures.steps in
    record { within = into-within (layout_of w) w.funding c.args.node (c.loop-edge.yielded ++ c.loop-edge.edge-iterator) c.loop-edge.invariant.split c.edges_into-edge-items.ensures.fits c.in-Some.edge there }

pub add_node-requires-clause-within : goal.add_node-requires-clause-within
add_node-requires-clause-within c =
    let w = c.args.self.now in
    let there = next-contained c.loop-edge.yielded c.loop-edge.edge-iterator c.next.new.self c.in-Some.edge
    c.in-Some.ensures.steps in
    subst (λ l. IfSome c.tail_of.result (IsNodeWithin l)) (sym c.requires.fit)
    (tail-within (layout_of w) w.funding c.args.node
    (c.loop-edge.yielded ++ c.loop-edge.edge-iterator) c.loop-edge.invariant.split c.edges_into-edge-items.ensures.fits
    c.in-Some.edge there c.tail_of.result c.tail_of.ensures)

pub loop-edge-preserved : goal.loop-edge-preserved
loop-edge-preserved c =
    let before = c.loop-edge.invariant in
    let spreads = c.add_node.ensures.spreads in record {
      split = walk-more c.loop-edge.yielded c.loop-edge.edge-iterator c.next.new.self c.in-Some.edge
          c.in-Some.ensures.steps before.split;
      found_list = (spreads.nodes ∙ before.found_list.0, spreads.lists ∙ before.found_list.1);
      spread = some-more c.args.layout (tail_of c.args.self.now.funding) c.loop-edge.yielded c.in-Some.edge _ _ _
          c.tail_of.result before.spread c.tail_of.ensures spreads;
    }

pub returns : goal.returns
returns c =
    let into =
    walk-end c.loop-edge.yielded c.loop-edge.edge-iterator c.in-None.ensures.steps.0 c.loop-edge.invariant.split in
    record { spreads = tails-all c.args.layout c.args.self.now.funding c.args.node c.loop-edge.yielded into _ _ c.loop-edge.invariant.spread }
