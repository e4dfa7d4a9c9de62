use Rattle.lot_value.proofs.Lemmas.{IsEdge, IsFundedBy, IsUser, Known, List, Node, all-yielded, ap, arith, common_steps, contains-nothing, funded-more, next-listed, subst, sym, touched-none, touched-then, ◌∙◌}
use Rattle.lot_value.proofs.touching.touch_funded.Goals as goal

pub loop-node-init : goal.loop-node-init
loop-node-init c = record {
  split = sym c.into_iter-node-iterator.ensures.into_iter_gives;
  touched = touched-none c.args.graph.now c.args.values.now (IsFundedBy c.args.graph.now c.args.nodes);
  marked = λ to by. absurd (contains-nothing by.0 by.1);
}

pub touch_funded_by-requires-clause-layout : goal.touch_funded_by-requires-clause-layout
touch_funded_by-requires-clause-layout c = ap (λ (k : Known). k.layout) c.loop-node.invariant.touched.others
    ∙ c.requires.layout

pub touch_funded_by-requires-clause-node : goal.touch_funded_by-requires-clause-node
touch_funded_by-requires-clause-node c = c.requires.nodes c.in-Some.node
    (next-listed _ c.loop-node.yielded _ _ c.in-Some.node c.loop-node.invariant.split c.in-Some.ensures.steps)

pub loop-node-preserved : goal.loop-node-preserved
loop-node-preserved c =
    let w = c.args.graph.now in
    let inv = c.loop-node.invariant in
    let node = c.in-Some.node in
    let here = next-listed _ c.loop-node.yielded _ _ node inv.split c.in-Some.ensures.steps in
    let by : Node → Type 0 = λ to. IsUser node × IsEdge w.funding node to in record {
      split = grind (arith, common_steps);
      touched = touched-then w c.args.values.now c.loop-node.values c.touch_funded_by.new.values
          (IsFundedBy w c.args.nodes) by (IsFundedBy w c.args.nodes) inv.touched c.touch_funded_by.ensures.touched
          (λ x so. so) (λ x so. (node, here, so.0, so.1));
      marked = funded-more w c.loop-node.values c.touch_funded_by.new.values c.loop-node.yielded node
          c.touch_funded_by.ensures.touched.kept inv.marked c.touch_funded_by.ensures.marked;
    }

pub returns-clause-marked : goal.returns-clause-marked
returns-clause-marked c to funded =
    c.loop-node.invariant.marked to (subst (λ (xs : List Node). IsFundedBy c.args.graph.now xs to)
    (all-yielded _ c.loop-node.yielded _ c.loop-node.invariant.split c.in-None.ensures.steps.0) funded)
