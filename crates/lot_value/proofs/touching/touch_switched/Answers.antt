use Rattle.lot_value.proofs.Lemmas.{Contains, HasEquation, IsEdge, IsFundedBy, IsSwitchedOrFunded, IsUser, Known, List, Node, all-yielded, ap, arith, common_steps, contains-nothing, funded-more, inl, inr, marked-more, next-listed, subst, switched_nodes, sym, touched-none, touched-then, ◌∙◌, ◌≡◌}
use Rattle.lot_value.proofs.touching.touch_switched.Goals as goal

pub loop-node-init : goal.loop-node-init
loop-node-init c = let (live, kept) = c.requires.kept in record {
  split = sym (c.into_iter-node-iterator.ensures.into_iter_gives
      ∙ c.switched-node-items.ensures.nodes c.args.graph.now live kept);
  touched = touched-none c.args.graph.now c.args.values.now (IsSwitchedOrFunded c.args.graph.now c.args.active.now);
  marked = λ x c' has. absurd (contains-nothing x c');
  funded = λ to by. absurd (contains-nothing by.0 by.1);
}

pub touch_node-requires-clause-layout : goal.touch_node-requires-clause-layout
touch_node-requires-clause-layout c = ap (λ (k : Known). k.layout) c.loop-node.invariant.touched.others
    ∙ c.requires.layout

pub touch_node-requires-clause-node : goal.touch_node-requires-clause-node
touch_node-requires-clause-node c = c.requires.nodes c.in-Some.node
    (next-listed _ c.loop-node.yielded _ _ c.in-Some.node c.loop-node.invariant.split c.in-Some.ensures.steps)

pub touch_funded_by-requires-clause-layout : goal.touch_funded_by-requires-clause-layout
touch_funded_by-requires-clause-layout c = ap (λ (k : Known). k.layout) c.touch_node.ensures.touched.others
    ∙ ap (λ (k : Known). k.layout) c.loop-node.invariant.touched.others ∙ c.requires.layout

pub touch_funded_by-requires-clause-node : goal.touch_funded_by-requires-clause-node
touch_funded_by-requires-clause-node c = c.requires.nodes c.in-Some.node
    (next-listed _ c.loop-node.yielded _ _ c.in-Some.node c.loop-node.invariant.split c.in-Some.ensures.steps)

pub loop-node-preserved : goal.loop-node-preserved
loop-node-preserved c =
    let w = c.args.graph.now in
    let v = c.args.active.now in
    let inv = c.loop-node.invariant in
    let node = c.in-Some.node in
    let here = next-listed _ c.loop-node.yielded _ _ node inv.split c.in-Some.ensures.steps in
    let all = IsSwitchedOrFunded w v in
    let itself : Node → Type 0 = λ x. (x ≡ node) × HasEquation w.funding x in
    let by : Node → Type 0 = λ to. IsUser node × IsEdge w.funding node to in
    let first = touched-then w c.args.values.now c.loop-node.values c.touch_node.new.values all itself all inv.touched
    c.touch_node.ensures.touched (λ x so. so)
    (λ x so. inl (subst (Contains (switched_nodes w v)) (sym so.0) here, so.1)) in record {
      split = grind (arith, common_steps);
      touched = touched-then w c.args.values.now c.touch_node.new.values c.touch_funded_by.new.values all by all first
          c.touch_funded_by.ensures.touched (λ x so. so) (λ x so. inr (node, here, so.0, so.1));
      marked = marked-more c.loop-node.values c.touch_funded_by.new.values (HasEquation w.funding) c.loop-node.yielded
          node (λ x is. c.touch_funded_by.ensures.touched.kept x (c.touch_node.ensures.touched.kept x is)) inv.marked
          (λ has. c.touch_funded_by.ensures.touched.kept node (c.touch_node.ensures.marked has));
      funded = funded-more w c.loop-node.values c.touch_funded_by.new.values c.loop-node.yielded node
          (λ x is. c.touch_funded_by.ensures.touched.kept x (c.touch_node.ensures.touched.kept x is)) inv.funded
          c.touch_funded_by.ensures.marked;
    }

pub returns-clause-marked : goal.returns-clause-marked
returns-clause-marked c node listed has = c.loop-node.invariant.marked node (subst (λ (xs : List Node). Contains xs
    node) (all-yielded _ c.loop-node.yielded _ c.loop-node.invariant.split c.in-None.ensures.steps.0) listed) has

pub returns-clause-funded : goal.returns-clause-funded
returns-clause-funded c to funded =
    c.loop-node.invariant.funded to (subst (λ (xs : List Node). IsFundedBy c.args.graph.now xs to)
    (all-yielded _ c.loop-node.yielded _ c.loop-node.invariant.split c.in-None.ensures.steps.0) funded)
