use Rattle.lot_value.proofs.Lemmas.{IsNodeWithin, Layout, LeadsToPlace, Node, Some, Spreads, ap, arith, contains-at, followed-end, followed-marks, followed-more, followed-start, layout_of, length, list-back, list-low, listed-low, node-within, node_at, node_count, node_of, nodes_of, same-list, subst, sym, with_pushed, within-node, ◌+◌, ◌<◌, ◌∙◌}
use Rattle.lot_value.proofs.marking.mark_unlisted.Goals as goal

pub push_back-requires-clause-node_exists : goal.push_back-requires-clause-node_exists
push_back-requires-clause-node_exists c =
    let w = c.args.graph.now in
    let low = list-low (layout_of w) c.args.node (node-within w c.args.node c.requires.node) in
    omega (arith, c.requires.place, low, c.requires.list.nodes)

pub loop-init : goal.loop-init
loop-init c =
    let w = c.args.graph.now in
    let place = c.requires.place in
    let pushed = c.push_back.ensures.pushed ∙ ap (with_pushed c.args.stale.now 0) place in
    let start = followed-start (layout_of w) w.funding c.args.stale.now c.push_back.new.self c.args.node
    (node-within w c.args.node c.requires.node) c.requires.list.one pushed in record {
      list = same-list c.args.stale.now c.push_back.new.self _ c.requires.list c.push_back.ensures.same_size
          c.push_back.ensures.consistent;
      is_next = ap Some place ∙ sym start.marked ∙ ap (node_at c.push_back.new.self 0) (omega arith);
      followed = start;
    }

pub node_of-requires : goal.node_of-requires
node_of-requires c =
    let l = layout_of c.args.graph.now in
    let at = sym c.loop.invariant.is_next ∙ c.in-Some.is in
    subst (λ (x : Layout). c.in-Some.from < node_count x) (sym c.layout-layout.ensures.layout)
    (listed-low c.loop.stale (node_count l) _ c.in-Some.from c.loop.invariant.list at)

pub add_targets-requires-clause-node : goal.add_targets-requires-clause-node
add_targets-requires-clause-node c =
    let w = c.args.graph.now in
    let l = layout_of w in
    let at = sym c.loop.invariant.is_next ∙ c.in-Some.is in
    let low = listed-low c.loop.stale (node_count l) _ c.in-Some.from c.loop.invariant.list at in
    let is = c.node_of.ensures ∙ ap (λ (x : Layout). node_of x c.in-Some.from) c.layout-layout.ensures.layout in
    within-node w c.node_of.result (subst (IsNodeWithin l) (sym is) (list-back l c.in-Some.from low).1)

pub next-next-requires : goal.next-next-requires
next-next-requires c =
    let place = length (nodes_of c.args.stale.now 0) + c.loop.counter in
    let at = sym c.loop.invariant.is_next ∙ c.in-Some.is in
    record { listed = record { list = 0; contains = contains-at (nodes_of c.add_targets.new.stale 0) place c.in-Some.from (c.add_targets.ensures.spreads.kept place c.in-Some.from at) } }

pub loop-preserved : goal.loop-preserved
loop-preserved c =
    let w = c.args.graph.now in
    let l = layout_of w in
    let old = nodes_of c.args.stale.now 0 in
    let place = length old + c.loop.counter in
    let at = sym c.loop.invariant.is_next ∙ c.in-Some.is in
    let is = c.node_of.ensures ∙ ap (λ (x : Layout). node_of x c.in-Some.from) c.layout-layout.ensures.layout in
    let spreads = subst (λ (n : Node). Spreads c.loop.stale c.add_targets.new.stale (LeadsToPlace l w.funding n)) is
    c.add_targets.ensures.spreads in record {
      list = c.add_targets.ensures.list;
      is_next = c.next-next.ensures.following 0 place (spreads.kept place c.in-Some.from at)
          ∙ ap (node_at c.add_targets.new.stale 0) (omega arith);
      followed =
          followed-more l w.funding c.layout-layout.ensures.fits old c.loop.stale c.add_targets.new.stale c.args.node
          c.loop.counter c.in-Some.from c.loop.invariant.list.consistent c.loop.invariant.followed at spreads;
    }

pub returns-in_default-clause-marks : goal.returns-in_default-clause-marks
returns-in_default-clause-marks c =
    let w = c.args.graph.now in
    let old = nodes_of c.args.stale.now 0 in
    followed-marks (layout_of w) w.funding old c.loop.stale c.args.node c.loop.counter c.loop.invariant.followed
    (followed-end c.loop.stale (length old) c.loop.counter c.loop.next c.loop.invariant.is_next c.in_default.is)

pub returns-clause-marks : goal.returns-clause-marks
returns-clause-marks c =
    let w = c.args.graph.now in
    followed-marks (layout_of w) w.funding
    (nodes_of c.args.stale.now 0) c.loop.stale c.args.node c.loop.counter c.loop.invariant.followed
    (omega (arith, c.loop.invariant.list.consistent.bounded 0, c.loop.invariant.list.nodes, c.loop-test.false, c.node_count-end.ensures ∙ ap node_count c.layout-layout.ensures.layout))
