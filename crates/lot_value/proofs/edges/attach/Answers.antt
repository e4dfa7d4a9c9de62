use Rattle.lot_value.proofs.Lemmas.{HasEquation, IsListed, IsNodeOf, IsStale, Known, Node, ap, ends-have, follows-one, inl, inr, listed-more, live_of, subst, sym, there-edge, to-is, touched-one, touched-then, ◌∙◌, ◌≡◌, ◌⊎◌}
use Rattle.lot_value.proofs.edges.attach.Goals as goal

pub touch_listed-requires : goal.touch_listed-requires
touch_listed-requires c =
    let (before, ends, adds, stands, together) = c.requires.before in
    let live = live_of before c.args.active.now in
    let changes = c.attach.ensures.changes before ends live adds together.kept in
    record {
      layout = together.right.layout ∙ sym adds.layout;
      kept = (live, c.attach.ensures.kept before ends live adds together.kept);
      switched = λ node listed. (changes.switched.each node listed).0;
      adjusted = λ node listed. (changes.adjusted.each node listed).0;
      ends = ends-have before c.args.graph.now c.args.edge ends (inl adds) stands together.right.ends;
    }

pub returns-clause-follows : goal.returns-clause-follows
returns-clause-follows c before ends adds stands together =
    let w = c.args.graph.now in
    let such : Node → Type 0 = λ node. IsListed w c.attach.new.self node ⊎ (node ≡ ends.to) in
    let live = live_of before c.args.active.now in
    let is = c.attach.ensures.kept before ends live adds together.kept in
    let changes = c.attach.ensures.changes before ends live adds together.kept in
    let same = to-is w.funding c.args.edge ends.from ends.to
    (there-edge w.funding c.args.edge ends adds.here) c.in-Some.ends (sym c.ends_of_edge.ensures.ends ∙ c.in-Some.is) in
    let one = touched-one w c.touch_listed.new.values c.touch.new.self c.in-Some.ends.to such (inr same)
    (subst (HasEquation w.funding) (sym same) stands.has) c.touch.ensures.right c.touch.ensures.kept
    c.touch.ensures.only c.touch.ensures.others in
    let touched = touched-then w c.args.values.now c.touch_listed.new.values c.touch.new.self
    (IsListed w c.attach.new.self) such such c.touch_listed.ensures.touched one (λ x so. inl so) (λ x so. so) in
    let listed = listed-more w c.attach.new.self c.touch_listed.new.values c.touch.new.self c.touch.ensures.kept
    c.touch_listed.ensures.listed in
    follows-one before w c.args.edge ends (inl adds) stands c.args.active.now c.attach.new.self c.args.values.now
    c.touch.new.self together is changes touched listed (subst (IsStale c.touch.new.self) same c.touch.ensures.marked)

pub unreachable-requires : goal.unreachable-requires
unreachable-requires c =
    let (before, ends, adds, stands, together) = c.requires.before in
    c.in_default.not-Some ends (c.ends_of_edge.ensures.ends ∙ adds.here)

pub touch-requires-clause-node : goal.touch-requires-clause-node
touch-requires-clause-node c =
    let w = c.args.graph.now in
    let (before, ends, adds, stands, together) = c.requires.before in
    let same = to-is w.funding c.args.edge ends.from ends.to
    (there-edge w.funding c.args.edge ends adds.here) c.in-Some.ends (sym c.ends_of_edge.ensures.ends ∙ c.in-Some.is) in
    subst (IsNodeOf w) (sym same) stands.within

pub attach-requires : goal.attach-requires
attach-requires c = let (before, ends, adds, stands, together) = c.requires.before in
    record { kept = (before, ends, live_of before c.args.active.now, adds, together.kept) }

pub touch-requires-clause-layout : goal.touch-requires-clause-layout
touch-requires-clause-layout c =
    let (before, ends, adds, stands, together) = c.requires.before in
    ap (λ (k : Known). k.layout) c.touch_listed.ensures.touched.others ∙ together.right.layout ∙ sym adds.layout

pub returns-clause-kept : goal.returns-clause-kept
returns-clause-kept c node is = c.touch.ensures.kept node (c.touch_listed.ensures.touched.kept node is)

pub returns-clause-others : goal.returns-clause-others
returns-clause-others c = c.touch.ensures.others
    ∙ ap (λ (k : Known). record k { stale = c.touch.new.self.stale }) c.touch_listed.ensures.touched.others
