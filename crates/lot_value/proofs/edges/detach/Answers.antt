use Rattle.lot_value.proofs.Lemmas.{IsListed, Known, Node, ap, ends-have, follows-one, inl, inr, listed-more, live_of, refl, touched-one, touched-then, ◌∙◌, ◌≡◌, ◌⊎◌}
use Rattle.lot_value.proofs.edges.detach.Goals as goal

pub touch_listed-requires : goal.touch_listed-requires
touch_listed-requires c =
    let (before, edge, adds, stands, together) = c.requires.before in
    let live = live_of before c.args.active.now in
    let changes = c.detach.ensures.changes before edge live adds together.kept in
    record {
      layout = together.right.layout ∙ adds.layout;
      kept = (live, c.detach.ensures.kept before edge live adds together.kept);
      switched = λ node listed. (changes.switched.each node listed).0;
      adjusted = λ node listed. (changes.adjusted.each node listed).0;
      ends = ends-have before c.args.graph.now edge c.args.ends (inr adds) stands together.right.ends;
    }

pub returns-clause-follows : goal.returns-clause-follows
returns-clause-follows c before edge adds stands together =
    let w = c.args.graph.now in
    let such : Node → Type 0 = λ node. IsListed w c.detach.new.self node ⊎ (node ≡ c.args.ends.to) in
    let live = live_of before c.args.active.now in
    let is = c.detach.ensures.kept before edge live adds together.kept in
    let changes = c.detach.ensures.changes before edge live adds together.kept in
    let one = touched-one w c.touch_listed.new.values c.touch.new.self c.args.ends.to such
    (inr refl) stands.has c.touch.ensures.right c.touch.ensures.kept c.touch.ensures.only c.touch.ensures.others in
    let touched = touched-then w c.args.values.now c.touch_listed.new.values c.touch.new.self
    (IsListed w c.detach.new.self) such such c.touch_listed.ensures.touched one (λ x so. inl so) (λ x so. so) in
    let listed = listed-more w c.detach.new.self c.touch_listed.new.values c.touch.new.self c.touch.ensures.kept
    c.touch_listed.ensures.listed in
    follows-one before w edge c.args.ends (inr adds) stands c.args.active.now c.detach.new.self c.args.values.now
    c.touch.new.self together is changes touched listed c.touch.ensures.marked

pub detach-requires-clause-kept : goal.detach-requires-clause-kept
detach-requires-clause-kept c = let (before, edge, adds, stands, together) = c.requires.before in
    (before, edge, live_of before c.args.active.now, adds, together.kept)

pub touch-requires-clause-layout : goal.touch-requires-clause-layout
touch-requires-clause-layout c =
    let (before, edge, adds, stands, together) = c.requires.before in
    ap (λ (k : Known). k.layout) c.touch_listed.ensures.touched.others ∙ together.right.layout ∙ adds.layout

pub touch-requires-clause-node : goal.touch-requires-clause-node
touch-requires-clause-node c = let (before, edge, adds, stands, together) = c.requires.before in stands.within

pub returns-clause-kept : goal.returns-clause-kept
returns-clause-kept c node is = c.touch.ensures.kept node (c.touch_listed.ensures.touched.kept node is)

pub returns-clause-others : goal.returns-clause-others
returns-clause-others c = c.touch.ensures.others
    ∙ ap (λ (k : Known). record k { stale = c.touch.new.self.stale }) c.touch_listed.ensures.touched.others
