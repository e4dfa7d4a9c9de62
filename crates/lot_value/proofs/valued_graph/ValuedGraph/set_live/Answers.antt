use Rattle.lot_value.proofs.Lemmas.{ChangesNodes, IsKeptFor, IsThread, Thread, Valued, becomes, follows-set, live_of, low, refl, set_number, subst, sym}
use Rattle.lot_value.proofs.valued_graph.ValuedGraph.set_live.Goals as goal
use Rattle.lot_value.proofs.valued_graph.ValuedGraph.set_live.Goals.{After-set_live}

-- who is live now, and which nodes that changed
awoken : (c : After-set_live) → IsThread c.self.inside.graph.funding c.args.thread × IsKeptFor c.set_live.new.self
    c.self.inside.graph (set_number (live_of c.self.inside.graph c.self.inside.active) c.args.thread c.args.live)
    × ChangesNodes c.self.inside.graph (live_of c.self.inside.graph c.self.inside.active) c.self.inside.graph
    (set_number (live_of c.self.inside.graph c.self.inside.active) c.args.thread c.args.live)
    (Thread c.args.thread) c.set_live.new.self
awoken c =
    let i = c.self.inside in
    let there = subst (λ (x : Valued). IsThread x.now.funding c.args.thread) (sym c.self.view_is) c.requires.thread in
    let few = low i.graph i.active c.args.thread there in
    let live = live_of i.graph i.active in
    (there, c.set_live.ensures.kept live c.self.invariant.kept few, c.set_live.ensures.changes live c.self.invariant.kept few)

pub set_live-requires-clause-thread : goal.set_live-requires-clause-thread
set_live-requires-clause-thread c =
    subst (λ (x : Valued). IsThread x.now.funding c.args.thread) (sym c.self.view_is) c.requires.thread

pub set_live-requires-clause-kept : goal.set_live-requires-clause-kept
set_live-requires-clause-kept c = (live_of c.self.inside.graph c.self.inside.active, c.self.invariant.kept)

pub touch_listed-requires-clause-kept : goal.touch_listed-requires-clause-kept
touch_listed-requires-clause-kept c = let (there, kept, changes) =
    awoken (goal.at.touch_listed-requires-clause-kept c).After-set_live in (_, kept)

pub touch_listed-requires-clause-switched : goal.touch_listed-requires-clause-switched
touch_listed-requires-clause-switched c node listed = let (there, kept, changes) =
    awoken (goal.at.touch_listed-requires-clause-switched c).After-set_live in (changes.switched.each node listed).0

pub touch_listed-requires-clause-adjusted : goal.touch_listed-requires-clause-adjusted
touch_listed-requires-clause-adjusted c node listed = let (there, kept, changes) =
    awoken (goal.at.touch_listed-requires-clause-adjusted c).After-set_live in (changes.adjusted.each node listed).0

pub touch_listed-requires-clause-ends : goal.touch_listed-requires-clause-ends
touch_listed-requires-clause-ends c = c.self.invariant.right.ends

pub invariant_of-self : goal.invariant_of-self
invariant_of-self c =
    let i = c.self.inside in
    let (there, kept, changes) = awoken (goal.at.invariant_of-self c).After-set_live in
    (follows-set i.graph i.active c.set_live.new.self i.values c.touch_listed.new.values c.args.thread c.args.live there
    c.self.invariant kept changes c.touch_listed.ensures.touched c.touch_listed.ensures.listed).together

pub returns : goal.returns
returns c =
    let i = c.self.inside in
    let (there, kept, changes) = awoken (goal.at.returns c).After-set_live in
    let touched = c.touch_listed.ensures.touched in
    let follows = follows-set i.graph i.active c.set_live.new.self i.values c.touch_listed.new.values c.args.thread
    c.args.live there c.self.invariant kept changes touched c.touch_listed.ensures.listed in
    rw (← c.self.view_is)
    (record { follows = becomes i.graph i.graph i.active c.set_live.new.self i.values c.touch_listed.new.values _ _ refl follows touched.others touched.kept })
