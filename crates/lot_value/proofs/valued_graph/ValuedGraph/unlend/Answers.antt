use Rattle.lot_value.proofs.Lemmas.{AddsEdge, OfLender, StandsFor, becomes, sym, unlend-went, ◌∙◌}
use Rattle.lot_value.proofs.valued_graph.ValuedGraph.unlend.Goals as goal
use Rattle.lot_value.proofs.valued_graph.ValuedGraph.unlend.Goals.{After-unlend}

-- the edge went, and where it led stands for it
went : (c : After-unlend) → AddsEdge c.unlend.new.self c.self.inside.graph (OfLender c.args.thread) c.in-Some.ends
    × StandsFor c.self.inside.graph c.unlend.new.self c.in-Some.ends
went c = unlend-went c.self.inside.graph c.unlend.new.self c.self.inside.active c.self.inside.values c.self.invariant
    c.args.thread c.in-Some.ends (sym c.ends_of_edge.ensures.ends ∙ c.in-Some.is) c.unlend.ensures.unlent

pub detach-requires-clause-before : goal.detach-requires-clause-before
detach-requires-clause-before c = let (adds, stands) = went (goal.at.detach-requires-clause-before c).After-unlend in
    (c.self.inside.graph, OfLender c.args.thread, adds, stands, c.self.invariant)

pub invariant_of-self : goal.invariant_of-self
invariant_of-self c = let (adds, stands) = went (goal.at.invariant_of-self c).After-unlend in
    (c.detach.ensures.follows c.self.inside.graph (OfLender c.args.thread) adds stands c.self.invariant).together

pub returns : goal.returns
returns c =
    let i = c.self.inside in
    let (adds, stands) = went (goal.at.returns c).After-unlend in
    let follows = c.detach.ensures.follows i.graph (OfLender c.args.thread) adds stands c.self.invariant in
    rw (← c.self.view_is)
    (record { follows = becomes i.graph c.unlend.new.self i.active c.detach.new.active i.values c.detach.new.values _ _ c.unlend.ensures.unlent follows c.detach.ensures.others c.detach.ensures.kept })
