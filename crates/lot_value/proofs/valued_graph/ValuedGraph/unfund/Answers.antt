use Rattle.lot_value.proofs.Lemmas.{AddsEdge, OfTicket, StandsFor, becomes, sym, unfund-went, unfunded-there, ◌∙◌}
use Rattle.lot_value.proofs.valued_graph.ValuedGraph.unfund.Goals as goal
use Rattle.lot_value.proofs.valued_graph.ValuedGraph.unfund.Goals.{After-unfund}

-- the edge went, and where it led stands for it
went : (c : After-unfund) → AddsEdge c.unfund.new.self c.self.inside.graph (OfTicket c.args.ticket) c.in-Some.ends
    × StandsFor c.self.inside.graph c.unfund.new.self c.in-Some.ends
went c = unfund-went c.self.inside.graph c.unfund.new.self c.self.inside.active c.self.inside.values c.self.invariant
    c.args.ticket c.in-Some.ends (sym c.ends_of_edge.ensures.ends ∙ c.in-Some.is) c.unfund.ensures.unfunded

pub detach-requires-clause-before : goal.detach-requires-clause-before
detach-requires-clause-before c = let (adds, stands) = went (goal.at.detach-requires-clause-before c).After-unfund in
    (c.self.inside.graph, OfTicket c.args.ticket, adds, stands, c.self.invariant)

pub invariant_of-self : goal.invariant_of-self
invariant_of-self c = let (adds, stands) = went (goal.at.invariant_of-self c).After-unfund in
    (c.detach.ensures.follows c.self.inside.graph (OfTicket c.args.ticket) adds stands c.self.invariant).together

pub returns-clause-follows : goal.returns-clause-follows
returns-clause-follows c =
    let i = c.self.inside in
    let (adds, stands) = went (goal.at.returns-clause-follows c).After-unfund in
    let follows = c.detach.ensures.follows i.graph (OfTicket c.args.ticket) adds stands c.self.invariant in
    rw (← c.self.view_is) (becomes i.graph c.unfund.new.self i.active c.detach.new.active i.values c.detach.new.values _
    _ c.unfund.ensures.unfunded follows c.detach.ensures.others c.detach.ensures.kept)

pub returns-clause-there : goal.returns-clause-there
returns-clause-there c =
    let i = c.self.inside in
    rw (← c.self.view_is) (λ to funds. unfunded-there i.graph c.unfund.new.self i.active i.values c.self.invariant
    c.args.ticket c.in-Some.ends to (sym c.ends_of_edge.ensures.ends ∙ c.in-Some.is) funds c.unfund.ensures.unfunded)
