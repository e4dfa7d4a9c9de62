use Rattle.lot_value.proofs.Lemmas.{AddsEdge, EdgeEnds, IsBorrower, Nobody, OfLender, Some, StandsFor, Valued, at_number, becomes, lend-came, subst, sym, ◌≡◌}
use Rattle.lot_value.proofs.valued_graph.ValuedGraph.lend.Goals as goal
use Rattle.lot_value.proofs.valued_graph.ValuedGraph.lend.Goals.{After-lend}

-- the edge came, and where it leads stands for it
came : (c : After-lend) → (ends : EdgeEnds) × AddsEdge c.self.inside.graph c.lend.new.self (OfLender c.args.thread) ends
    × StandsFor c.self.inside.graph c.lend.new.self ends
came c =
    let i = c.self.inside in
    let nobody = subst (λ (x : Valued). at_number x.now.funding.lends c.args.thread ≡ Some Nobody)
    (sym c.self.view_is) c.requires.nobody in
    let is = subst (λ (x : Valued). IsBorrower x.now.funding c.args.lend) (sym c.self.view_is) c.requires.borrower in
    lend-came i.graph c.lend.new.self i.active i.values c.self.invariant c.args.thread c.args.lend nobody is
    c.lend.ensures.lent c.lend.ensures.fits

pub attach-requires : goal.attach-requires
attach-requires c = let (ends, adds, stands) = came (goal.at.attach-requires c).After-lend in
    record { before = (c.self.inside.graph, ends, adds, stands, c.self.invariant) }

pub invariant_of-self : goal.invariant_of-self
invariant_of-self c = let (ends, adds, stands) = came (goal.at.invariant_of-self c).After-lend in
    (c.attach.ensures.follows c.self.inside.graph ends adds stands c.self.invariant).together

pub returns : goal.returns
returns c =
    let i = c.self.inside in
    let (ends, adds, stands) = came (goal.at.returns c).After-lend in
    let follows = c.attach.ensures.follows i.graph ends adds stands c.self.invariant in
    rw (← c.self.view_is)
    (record { follows = becomes i.graph c.lend.new.self i.active c.attach.new.active i.values c.attach.new.values _ _ c.lend.ensures.lent follows c.attach.ensures.others c.attach.ensures.kept })
