use Rattle.lot_value.proofs.Lemmas.{AddsEdge, EdgeEnds, IsTarget, OfTicket, Some, StandsFor, Unfunded, Valued, becomes, fund-came, subst, sym, target_of, ◌≡◌}
use Rattle.lot_value.proofs.valued_graph.ValuedGraph.give.Goals as goal
use Rattle.lot_value.proofs.valued_graph.ValuedGraph.give.Goals.{After-give}

-- the edge came, and where it leads stands for it
came : (c : After-give) → (ends : EdgeEnds) × AddsEdge c.self.inside.graph c.give.new.self (OfTicket c.args.ticket) ends
    × StandsFor c.self.inside.graph c.give.new.self ends
came c =
    let i = c.self.inside in
    let free = subst (λ (x : Valued). target_of x.now.funding c.args.ticket ≡ Some Unfunded)
    (sym c.self.view_is) c.requires.unfunded in
    let is = subst (λ (x : Valued). IsTarget x.now.funding c.args.target) (sym c.self.view_is) c.requires.target in
    fund-came i.graph c.give.new.self i.active i.values c.self.invariant c.args.ticket c.args.target free is
    c.give.ensures.funded c.give.ensures.fits

pub attach-requires : goal.attach-requires
attach-requires c = let (ends, adds, stands) = came (goal.at.attach-requires c).After-give in
    record { before = (c.self.inside.graph, ends, adds, stands, c.self.invariant) }

pub invariant_of-self : goal.invariant_of-self
invariant_of-self c = let (ends, adds, stands) = came (goal.at.invariant_of-self c).After-give in
    (c.attach.ensures.follows c.self.inside.graph ends adds stands c.self.invariant).together

pub returns : goal.returns
returns c =
    let i = c.self.inside in
    let (ends, adds, stands) = came (goal.at.returns c).After-give in
    let follows = c.attach.ensures.follows i.graph ends adds stands c.self.invariant in
    rw (← c.self.view_is)
    (record { follows = becomes i.graph c.give.new.self i.active c.attach.new.active i.values c.attach.new.values _ _ c.give.ensures.funded follows c.attach.ensures.others c.attach.ensures.kept })
