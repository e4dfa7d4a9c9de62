use Rattle.lot_value.proofs.Lemmas.{AddsEdge, EdgeEnds, IsMutex, IsThread, None, OfMutex, StandsFor, Valued, becomes, own-came, owner_of, subst, sym, ◌≡◌}
use Rattle.lot_value.proofs.valued_graph.ValuedGraph.take_mutex.Goals as goal
use Rattle.lot_value.proofs.valued_graph.ValuedGraph.take_mutex.Goals.{After-take_mutex}

-- the edge came, and where it leads stands for it
came : (c : After-take_mutex)
    → (ends : EdgeEnds) × AddsEdge c.self.inside.graph c.take_mutex.new.self (OfMutex c.args.mutex) ends
    × StandsFor c.self.inside.graph c.take_mutex.new.self ends
came c =
    let i = c.self.inside in
    let there = subst (λ (x : Valued). IsMutex x.now.funding c.args.mutex) (sym c.self.view_is) c.requires.mutex in
    let free =
    subst (λ (x : Valued). owner_of x.now.funding c.args.mutex ≡ None) (sym c.self.view_is) c.requires.free in
    let is = subst (λ (x : Valued). IsThread x.now.funding c.args.owner) (sym c.self.view_is) c.requires.owner in
    own-came i.graph c.take_mutex.new.self i.active i.values c.self.invariant c.args.mutex c.args.owner there free is
    c.take_mutex.ensures.owned c.take_mutex.ensures.fits

pub attach-requires : goal.attach-requires
attach-requires c = let (ends, adds, stands) = came (goal.at.attach-requires c).After-take_mutex in
    record { before = (c.self.inside.graph, ends, adds, stands, c.self.invariant) }

pub invariant_of-self : goal.invariant_of-self
invariant_of-self c = let (ends, adds, stands) = came (goal.at.invariant_of-self c).After-take_mutex in
    (c.attach.ensures.follows c.self.inside.graph ends adds stands c.self.invariant).together

pub returns : goal.returns
returns c =
    let i = c.self.inside in
    let (ends, adds, stands) = came (goal.at.returns c).After-take_mutex in
    let follows = c.attach.ensures.follows i.graph ends adds stands c.self.invariant in
    rw (← c.self.view_is)
    (record { follows = becomes i.graph c.take_mutex.new.self i.active c.attach.new.active i.values c.attach.new.values _ _ c.take_mutex.ensures.owned follows c.attach.ensures.others c.attach.ensures.kept })
