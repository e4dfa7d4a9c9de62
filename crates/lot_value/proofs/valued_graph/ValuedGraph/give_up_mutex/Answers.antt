use Rattle.lot_value.proofs.Lemmas.{AddsEdge, IsMutex, OfMutex, StandsFor, Valued, becomes, disown-went, follows-none, free-same, seen, subst, sym, ◌∙◌}
use Rattle.lot_value.proofs.valued_graph.ValuedGraph.give_up_mutex.Goals as goal
use Rattle.lot_value.proofs.valued_graph.ValuedGraph.give_up_mutex.Goals.{After-give_up_mutex}

-- the edge went, and where it led stands for it
went : (c : After-give_up_mutex)
    → AddsEdge c.give_up_mutex.new.self c.self.inside.graph (OfMutex c.args.mutex) c.in-Some.ends
    × StandsFor c.self.inside.graph c.give_up_mutex.new.self c.in-Some.ends
went c =
    let there = subst (λ (x : Valued). IsMutex x.now.funding c.args.mutex) (sym c.self.view_is) c.requires.mutex in
    disown-went c.self.inside.graph c.give_up_mutex.new.self c.self.inside.active c.self.inside.values c.self.invariant
    c.args.mutex c.in-Some.ends there (sym c.ends_of_edge.ensures.ends ∙ c.in-Some.is) c.give_up_mutex.ensures.freed

pub detach-requires-clause-before : goal.detach-requires-clause-before
detach-requires-clause-before c = let (adds, stands) =
    went (goal.at.detach-requires-clause-before c).After-give_up_mutex in
    (c.self.inside.graph, OfMutex c.args.mutex, adds, stands, c.self.invariant)

pub invariant_of-self : goal.invariant_of-self
invariant_of-self c = let (adds, stands) = went (goal.at.invariant_of-self c).After-give_up_mutex in
    (c.detach.ensures.follows c.self.inside.graph (OfMutex c.args.mutex) adds stands c.self.invariant).together

pub returns : goal.returns
returns c =
    let i = c.self.inside in
    let (adds, stands) = went (goal.at.returns c).After-give_up_mutex in
    let follows = c.detach.ensures.follows i.graph (OfMutex c.args.mutex) adds stands c.self.invariant in
    rw (← c.self.view_is)
    (record { follows = becomes i.graph c.give_up_mutex.new.self i.active c.detach.new.active i.values c.detach.new.values _ _ c.give_up_mutex.ensures.freed follows c.detach.ensures.others c.detach.ensures.kept })

pub returns-in_default : goal.returns-in_default
returns-in_default c =
    let i = c.self.inside in
    let there = subst (λ (x : Valued). IsMutex x.now.funding c.args.mutex) (sym c.self.view_is) c.requires.mutex in
    rw (← c.self.view_is)
    (record { follows = follows-none (seen i.graph i.active i.values) _ (free-same i.graph c.args.mutex there (λ ends is. c.in_default.not-Some ends (c.ends_of_edge.ensures.ends ∙ is))) })
