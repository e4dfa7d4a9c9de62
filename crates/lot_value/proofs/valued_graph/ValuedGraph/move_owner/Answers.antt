use Rattle.lot_value.proofs.Lemmas.{Follows, IsLive, IsMutex, IsStale, IsThread, Known, LimitedFunding, Node, None, Some, Thread, Valued, ap, becomes, follows-move, freed-apart, freed-free, freed-mutex, freed-thread, have-s, have-t, inl, inr, layout, live_of, owner_of, refl, set-twice, set_number, subst, sym, touched-one, touched-then, with_owners, within-s, within-t, ◌∙◌, ◌≡◌, ◌⊎◌}
use Rattle.lot_value.proofs.valued_graph.ValuedGraph.move_owner.Goals as goal
use Rattle.lot_value.proofs.valued_graph.ValuedGraph.move_owner.Goals.{After-give_up_mutex, After-touch-2}

-- what the call requires, said of the graph inside
given : (c : After-give_up_mutex)
    → IsMutex c.self.inside.graph.funding c.args.mutex
    × (owner_of c.self.inside.graph.funding c.args.mutex ≡ Some c.args.owner)
    × IsThread c.self.inside.graph.funding c.args.next
    × IsLive (live_of c.self.inside.graph c.self.inside.active) c.args.owner
    × IsLive (live_of c.self.inside.graph c.self.inside.active) c.args.next
given c =
    let there = rw (← c.self.view_is) at c.requires.mutex in
    let owns = rw (← c.self.view_is) at c.requires.owner in
    let thread = rw (← c.self.view_is) at c.requires.next in
    let live = rw (← c.self.view_is) at c.requires.live in
    (there, owns, thread, live.0, live.1)

pub give_up_mutex-requires : goal.give_up_mutex-requires
give_up_mutex-requires c =
    record { mutex = subst (λ (x : Valued). IsMutex x.now.funding c.args.mutex) (sym c.self.view_is) c.requires.mutex }

pub take_mutex-requires-clause-mutex : goal.take_mutex-requires-clause-mutex
take_mutex-requires-clause-mutex c =
    let i = c.self.inside in
    let (there, owns, thread, live_s, live_t) =
    given (goal.at.take_mutex-requires-clause-mutex c).After-give_up_mutex in
    freed-mutex i.graph c.give_up_mutex.new.self c.give_up_mutex.new.self i.active i.values c.args.mutex c.args.owner
    c.args.next c.self.invariant there owns thread c.requires.other live_s live_t c.give_up_mutex.ensures.freed

pub take_mutex-requires-clause-free : goal.take_mutex-requires-clause-free
take_mutex-requires-clause-free c =
    let i = c.self.inside in
    let (there, owns, thread, live_s, live_t) = given (goal.at.take_mutex-requires-clause-free c).After-give_up_mutex in
    freed-free i.graph c.give_up_mutex.new.self c.give_up_mutex.new.self i.active i.values c.args.mutex c.args.owner
    c.args.next c.self.invariant there owns thread c.requires.other live_s live_t c.give_up_mutex.ensures.freed

pub take_mutex-requires-clause-owner : goal.take_mutex-requires-clause-owner
take_mutex-requires-clause-owner c =
    let i = c.self.inside in
    let (there, owns, thread, live_s, live_t) =
    given (goal.at.take_mutex-requires-clause-owner c).After-give_up_mutex in
    freed-thread i.graph c.give_up_mutex.new.self c.give_up_mutex.new.self i.active i.values c.args.mutex c.args.owner
    c.args.next c.self.invariant there owns thread c.requires.other live_s live_t c.give_up_mutex.ensures.freed

pub touch-requires-clause-layout : goal.touch-requires-clause-layout
touch-requires-clause-layout c =
    let i = c.self.inside in
    let (there, owns, thread, live_s, live_t) = given (goal.at.touch-requires-clause-layout c).After-give_up_mutex in
    c.self.invariant.right.layout ∙ sym (layout i.graph c.give_up_mutex.new.self c.take_mutex.new.self i.active i.values
    c.args.mutex c.args.owner c.args.next c.self.invariant there owns thread c.requires.other live_s live_t
    c.give_up_mutex.ensures.freed c.take_mutex.ensures.owned c.take_mutex.ensures.sound c.take_mutex.ensures.fits)

pub touch-requires-2-clause-layout : goal.touch-requires-2-clause-layout
touch-requires-2-clause-layout c =
    let i = c.self.inside in
    let (there, owns, thread, live_s, live_t) = given (goal.at.touch-requires-2-clause-layout c).After-give_up_mutex in
    ap (λ (k : Known). k.layout) c.touch.ensures.others ∙ c.self.invariant.right.layout
    ∙ sym (layout i.graph c.give_up_mutex.new.self c.take_mutex.new.self i.active i.values c.args.mutex c.args.owner
    c.args.next c.self.invariant there owns thread c.requires.other live_s live_t c.give_up_mutex.ensures.freed
    c.take_mutex.ensures.owned c.take_mutex.ensures.sound c.take_mutex.ensures.fits)

pub touch-requires-2-clause-node : goal.touch-requires-2-clause-node
touch-requires-2-clause-node c =
    let i = c.self.inside in
    let (there, owns, thread, live_s, live_t) = given (goal.at.touch-requires-2-clause-node c).After-give_up_mutex in
    within-t i.graph c.give_up_mutex.new.self c.take_mutex.new.self i.active i.values c.args.mutex c.args.owner
    c.args.next c.self.invariant there owns thread c.requires.other live_s live_t c.give_up_mutex.ensures.freed
    c.take_mutex.ensures.owned c.take_mutex.ensures.sound c.take_mutex.ensures.fits

pub returns-clause-owners : goal.returns-clause-owners
returns-clause-owners c =
    (c.touch-2.ensures.kept (Thread c.args.owner) c.touch.ensures.marked, c.touch-2.ensures.marked)

pub take_mutex-requires-clause-apart : goal.take_mutex-requires-clause-apart
take_mutex-requires-clause-apart c =
    let i = c.self.inside in
    let (there, owns, thread, live_s, live_t) =
    given (goal.at.take_mutex-requires-clause-apart c).After-give_up_mutex in
    let apart = rw (← c.self.view_is) at c.requires.apart in
    freed-apart i.graph c.give_up_mutex.new.self c.give_up_mutex.new.self i.active i.values c.args.mutex c.args.owner
    c.args.next c.self.invariant there owns thread c.requires.other live_s live_t c.give_up_mutex.ensures.freed apart

pub touch-requires-clause-node : goal.touch-requires-clause-node
touch-requires-clause-node c =
    let i = c.self.inside in
    let (there, owns, thread, live_s, live_t) = given (goal.at.touch-requires-clause-node c).After-give_up_mutex in
    within-s i.graph c.give_up_mutex.new.self c.take_mutex.new.self i.active i.values c.args.mutex c.args.owner
    c.args.next c.self.invariant there owns thread c.requires.other live_s live_t c.give_up_mutex.ensures.freed
    c.take_mutex.ensures.owned c.take_mutex.ensures.sound c.take_mutex.ensures.fits

-- what is kept together follows the move
follows : (c : After-touch-2) → Follows c.self.inside.graph c.take_mutex.new.self c.self.inside.active
    c.self.inside.active c.self.inside.values c.touch-2.new.self (live_of c.self.inside.graph c.self.inside.active)
follows c =
    let i = c.self.inside in
    let there = rw (← c.self.view_is) at c.requires.mutex in
    let owns = rw (← c.self.view_is) at c.requires.owner in
    let thread = rw (← c.self.view_is) at c.requires.next in
    let (live_s, live_t) = rw (← c.self.view_is) at c.requires.live in
    let such : Node → Type 0 = λ node. (node ≡ Thread c.args.owner) ⊎ (node ≡ Thread c.args.next) in
    let now = c.take_mutex.new.self in
    let has_owner = have-s i.graph c.give_up_mutex.new.self c.take_mutex.new.self i.active i.values c.args.mutex
    c.args.owner c.args.next c.self.invariant there owns thread c.requires.other live_s live_t
    c.give_up_mutex.ensures.freed c.take_mutex.ensures.owned c.take_mutex.ensures.sound c.take_mutex.ensures.fits in
    let has_next = have-t i.graph c.give_up_mutex.new.self c.take_mutex.new.self i.active i.values c.args.mutex
    c.args.owner c.args.next c.self.invariant there owns thread c.requires.other live_s live_t
    c.give_up_mutex.ensures.freed c.take_mutex.ensures.owned c.take_mutex.ensures.sound c.take_mutex.ensures.fits in
    let first = touched-one now i.values c.touch.new.self (Thread c.args.owner) such
    (inl refl) has_owner c.touch.ensures.right c.touch.ensures.kept c.touch.ensures.only c.touch.ensures.others in
    let second = touched-one now c.touch.new.self c.touch-2.new.self (Thread c.args.next) such (inr refl) has_next
    c.touch-2.ensures.right c.touch-2.ensures.kept c.touch-2.ensures.only c.touch-2.ensures.others in
    let touched = touched-then now i.values c.touch.new.self c.touch-2.new.self such such such first second (λ x so. so)
    (λ x so. so) in
    follows-move i.graph c.give_up_mutex.new.self c.take_mutex.new.self i.active i.values c.args.mutex c.args.owner
    c.args.next c.self.invariant there owns thread c.requires.other live_s live_t c.give_up_mutex.ensures.freed
    c.take_mutex.ensures.owned c.take_mutex.ensures.sound c.take_mutex.ensures.fits c.touch-2.new.self touched
    (c.touch-2.ensures.kept (Thread c.args.owner) c.touch.ensures.marked) c.touch-2.ensures.marked

pub invariant_of-self : goal.invariant_of-self
invariant_of-self c = (follows (goal.at.invariant_of-self c).After-touch-2).together

pub returns-clause-follows : goal.returns-clause-follows
returns-clause-follows c =
    let i = c.self.inside in
    let moved = c.take_mutex.ensures.owned ∙ ap (λ (x : LimitedFunding).
    with_owners x (set_number x.funding.owners c.args.mutex (Some c.args.next))) c.give_up_mutex.ensures.freed
    ∙ ap (with_owners i.graph) (set-twice i.graph.funding.owners c.args.mutex None (Some c.args.next)) in
    let others = c.touch-2.ensures.others
    ∙ ap (λ (k : Known). record k { stale = c.touch-2.new.self.stale }) c.touch.ensures.others in
    let kept : (node : Node) → IsStale i.values node → IsStale c.touch-2.new.self node =
    λ node is. c.touch-2.ensures.kept node (c.touch.ensures.kept node is) in
    rw (← c.self.view_is) (becomes i.graph c.take_mutex.new.self i.active i.active i.values c.touch-2.new.self _ _ moved
    (follows (goal.at.returns-clause-follows c).After-touch-2) others kept)
