use Rattle.lot_engine.proofs.Lemmas.{KeptHistory, actors_from, ap, ap₂, arith, as_many, count_by-le-length, nat_lt, wake-more, [], ◌++◌, ◌+◌, ◌∙◌, ◌∷◌}
use Rattle.lot_engine.proofs.history.History.push_wake.Goals as goal

pub push-requires : goal.push-requires
push-requires c =
    let s = c.self.inside in
    let requires = rw (← c.self.view_is) at c.requires in
    omega (arith, requires.room, as_many s.processors s.actors.items s.woken.items)

pub push-requires-2 : goal.push-requires-2
push-requires-2 c =
    let s = c.self.inside in
    let requires = rw (← c.self.view_is) at c.requires in
    omega (arith, requires.wakes, as_many s.processors s.actors.items s.woken.items, c.self.invariant.wakes, count_by-le-length (nat_lt s.processors) s.actors.items)

pub returns-clause-items : goal.returns-clause-items
returns-clause-items c =
    let s = c.self.inside in
    ap₂ (actors_from s.processors) c.push.ensures.items c.push-2.ensures.items
    ∙ wake-more s.processors (s.processors + 1) c.args.thread s.actors.items s.woken.items
    (omega arith) c.self.invariant.wakes
    ∙ ap (λ (h : KeptHistory). h.items ++ (h.size.processors + c.args.thread) ∷ []) c.self.view_is
