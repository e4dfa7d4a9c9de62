use Rattle.lot_engine.proofs.Lemmas.{KeptHistory, actors_from, ap, arith, as_many, own-more, [], ◌++◌, ◌∙◌, ◌∷◌}
use Rattle.lot_engine.proofs.history.History.push.Goals as goal

pub push-requires : goal.push-requires
push-requires c =
    let s = c.self.inside in
    let requires = rw (← c.self.view_is) at c.requires in
    omega (arith, requires.room, as_many s.processors s.actors.items s.woken.items)

pub returns-clause-items : goal.returns-clause-items
returns-clause-items c =
    let s = c.self.inside in
    let requires = rw (← c.self.view_is) at c.requires in
    ap (λ bytes. actors_from s.processors bytes s.woken.items) c.push.ensures.items
    ∙ own-more s.processors c.args.actor s.actors.items s.woken.items requires.actor
    ∙ ap (λ (h : KeptHistory). h.items ++ c.args.actor ∷ []) c.self.view_is
