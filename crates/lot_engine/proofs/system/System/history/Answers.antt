-- Without a timer the actors are the console and processors, which are printed unchanged.
use Rattle.lot_engine.proofs.Lemmas.{Seen, ap, map, min, shown-own, shown_history, ◌+◌, ◌∙◌}
use Rattle.lot_engine.proofs.system.System.history.Goals as goal

pub returns-clause-shown : goal.returns-clause-shown
returns-clause-shown c =
    let s = c.self.inside in
    c.actors.ensures ∙ ap (λ p. map (λ actor. min actor (p + 1)) s.history.items) c.self.invariant.processors
    ∙ ap shown_history c.self.view_is

pub returns-clause-items : goal.returns-clause-items
returns-clause-items c untimed =
    let s = c.self.inside in
    let legal = c.self.invariant.legal (ap (λ (x : Seen). x.setting.timer) c.self.view_is ∙ untimed) in
    c.actors.ensures ∙ ap (λ p. map (λ actor. min actor (p + 1)) s.history.items) c.self.invariant.processors
    ∙ shown-own s.program.limits.processors s.history.items legal.actors
    ∙ ap (λ (x : Seen). x.history) c.self.view_is
