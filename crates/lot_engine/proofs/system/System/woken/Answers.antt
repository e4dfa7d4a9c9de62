use Rattle.lot_engine.proofs.Common.{Seen, ap, woken_in, ◌∙◌}
use Rattle.lot_engine.proofs.system.System.woken.Goals as goal

pub returns : goal.returns
returns c =
    let s = c.self.inside in
    c.woken.ensures ∙ ap (λ p. woken_in p s.history.items) c.self.invariant.processors
    ∙ ap (λ (x : Seen). woken_in x.setting.program.limits.processors x.history) c.self.view_is
