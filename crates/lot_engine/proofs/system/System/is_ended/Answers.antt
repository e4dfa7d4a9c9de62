use Rattle.lot_engine.proofs.Lemmas.{commands-ended, le-leb, leb-true, system_run}
use Rattle.lot_engine.proofs.system.System.is_ended.Goals as goal

pub returns-then-actor-eq0 : goal.returns-then-actor-eq0
returns-then-actor-eq0 c =
    let s = c.self.inside in
    let ended =
    commands-ended s.program
    (system_run s.program s.history.items) s.kernel.state s.places.items s.generators.items s.tickets s.spent
    c.self.invariant.held c.commands.result.now c.commands.ensures.commands c.args.actor c.if-actor-eq0.true in
    rw (← c.self.view_is, c.len.ensures) (λ most. ended.0 (leb-true _ _ most), λ none. le-leb _ _ (ended.1 none))
