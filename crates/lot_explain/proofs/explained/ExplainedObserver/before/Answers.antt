use Rattle.lot_explain.proofs.Common.{Program, ap, system_turn, world_of, ◌∙◌}
use Rattle.lot_explain.proofs.explained.ExplainedObserver.before.Goals as goal

pub gather-requires-clause-room : goal.gather-requires-clause-room
gather-requires-clause-room g c = c.requires.observed.3.1

pub returns-clause-awaits : goal.returns-clause-awaits
returns-clause-awaits g c turns first made observed =
    let seen = c.args.system.now in
    let actor = c.args.actor in (
      observed.0,
      c.gather.ensures.room ∙ observed.1,
      observed.2,
      observed.3,
      λ event reply is.
          let answered = ap (λ (p : Program). (system_turn p (world_of seen) actor).answer) c.requires.program ∙ is in
          (c.gather.ensures.lots event reply answered, c.gather.ensures.loans event reply answered),
      observed.4,
      observed.5,
      observed.6,
    )
