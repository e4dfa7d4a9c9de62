use Rattle.lot_explain.proofs.Lemmas.{ap, arith, entrants_in, event-given, number_of, world_of, ◌∙◌}
use Rattle.lot_explain.proofs.entrants.next_entrants.Goals as goal

pub returns : goal.returns
returns c event reply is =
    let seen = c.args.system.now in
    let actor = c.args.actor in
    c.entrants_of_slice.ensures.entrants actor (number_of (world_of seen) actor)
    ∙ ap entrants_in (event-given seen actor c.slice_in.result event reply (omega (arith, c.if-actor-eq0.false))
    (omega (arith, c.if-actor-processors.false, c.processors.ensures.program)) c.slice_in.ensures
    c.entrants_of_slice.ensures.exact is)
