use Rattle.lot_print.proofs.RunLemmas.{runs_in-split}
use Rattle.lot_print.proofs.runs.first_run.Goals as goal

pub returns-clause-run : goal.returns-clause-run
returns-clause-run c = runs_in-split c.in_ok-actor.actor.now c.len_of.result c.args.history.now c.in_ok-actor.others.now
    c.in_ok-actor.ensures.cases.0 c.len_of.ensures.turns
