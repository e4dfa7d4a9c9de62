use Rattle.lot_simulation.proofs.Lemmas.{counts-add_up, lengths-add_up, turns_made, turns_made-actors, turns_made-length, ◌+◌, ◌∙◌}
use Rattle.lot_simulation.proofs.laws.actors_add_up.Goals as goal

pub returns-clause-turns : goal.returns-clause-turns
returns-clause-turns c program room history legal =
    lengths-add_up (program.limits.processors + 1) (turns_made program history)
    (turns_made-actors program room history legal) ∙ turns_made-length program history

pub returns-clause-counts : goal.returns-clause-counts
returns-clause-counts c count program room history legal =
    counts-add_up (program.limits.processors + 1) count (turns_made program history)
    (turns_made-actors program room history legal)
