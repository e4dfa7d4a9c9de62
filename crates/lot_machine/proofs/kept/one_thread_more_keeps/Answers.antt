use Rattle.lot_machine.proofs.Lemmas.{RunsApart-placed, []}
use Rattle.lot_machine.proofs.kept.one_thread_more_keeps.Goals as goal

pub returns : goal.returns
returns c = λ records. RunsApart-placed records []
