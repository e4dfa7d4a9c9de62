use Rattle.lot_machine.proofs.RecordsKept.{RunsApart-goes_on}
use Rattle.lot_machine.proofs.kept.going_on_keeps.Goals as goal

pub returns : goal.returns
returns c = RunsApart-goes_on
