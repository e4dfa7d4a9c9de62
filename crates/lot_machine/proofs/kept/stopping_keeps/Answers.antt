use Rattle.lot_machine.proofs.RecordsKept.{RunsApart-stops}
use Rattle.lot_machine.proofs.kept.stopping_keeps.Goals as goal

pub returns : goal.returns
returns c = RunsApart-stops
