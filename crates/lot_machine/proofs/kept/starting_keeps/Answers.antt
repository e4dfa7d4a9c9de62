use Rattle.lot_machine.proofs.RecordsKept.{RunsApart-starts}
use Rattle.lot_machine.proofs.kept.starting_keeps.Goals as goal

pub returns : goal.returns
returns c = RunsApart-starts
