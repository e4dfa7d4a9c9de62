use Rattle.lot_machine.proofs.OneSided.{opening-one, step-one, reached-one}
use Rattle.lot_machine.proofs.queued.no_call_waits_beside_a_receiver.Goals as goal

pub returns-clause-start : goal.returns-clause-start
returns-clause-start c = opening-one

pub returns-clause-event : goal.returns-clause-event
returns-clause-event c = step-one

pub returns-clause-reached : goal.returns-clause-reached
returns-clause-reached c = reached-one
