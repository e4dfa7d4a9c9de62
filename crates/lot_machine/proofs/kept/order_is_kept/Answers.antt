use Rattle.lot_machine.proofs.OrderKept.{opening-order, step-order, run-order}
use Rattle.lot_machine.proofs.kept.order_is_kept.Goals as goal

pub returns-clause-start : goal.returns-clause-start
returns-clause-start c = opening-order

pub returns-clause-event : goal.returns-clause-event
returns-clause-event c = step-order

pub returns-clause-run : goal.returns-clause-run
returns-clause-run c = run-order
