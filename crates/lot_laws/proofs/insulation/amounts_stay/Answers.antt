use Rattle.lot_laws.proofs.AmountsKept.{event-amount, run-amount}
use Rattle.lot_laws.proofs.insulation.amounts_stay.Goals as goal

pub returns-clause-event : goal.returns-clause-event
returns-clause-event c = event-amount

pub returns-clause-run : goal.returns-clause-run
returns-clause-run c = run-amount

pub returns-clause-all : goal.returns-clause-all
returns-clause-all c s events none stays n = run-amount s events n (none n) (λ on. ((stays on).0, (stays on).1 n))
