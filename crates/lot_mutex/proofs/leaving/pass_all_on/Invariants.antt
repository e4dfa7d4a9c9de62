use Rattle.lot_mutex.proofs.PassedOn.{IsPassedOn}
use Rattle.lot_mutex.proofs.leaving.pass_all_on.Given as goal

abbrev pub invariant-loop-place : goal.invariant-loop-place
invariant-loop-place l = IsPassedOn l.initial.threads l.initial.queues l.owner.number l.place l.threads l.queues
