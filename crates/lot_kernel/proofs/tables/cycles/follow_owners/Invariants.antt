-- the mutexes up to this place have the queues' owners
use Rattle.lot_kernel.proofs.Cutting.{DoFollow}
use Rattle.lot_kernel.proofs.tables.cycles.follow_owners.Given as goal

abbrev pub invariant-loop-place : goal.invariant-loop-place
invariant-loop-place l = DoFollow l.initial.threads l.threads l.queues.mutexes l.place
