use Rattle.lot_machine.proofs.OrderKept.{step-order, order-sound}
use Rattle.lot_kernel.proofs.kernel.Kernel.answer.Goals as goal

pub invariant_of-self : goal.invariant_of-self
invariant_of-self c = rw c.event.ensures.state (step-order c.self.inside.tables.state c.args.event.now c.self.invariant)

pub returns-clause-sound : goal.returns-clause-sound
returns-clause-sound c =
    rw c.event.ensures.state (order-sound _ (step-order c.self.inside.tables.state c.args.event.now c.self.invariant))

pub returns-clause-stale : goal.returns-clause-stale
returns-clause-stale c = rw (← c.self.view_is) c.event.ensures.stale
