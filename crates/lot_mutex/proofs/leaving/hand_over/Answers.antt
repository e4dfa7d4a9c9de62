use Rattle.lot_mutex.proofs.HandedOver.{may-own, handed, handed-stale}
use Rattle.lot_mutex.proofs.leaving.hand_over.Goals as goal

pub apply-requires-2-clause-allowed : goal.apply-requires-2-clause-allowed
apply-requires-2-clause-allowed c =
    may-own c.args.threads.now c.apply.new.self c.set_status.new.self c.args.mutex c.args.next c.requires.mutex
    c.requires.thread c.requires.other c.apply.ensures.applied c.set_status.ensures.set

pub returns-clause-threads : goal.returns-clause-threads
returns-clause-threads c =
    handed c.args.threads.now c.apply.new.self c.set_status.new.self c.args.mutex c.args.next c.requires.mutex
    c.requires.thread c.requires.other c.apply.ensures.applied c.set_status.ensures.set c.apply-2.new.self
    c.apply-2.ensures.applied

pub returns-clause-stale : goal.returns-clause-stale
returns-clause-stale c =
    handed-stale c.args.threads.now c.apply.new.self c.set_status.new.self c.args.mutex c.args.next c.requires.mutex
    c.requires.thread c.requires.other c.apply.ensures.applied c.set_status.ensures.set c.apply-2.new.self
    c.apply-2.ensures.applied
    c.apply.ensures.stale.reached c.set_status.ensures.stale c.apply-2.ensures.stale.reached

pub returns-clause-kept : goal.returns-clause-kept
returns-clause-kept c node stale =
    c.apply-2.ensures.stale.kept node (c.set_status.ensures.kept node (c.apply.ensures.stale.kept node stale))
