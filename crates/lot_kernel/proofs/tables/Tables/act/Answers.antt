use Rattle.std.proofs.Common.{inl, refl}
use Rattle.lot_kernel.proofs.tables.Tables.act.Goals as goal

pub returns-in-Yield : goal.returns-in-Yield
returns-in-Yield c = rw c.in-Yield.is
    (record { outcome = refl; after = refl; state = refl; stale = λ x old. inl old; counts = record { kept = λ x old. old; meter = refl } })

pub returns-in-Sleep : goal.returns-in-Sleep
returns-in-Sleep c = rw c.in-Sleep.is
    (record { outcome = refl; after = refl; state = refl; stale = λ x old. inl old; counts = record { kept = λ x old. old; meter = refl } })

pub returns-in-Exit : goal.returns-in-Exit
returns-in-Exit c = rw c.in-Exit.is
    (record { outcome = refl; after = refl; state = c.leave_ports.ensures.state; stale = c.leave_ports.ensures.stale; counts = record { kept = c.leave_ports.ensures.kept; meter = c.leave_ports.ensures.meter } })

pub returns-in-Call : goal.returns-in-Call
returns-in-Call c = rw c.in-Call.is
    (record { outcome = c.call.ensures.outcome; after = c.call.ensures.after; state = c.call.ensures.state; stale = c.call.ensures.stale; counts = record { kept = c.call.ensures.kept; meter = c.call.ensures.meter } })

pub returns-in-Receive : goal.returns-in-Receive
returns-in-Receive c = rw c.in-Receive.is
    (record { outcome = c.receive.ensures.outcome; after = c.receive.ensures.after; state = c.receive.ensures.state; stale = c.receive.ensures.stale; counts = record { kept = c.receive.ensures.kept; meter = c.receive.ensures.meter } })

pub returns-in-Reply : goal.returns-in-Reply
returns-in-Reply c = rw c.in-Reply.is
    (record { outcome = c.reply.ensures.outcome; after = c.reply.ensures.after; state = c.reply.ensures.state; stale = c.reply.ensures.stale; counts = record { kept = c.reply.ensures.kept; meter = c.reply.ensures.meter } })

pub returns-in-Serve : goal.returns-in-Serve
returns-in-Serve c = rw c.in-Serve.is
    (record { outcome = c.serve.ensures.outcome; after = c.serve.ensures.after; state = c.serve.ensures.state; stale = c.serve.ensures.stale; counts = record { kept = c.serve.ensures.kept; meter = c.serve.ensures.meter } })

pub returns-in-Lock : goal.returns-in-Lock
returns-in-Lock c = rw c.in-Lock.is
    (record { outcome = c.lock.ensures.outcome; after = c.lock.ensures.after; state = c.lock.ensures.state; stale = c.lock.ensures.stale; counts = record { kept = c.lock.ensures.kept; meter = c.lock.ensures.meter } })

pub returns-in-Unlock : goal.returns-in-Unlock
returns-in-Unlock c = rw c.in-Unlock.is
    (record { outcome = c.unlock.ensures.outcome; after = c.unlock.ensures.after; state = c.unlock.ensures.state; stale = c.unlock.ensures.stale; counts = c.unlock.ensures.counts })
