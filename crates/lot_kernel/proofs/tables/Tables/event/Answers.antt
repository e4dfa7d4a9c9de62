use Rattle.lot_kernel.proofs.tables.Tables.event.Goals as goal

pub returns-in-Command : goal.returns-in-Command
returns-in-Command c = rw c.in-Command.is
    (record { reply = c.command.ensures.reply; state = c.command.ensures.state; stale = c.command.ensures.stale; counts = record { kept = c.command.ensures.kept; meter = c.command.ensures.meter } })

pub returns-in-Draw : goal.returns-in-Draw
returns-in-Draw c = rw c.in-Draw.is
    (record { reply = c.draw.ensures.reply; state = c.draw.ensures.state; stale = c.draw.ensures.stale; counts = c.draw.ensures.counts })

pub returns-in-Expire : goal.returns-in-Expire
returns-in-Expire c = rw c.in-Expire.is
    (record { reply = c.expire.ensures.reply; state = c.expire.ensures.state; stale = c.expire.ensures.stale; counts = record { kept = c.expire.ensures.kept; meter = c.expire.ensures.meter } })

pub returns-in-Trap : goal.returns-in-Trap
returns-in-Trap c = rw c.in-Trap.is
    (record { reply = c.trap.ensures.reply; state = c.trap.ensures.state; stale = c.trap.ensures.stale; counts = c.trap.ensures.counts })

pub returns-in-Preempt : goal.returns-in-Preempt
returns-in-Preempt c = rw c.in-Preempt.is
    (record { reply = c.preempt.ensures.reply; state = c.preempt.ensures.state; stale = c.preempt.ensures.stale; counts = record { kept = c.preempt.ensures.kept; meter = c.preempt.ensures.meter } })

pub returns-in-Overrun : goal.returns-in-Overrun
returns-in-Overrun c = rw c.in-Overrun.is
    (record { reply = c.overrun.ensures.reply; state = c.overrun.ensures.state; stale = c.overrun.ensures.stale; counts = record { kept = c.overrun.ensures.kept; meter = c.overrun.ensures.meter } })

pub returns-in-Wake : goal.returns-in-Wake
returns-in-Wake c = rw c.in-Wake.is
    (record { reply = c.wake.ensures.reply; state = c.wake.ensures.state; stale = c.wake.ensures.stale; counts = record { kept = c.wake.ensures.kept; meter = c.wake.ensures.meter } })
