use Rattle.lot_processors.proofs.SeatWork.{worked, failed}
use Rattle.lot_processors.proofs.workers.work_for.Goals as goal

pub returns-in-Ok : goal.returns-in-Ok
returns-in-Ok g c = worked c.args.station.now c.args.program.now c.args.seat.now c.take_fault.new.self
    c.actor_turns.new.seat c.take_fault.ensures.taken c.actor_turns.ensures.kept c.in-Ok.ensures.ok

pub returns-in-Err : goal.returns-in-Err
returns-in-Err g c = failed c.args.station.now c.args.program.now c.in-Err.fault c.args.seat.now c.take_fault.new.self
    c.actor_turns.new.seat c.stop.new.self c.take_fault.ensures.taken c.stop.ensures c.in-Err.ensures.err
