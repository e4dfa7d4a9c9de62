use Rattle.lot_text.proofs.body.body_line.Goals as goal

pub returns-in-Port : goal.returns-in-Port
returns-in-Port c = rw c.in-Port.is (c.port.ensures c.args.number)

pub returns-in-Mutex : goal.returns-in-Mutex
returns-in-Mutex c = rw c.in-Mutex.is (c.mutex.ensures c.args.number)

pub returns-in-Schedule : goal.returns-in-Schedule
returns-in-Schedule c = rw c.in-Schedule.is (c.schedule.ensures c.args.number)

pub returns-in-Runs : goal.returns-in-Runs
returns-in-Runs c = rw c.in-Runs.is (c.runs.ensures c.args.number)

pub returns-in-At : goal.returns-in-At
returns-in-At c = rw c.in-At.is (c.at.ensures c.args.number)
