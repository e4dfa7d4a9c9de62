use Rattle.lot_machine.proofs.Unserved.{holders-off, lends-off, served-off, left-off, locks-off, refused-off, mutexes-off}
use Rattle.lot_machine.proofs.queued.nothing_else_changes.Goals as goal

pub returns-clause-holders : goal.returns-clause-holders
returns-clause-holders c = holders-off

pub returns-clause-lends : goal.returns-clause-lends
returns-clause-lends c = lends-off

pub returns-clause-served : goal.returns-clause-served
returns-clause-served c = served-off

pub returns-clause-left : goal.returns-clause-left
returns-clause-left c = left-off

pub returns-clause-locks : goal.returns-clause-locks
returns-clause-locks c = locks-off

pub returns-clause-refused : goal.returns-clause-refused
returns-clause-refused c = refused-off

pub returns-clause-mutexes : goal.returns-clause-mutexes
returns-clause-mutexes c = mutexes-off
