use Rattle.lot_laws.proofs.Killed.{kill-records, kill-ports, kill-mutexes, kill-clients, kill-rest}
use Rattle.lot_laws.proofs.kills.kills_leave_the_rest.Goals as goal

pub returns-clause-records : goal.returns-clause-records
returns-clause-records c s thread t u order kills = kill-records s thread t order kills u

pub returns-clause-ports : goal.returns-clause-ports
returns-clause-ports c s thread t p order kills = kill-ports s thread t order kills p

pub returns-clause-mutexes : goal.returns-clause-mutexes
returns-clause-mutexes c s thread t m order kills = kill-mutexes s thread t order kills m

pub returns-clause-clients : goal.returns-clause-clients
returns-clause-clients c s thread t server order kills = kill-clients s thread t order kills server

pub returns-clause-others : goal.returns-clause-others
returns-clause-others c = kill-rest
