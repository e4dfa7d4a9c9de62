use Rattle.lot_laws.proofs.Killed.{kill-released, kill-passed}
use Rattle.lot_laws.proofs.kills.kills_end_waits.Goals as goal

pub returns-clause-released : goal.returns-clause-released
returns-clause-released c s thread t u r order kills = kill-released s thread t order kills u r

pub returns-clause-passed : goal.returns-clause-passed
returns-clause-passed c s thread t m mutex order kills = kill-passed s thread t order kills m mutex
