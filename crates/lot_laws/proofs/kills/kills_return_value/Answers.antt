use Rattle.lot_laws.proofs.KillMoves.{kill-behind, kill-others, kill-together}
use Rattle.lot_laws.proofs.kills.kills_return_value.Goals as goal

pub returns-clause-behind : goal.returns-clause-behind
returns-clause-behind c s thread t behind reachable lends kills has backed lead =
    kill-behind s thread t reachable lends kills has backed behind lead

pub returns-clause-others : goal.returns-clause-others
returns-clause-others c s thread t other reachable lends kills has backed off =
    kill-others s thread t reachable lends kills has backed other off

pub returns-clause-together : goal.returns-clause-together
returns-clause-together c = kill-together
