use Rattle.lot_simulation.proofs.TimedRuns.{timed-legal, timed-made, timed-world}
use Rattle.lot_simulation.proofs.laws.timed_turns_are_a_run.Goals as goal

pub returns-clause-legal : goal.returns-clause-legal
returns-clause-legal c = timed-legal

pub returns-clause-turns : goal.returns-clause-turns
returns-clause-turns c = timed-made

pub returns-clause-world : goal.returns-clause-world
returns-clause-world c = timed-world
