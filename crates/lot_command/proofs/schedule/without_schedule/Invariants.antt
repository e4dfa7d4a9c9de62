use Rattle.std.proofs.Common.{length}
use Rattle.lot_command.proofs.schedule.without_schedule.Given as goal

-- each turn cuts a line
abbrev pub decreases-loop-before : goal.decreases-loop-before
decreases-loop-before l = length l.rest
