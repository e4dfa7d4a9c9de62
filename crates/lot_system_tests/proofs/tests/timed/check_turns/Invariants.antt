use Rattle.std.proofs.Common.{◌≡◌}
use Rattle.lot_system_tests.proofs.tests.timed.check_turns.Given as goal

-- the playback is the program's
abbrev pub invariant-loop-row : goal.invariant-loop-row
invariant-loop-row g l = l.playback.seen.setting.program ≡ l.program
