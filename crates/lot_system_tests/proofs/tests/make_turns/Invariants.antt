use Rattle.std.proofs.Common.{◌≡◌}
use Rattle.lot_system_tests.proofs.tests.make_turns.Given as goal

-- the system is still one of the same program and room
abbrev pub invariant-loop-actor : goal.invariant-loop-actor
invariant-loop-actor g l = l.system.setting ≡ l.initial.system.setting
