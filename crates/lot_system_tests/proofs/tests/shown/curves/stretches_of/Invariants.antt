use Rattle.std.proofs.Common.{◌≤◌, ◌^◌}
use Rattle.std.specs.Prelude.{vec_len}
use Rattle.lot_curves.specs.Stretches.{last_end}
use Rattle.lot_system_tests.proofs.tests.shown.curves.stretches_of.Given as goal

abbrev pub invariant-loop-end : goal.invariant-loop-end
invariant-loop-end l = record {
  few : vec_len l.stretches ≤ l.end-index;
  early : last_end l.stretches.items ≤ 2 ^ 32;
}
