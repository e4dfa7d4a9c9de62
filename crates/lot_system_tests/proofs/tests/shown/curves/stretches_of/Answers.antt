use Rattle.std.proofs.Common.{ap, arith, rules}
use Rattle.lot_curves.specs.Stretches.{last_end}
use Rattle.lot_curves.proofs.Ends.{last_end-push}
use Rattle.lot_system_tests.proofs.tests.shown.curves.stretches_of.Goals as goal

pub loop-end-preserved : goal.loop-end-preserved
loop-end-preserved c =
    let i = c.loop-end.invariant in
    let items = c.in_ok-push.ensures.items in
    record {
      few = search rules;
      early = omega (arith, i.early, ap last_end items, last_end-push c.loop-end.stretches.items c.stretch_of.result, c.stretch_of.ensures);
    }
