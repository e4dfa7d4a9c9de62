use Rattle.std.proofs.Common.{ap, arith}
use Rattle.lot_machine.specs.declared.event.Event.TheVariants.{Expire}
use Rattle.lot_curves.specs.declared.stretch.Stretch.{Stretch}
use Rattle.lot_system_tests.proofs.tests.shown.curves.stretch_of.Goals as goal

pub returns : goal.returns
returns c =
    let end = ap (λ (s : Stretch). s.end) (c.new.ensures (Expire 0)) in
    omega (arith, end, c.from.ensures, c.ranges.end)
