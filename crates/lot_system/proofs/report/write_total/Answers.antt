use Rattle.lot_system.proofs.Common.{Counts, ap}
use Rattle.lot_system.proofs.report.write_total.Goals as goal

pub returns : goal.returns
returns g c =
    let quanta = ap (λ (t : Counts). t.quanta) c.total-counts.ensures in
    let ticks = ap (λ (t : Counts). t.ticks) c.total-counts.ensures in
    rw (← quanta, ← ticks, ← c.turn_count.ensures.world, ← c.number.ensures, ← c.number-2.ensures, ← c.number-3.ensures, ← c.no_name.ensures) c.write_told.ensures
