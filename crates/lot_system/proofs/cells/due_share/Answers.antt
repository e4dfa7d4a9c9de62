use Rattle.lot_system.proofs.Lemmas.{ap, arith, due-percent}
use Rattle.lot_simulation.specs.declared.columns.Cell.TheVariants.{Figure}
use Rattle.lot_system.proofs.cells.due_share.Goals as goal

pub returns : goal.returns
returns c = rw c.from-whole.ensures
    (ap (λ n. Figure n) (due-percent c.args.due c.args.time (omega (arith, c.if-time-eq0.false))))
