use Rattle.lot_system.proofs.Lemmas.{arith, spreads-all, spreads-next, ◌∙◌}
use Rattle.lot_system.proofs.figures.add_spreads.Goals as goal

pub loop-place-preserved : goal.loop-place-preserved
loop-place-preserved c =
    spreads-next c.args.spreads.now c.loop-place.spreads c.args.cells.now c.loop-place.place _ _ c.spread_after.result
    c.loop-place.invariant
    (omega (arith, c.told-spreads, c.min-place-end.ensures))
    (omega (arith, c.min-place-end.ensures)) c.spread_after.ensures

pub returns : goal.returns
returns c =
    c.loop-place.invariant
    ∙ spreads-all c.args.spreads.now c.args.cells.now c.loop-place.place
    (omega (arith, c.told-spreads, c.min-place-end.ensures, c.loop-place.auto.place-end, c.loop-place-test.false))
