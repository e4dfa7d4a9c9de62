use Rattle.lot_curves.proofs.Lemmas.{ap, changed-more, slice_set, stretch_between, ◌∙◌}
use Rattle.lot_curves.proofs.curves.cut.Goals as goal

pub loop-place-preserved : goal.loop-place-preserved
loop-place-preserved c =
    ap (λ s. slice_set c.loop-place.stretches c.loop-place.place s) c.between.ensures
    ∙ changed-more (stretch_between c.args.from c.args.to) c.args.stretches.now c.loop-place.stretches
    c.loop-place.place _ c.loop-place-test.true c.loop-place.invariant
