use Rattle.lot_draw.proofs.Lemmas.{arith, drawn-is, length, ◌<◌}
use Rattle.lot_draw.proofs.run_queue.RunQueue.hold_lottery.Goals as goal

pub returns-clause-winner : goal.returns-clause-winner
returns-clause-winner c =
    let i = c.self.inside in
    let total = c.total-total.result in
    let low : c.find-place.result < length i.competitors.items =
    omega (arith, c.find-place.ensures.within, c.self.invariant.places) in
    rw (← c.self.view_is)
    (drawn-is i.competitors.items i.tree c.args.d c.find-place.result _ total c.total-total.ensures.value
    (omega arith) c.reduced-number.ensures c.find-place.ensures.walk low)
