use Rattle.lot_text.proofs.Lemmas.{Gives-memory, Reading, ap, arith, reading_of, refl, with_schedule}
use Rattle.lot_text.proofs.reading.Reading.add_runs.Goals as goal

pub returns-in_err-actors : goal.returns-in_err-actors
returns-in_err-actors c = Gives-memory _ c.from_residual.result _ c.from_residual.ensures

pub returns-in_err-extend_from_slice : goal.returns-in_err-extend_from_slice
returns-in_err-extend_from_slice c =
    Gives-memory _ c.from_residual-in_err-extend_from_slice.result _ c.from_residual-in_err-extend_from_slice.ensures

pub invariant_of-self-2 : goal.invariant_of-self-2
invariant_of-self-2 c =
    let actors = rw c.as_slice.ensures.value at c.in_ok-extend_from_slice.ensures.items in
    let below = c.in_ok-actors.ensures.below c.self.inside.processors
    (rw (ap (λ (r : Reading). r.processors) c.self.view_is) c.requires) in
    with_schedule
    (reading_of c.self.inside) c.extend_from_slice.new.self.items c.in_ok-actors.actors.items c.self.invariant below
    (omega (arith, c.in_ok-actors.ensures.count, c.if-not-have_room.ensures.0 refl, c.len.ensures)) actors
