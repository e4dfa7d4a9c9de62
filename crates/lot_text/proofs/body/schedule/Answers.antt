use Rattle.lot_text.proofs.Lemmas.{Gives-memory}
use Rattle.lot_text.proofs.body.schedule.Goals as goal

pub returns-in_err-extend_from_slice : goal.returns-in_err-extend_from_slice
returns-in_err-extend_from_slice c n =
    Gives-memory _ c.from_residual-in_err-extend_from_slice.result _ c.from_residual-in_err-extend_from_slice.ensures
