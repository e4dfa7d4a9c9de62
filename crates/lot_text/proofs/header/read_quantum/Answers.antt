use Rattle.lot_text.proofs.Lemmas.{Gives-refusal, refl}
use Rattle.lot_text.proofs.header.read_quantum.Goals as goal

pub returns-in_err-reading-inside : goal.returns-in_err-reading-inside
returns-in_err-reading-inside c =
    Gives-refusal _ c.from_residual.result c.in_err-reading-inside.field-0.0 _ c.from_residual.ensures
    (rw (← c.in_err-reading-inside.ensures.read) refl)
