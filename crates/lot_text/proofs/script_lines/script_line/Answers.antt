use Rattle.lot_text.proofs.Lemmas.{Gives-refusal, refl}
use Rattle.lot_text.proofs.script_lines.script_line.Goals as goal

pub returns-in_err-number : goal.returns-in_err-number
returns-in_err-number c =
    Gives-refusal _ c.from_residual.result c.in_err-number.field-0.0 _ c.from_residual.ensures
    (rw (← c.arguments.ensures, ← c.in_err-number.ensures.read) refl)
