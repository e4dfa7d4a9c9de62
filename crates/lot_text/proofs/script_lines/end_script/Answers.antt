use Rattle.lot_text.proofs.Lemmas.{Gives-memory}
use Rattle.lot_text.proofs.script_lines.end_script.Goals as goal

pub returns-in_err-push : goal.returns-in_err-push
returns-in_err-push c = Gives-memory _ c.from_residual.result _ c.from_residual.ensures
