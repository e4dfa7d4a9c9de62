use Rattle.std.proofs.lemmas.Result.{IfOk-from_err}
use Rattle.lot_program.proofs.program.Program.copied.Goals as goal

pub returns-in_err-from_slice : goal.returns-in_err-from_slice
returns-in_err-from_slice c = IfOk-from_err c.from_residual.result _ c.from_residual.ensures.0

pub returns-in_err-copied_scripts : goal.returns-in_err-copied_scripts
returns-in_err-copied_scripts c =
    IfOk-from_err c.from_residual-in_err-copied_scripts.result _ c.from_residual-in_err-copied_scripts.ensures.0

pub returns-in_err-shared : goal.returns-in_err-shared
returns-in_err-shared c = IfOk-from_err c.from_residual-in_err-shared.result _ c.from_residual-in_err-shared.ensures.0

pub returns-in_err-clone : goal.returns-in_err-clone
returns-in_err-clone c = IfOk-from_err c.from_residual-in_err-clone.result _ c.from_residual-in_err-clone.ensures.0

pub returns-in_err-clone-2 : goal.returns-in_err-clone-2
returns-in_err-clone-2 c =
    IfOk-from_err c.from_residual-in_err-clone-2.result _ c.from_residual-in_err-clone-2.ensures.0

pub returns-in_err-clone-3 : goal.returns-in_err-clone-3
returns-in_err-clone-3 c =
    IfOk-from_err c.from_residual-in_err-clone-3.result _ c.from_residual-in_err-clone-3.ensures.0
