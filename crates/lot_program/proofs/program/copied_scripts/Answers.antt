use Rattle.lot_program.proofs.Common.{IfOk-from_err, arith, sym, take_all, take_more, ◌∙◌}
use Rattle.lot_program.proofs.program.copied_scripts.Goals as goal

pub returns-in_err-copies : goal.returns-in_err-copies
returns-in_err-copies c = IfOk-from_err c.from_residual.result _ c.from_residual.ensures.0

pub returns-in_err-copied : goal.returns-in_err-copied
returns-in_err-copied c = IfOk-from_err c.from_residual-in_err-copied.result _ c.from_residual-in_err-copied.ensures.0

pub returns-in_err-push : goal.returns-in_err-push
returns-in_err-push c = IfOk-from_err c.from_residual-in_err-push.result _ c.from_residual-in_err-push.ensures.0

pub loop-script-preserved : goal.loop-script-preserved
loop-script-preserved c =
    rw (c.in_ok-push.ensures.items, c.loop-script.invariant, c.in_ok-copied.ensures, c.script-item.is)
    (sym (take_more c.args.scripts.now c.loop-script.script-index c.script-item.result c.loop-script-test.true))

pub returns : goal.returns
returns c = c.loop-script.invariant ∙ take_all c.loop-script.script-index c.args.scripts.now (omega arith)
