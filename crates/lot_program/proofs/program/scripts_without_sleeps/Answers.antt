use Rattle.lot_program.proofs.Common.{IfOk-from_err, ap, arith, map, map-append, sym, take, take_all, take_more, without_sleep, [], ◌∙◌, ◌∷◌}
use Rattle.lot_program.proofs.program.scripts_without_sleeps.Goals as goal

pub returns-in_err-copies : goal.returns-in_err-copies
returns-in_err-copies c = IfOk-from_err c.from_residual.result _ c.from_residual.ensures.0

pub returns-in_err-without_sleeps : goal.returns-in_err-without_sleeps
returns-in_err-without_sleeps c =
    IfOk-from_err c.from_residual-in_err-without_sleeps.result _ c.from_residual-in_err-without_sleeps.ensures.0

pub returns-in_err-push : goal.returns-in_err-push
returns-in_err-push c = IfOk-from_err c.from_residual-in_err-push.result _ c.from_residual-in_err-push.ensures.0

pub loop-script-preserved : goal.loop-script-preserved
loop-script-preserved c =
    let scripts = c.args.scripts.now in
    let i = c.loop-script.script-index in
    let script = c.script-item.result in
    rw (c.in_ok-push.ensures.items, c.loop-script.invariant, c.in_ok-without_sleeps.ensures, take_more scripts i script c.loop-script-test.true, ← c.script-item.is)
    (sym (map-append (map without_sleep) (take i scripts) (script ∷ [])))

pub returns : goal.returns
returns c = c.loop-script.invariant
    ∙ ap (map (map without_sleep)) (take_all c.loop-script.script-index c.args.scripts.now (omega arith))
