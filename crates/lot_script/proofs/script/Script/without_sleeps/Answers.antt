use Rattle.lot_script.proofs.Lemmas.{IsScript, arith, awake-script, common_steps, map, subst, sym, without_sleep, ◌≡◌}
use Rattle.lot_script.proofs.script.Script.without_sleeps.Goals as goal

pub invariant_of-result : goal.invariant_of-result
invariant_of-result c =
    let all : c.loop-line.lines.items ≡ map without_sleep c.lines-line-items.result.now = grind (arith, common_steps) in
    subst IsScript (sym all) (awake-script c.lines-line-items.result.now c.lines-line-items.ensures.legal)
