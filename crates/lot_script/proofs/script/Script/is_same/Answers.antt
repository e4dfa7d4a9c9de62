use Rattle.lot_script.proofs.Common.{Decides, ScriptLine, rules, slice_eq-Decides, ◌≡◌}
use Rattle.lot_simulation.specs.contracts.script.ScriptLinePartialEq.TheImpl.{eq-value}
use Rattle.lot_script.proofs.script.Script.is_same.Goals as goal

-- `==` of two lines decides whether they are equal
line_eq-decides : (a b : ScriptLine) → Decides (eq-value.it a b) (a ≡ b)
line_eq-decides a b = search rules

pub returns : goal.returns
returns c =
    let decided : Decides c.eq.result (c.lines.result.now ≡ c.lines-2.result.now) =
    slice_eq-Decides line_eq-decides c.lines.result.now c.lines-2.result.now c.eq.result c.eq.ensures in
    rw (← c.lines.ensures.lines, ← c.lines-2.ensures.lines) decided
