use Rattle.lot_text.proofs.Lemmas.{OpenScript, ap, arith, le-leb, lt-leb, refl, ◌<◌, ◌≤◌}
use Rattle.lot_text.proofs.script_lines.begin_loop.Goals as goal

pub returns-then-open_loops-ge8 : goal.returns-then-open_loops-ge8
returns-then-open_loops-ge8 c =
    let loops = ap (λ (s : OpenScript). s.loops) c.script.view_is in
    let deep : 8 ≤ c.args.script.loops = omega (arith, c.if-open_loops-ge8.true, c.open_loops.ensures.count, loops) in
    rw (le-leb 8 c.args.script.loops deep)
    refl

pub returns : goal.returns
returns c =
    let loops = ap (λ (s : OpenScript). s.loops) c.script.view_is in
    let room : c.args.script.loops < 8 = omega (arith, c.if-open_loops-ge8.false, c.open_loops.ensures.count, loops) in
    rw (lt-leb 8 c.args.script.loops room)
    c.add_line.ensures
