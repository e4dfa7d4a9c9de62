use Rattle.lot_print.proofs.Lemmas.{Err, arith, eqb-false, length, parts-more, parts-stop, rules, runs_in, runs_in-some, runs_line, runs_lines, runs_lines-first, sym, take, ◌<◌, ◌∙◌, ◌≡◌}
use Rattle.lot_print.proofs.runs.write_runs.Goals as goal

pub returns-in_err-write_runs_line : goal.returns-in_err-write_runs_line
returns-in_err-write_runs_line g c =
    let is : c.from_residual.result ≡ Err c.in_err-write_runs_line.field-0.0 = search rules in
    let i = c.loop-rest.invariant in
    let told = c.in_err-write_runs_line.ensures in
    let xs = c.loop-rest.rest.now in
    let some : 0 < length xs = omega (arith, eqb-false _ 0 (sym c.is_empty.ensures ∙ c.loop-rest-test.true)) in
    let more = c.after_line-others.result.now in
    let following = runs_lines-first xs more (runs_in-some xs some) c.after_line-others.ensures.runs in
    rw is (
      told.0,
      told.1,
      parts-stop (g.W.Write.contents c.args.writer.now.inner) (g.W.Write.contents c.loop-rest.writer.inner)
          (g.W.Write.contents c.write_runs_line.new.writer.inner) i.bytes.0 (runs_line (take 32 (runs_in xs)))
          (runs_lines more) (runs_lines xs) (runs_lines c.args.history.now) i.bytes.1 following i.bytes.2 told.2,
    )

pub loop-rest-preserved : goal.loop-rest-preserved
loop-rest-preserved g c =
    let i = c.loop-rest.invariant in
    let told = c.in_ok-write_runs_line.ensures in
    let xs = c.loop-rest.rest.now in
    let more = c.after_line-others.result.now in
    let some : 0 < length xs = omega (arith, eqb-false _ 0 (sym c.is_empty.ensures ∙ c.loop-rest-test.true)) in
    record {
      working = told.0;
      bytes = parts-more (g.W.Write.contents c.args.writer.now.inner) (g.W.Write.contents c.loop-rest.writer.inner)
          (g.W.Write.contents c.write_runs_line.new.writer.inner) i.bytes.0 (runs_line (take 32 (runs_in xs)))
          (runs_lines more) (runs_lines xs) (runs_lines c.args.history.now)
          i.bytes.1 (runs_lines-first xs more (runs_in-some xs some) c.after_line-others.ensures.runs) i.bytes.2 told.1;
    }
