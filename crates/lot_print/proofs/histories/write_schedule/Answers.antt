use Rattle.lot_print.proofs.Lemmas.{Err, arith, drop, eqb-false, length, parts-more, parts-stop, refl, rules, schedule_line, schedule_lines, schedule_lines-first, sym, take, take_rest, ◌-◌, ◌<◌, ◌∙◌, ◌≡◌}
use Rattle.lot_print.proofs.histories.write_schedule.Goals as goal

pub returns-in_err-write_schedule_line : goal.returns-in_err-write_schedule_line
returns-in_err-write_schedule_line g c =
    let is : c.from_residual.result ≡ Err c.in_err-write_schedule_line.field-0.0 = search rules in
    let i = c.loop-rest.invariant in
    let told = c.in_err-write_schedule_line.ensures in
    let xs = c.loop-rest.rest.now in
    let n = c.min-len.result in
    let some : 0 < length xs = omega (arith, eqb-false _ 0 (sym c.is_empty.ensures ∙ c.loop-rest-test.true)) in
    rw is (
      told.0,
      told.1,
      parts-stop (g.W.Write.contents c.args.writer.now.inner) (g.W.Write.contents c.loop-rest.writer.inner)
          (g.W.Write.contents c.write_schedule_line.new.writer.inner) i.bytes.0 (schedule_line (take n xs))
          (schedule_lines (drop n xs)) (schedule_lines xs) (schedule_lines c.args.history.now) i.bytes.1
          (schedule_lines-first n xs (drop n xs) some c.min-len.ensures refl) i.bytes.2 told.2,
    )

pub loop-rest-preserved : goal.loop-rest-preserved
loop-rest-preserved g c =
    let i = c.loop-rest.invariant in
    let told = c.in_ok-write_schedule_line.ensures in
    let xs = c.loop-rest.rest.now in
    let n = c.min-len.result in
    let more = take (length xs - n) (drop n xs) in
    let some : 0 < length xs = omega (arith, eqb-false _ 0 (sym c.is_empty.ensures ∙ c.loop-rest-test.true)) in
    record {
      working = told.0;
      bytes = parts-more (g.W.Write.contents c.args.writer.now.inner) (g.W.Write.contents c.loop-rest.writer.inner)
          (g.W.Write.contents c.write_schedule_line.new.writer.inner) i.bytes.0 (schedule_line (take n xs))
          (schedule_lines more) (schedule_lines xs) (schedule_lines c.args.history.now) i.bytes.1
          (schedule_lines-first n xs more some c.min-len.ensures (take_rest xs n)) i.bytes.2 told.1;
    }
