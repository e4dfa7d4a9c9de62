use Rattle.lot_system.proofs.Lemmas.{Err, ap, arith, first_number, given_count, range-more, range-stops, row_line, rules, ◌+◌, ◌≡◌}
use Rattle.lot_system.proofs.listing.write_rows.Goals as goal

pub returns-in_err-write_row : goal.returns-in_err-write_row
returns-in_err-write_row g c =
    let is : c.from_residual.result ≡ Err c.in_err-write_row.field-0.0 = search rules in
    let i = c.loop-place.invariant in
    let told = c.in_err-write_row.ensures in
    let s = c.args.settled.kernel.now.state in
    let kind = c.args.kind in
    rw is (
      told.0,
      told.1,
      range-stops (g.W.Write.contents c.args.writer.now.inner) (g.W.Write.contents c.loop-place.writer.inner)
          (g.W.Write.contents c.write_row.new.writer.inner) (row_line c.args.style s kind)
          (first_number kind) c.loop-place.place
          (given_count s kind) (c.first_number-first.result + c.loop-place.place)
          (omega (arith, c.loop-place-test.true, c.given_count-place-end.ensures))
          (ap (λ n. n + c.loop-place.place) c.first_number-first.ensures.exact) i.bytes told.2,
    )

pub loop-place-preserved : goal.loop-place-preserved
loop-place-preserved g c =
    let i = c.loop-place.invariant in
    let told = c.in_ok-write_row.ensures in
    let s = c.args.settled.kernel.now.state in
    let kind = c.args.kind in
    record {
      working = told.0;
      bytes = range-more (g.W.Write.contents c.args.writer.now.inner) (g.W.Write.contents c.loop-place.writer.inner)
          (g.W.Write.contents c.write_row.new.writer.inner) (row_line c.args.style s kind)
          (first_number kind) c.loop-place.place (c.first_number-first.result + c.loop-place.place)
          (ap (λ n. n + c.loop-place.place) c.first_number-first.ensures.exact) i.bytes told.1;
    }
