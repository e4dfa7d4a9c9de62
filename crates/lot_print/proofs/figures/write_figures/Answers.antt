-- The first line, and then the others.
use Rattle.lot_print.proofs.Common.{Err, begins-front, flat_map, rules, writes-after, ◌≡◌}
use Rattle.std.specs.List.{range_with_len}
use Rattle.lot_simulation.specs.Columns.{further_lines}
use Rattle.lot_print.specs.Figures.{first_line, further_line}
use Rattle.lot_print.proofs.figures.write_figures.Goals as goal

pub returns-in_err-write_to : goal.returns-in_err-write_to
returns-in_err-write_to g c =
    let is : c.from_residual.result ≡ Err c.in_err-write_to.field-0.0 = search rules in
    let figures = c.args.figures.now in
    let told = rw c.first_line.ensures at c.in_err-write_to.ensures in
    rw is (
      told.0,
      told.1,
      begins-front (g.W.Write.contents c.args.writer.now.inner) (g.W.Write.contents c.write_to.new.writer.inner)
          (first_line c.args.subject c.args.number figures)
          (flat_map (further_line c.args.subject c.args.number figures)
          (range_with_len 1 (further_lines c.args.subject))) told.2,
    )

pub returns : goal.returns
returns g c =
    let figures = c.args.figures.now in
    let told = rw c.first_line.ensures at c.in_ok-write_to.ensures in
    writes-after (g.W.Write.contents c.args.writer.now.inner) (g.W.Write.contents c.write_to.new.writer.inner)
    (g.W.Write.contents c.write_further.new.writer.inner) c.write_further.new.writer.failed c.write_further.result
    (first_line c.args.subject c.args.number figures) (flat_map (further_line c.args.subject c.args.number figures)
    (range_with_len 1 (further_lines c.args.subject))) told.1 c.write_further.ensures
