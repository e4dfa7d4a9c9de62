-- One line after another.
use Rattle.lot_print.proofs.Common.{Err, List, arith, flat_map, refl, rules, suc, ℕ, ◌++◌, ◌+◌, ◌-◌, ◌<◌, ◌≡◌}
use Rattle.lot_print.proofs.WritingFacts.{parts-more, parts-stop}
use Rattle.std.specs.List.{range_with_len}
use Rattle.lot_simulation.specs.Columns.{further_lines}
use Rattle.lot_print.specs.Figures.{further_line}
use Rattle.lot_print.proofs.figures.write_further.Goals as goal

lines-next : (line : ℕ → List ℕ) (n place : ℕ) → place < n → flat_map line (range_with_len (place + 1) (n - place))
    ≡ line (place + 1) ++ flat_map line (range_with_len (place + 1 + 1) (n - (place + 1)))
lines-next line n place below = let e : n - place ≡ suc (n - (place + 1)) = omega arith in rw e refl

pub returns-in_err-write_to : goal.returns-in_err-write_to
returns-in_err-write_to g c =
    let is : c.from_residual.result ≡ Err c.in_err-write_to.field-0.0 = search rules in
    let told = rw c.further_line.ensures at c.in_err-write_to.ensures in
    let i = c.loop-place.invariant in
    let place = c.loop-place.place in
    let n = further_lines c.args.subject in
    let line = further_line c.args.subject c.args.number c.args.figures.now in
    rw is (
      told.0,
      told.1,
      parts-stop (g.W.Write.contents c.args.writer.now.inner) (g.W.Write.contents c.loop-place.writer.inner)
          (g.W.Write.contents c.write_to.new.writer.inner) i.bytes.0 (line (place + 1))
          (flat_map line (range_with_len (place + 1 + 1) (n - (place + 1))))
          (flat_map line (range_with_len (place + 1) (n - place))) (flat_map line (range_with_len 1 n)) i.bytes.1
          (lines-next line n place (omega arith)) i.bytes.2 told.2,
    )

pub loop-place-preserved : goal.loop-place-preserved
loop-place-preserved g c =
    let told = rw c.further_line.ensures at c.in_ok-write_to.ensures in
    let i = c.loop-place.invariant in
    let place = c.loop-place.place in
    let n = further_lines c.args.subject in
    let line = further_line c.args.subject c.args.number c.args.figures.now in
    record {
      working = told.0;
      bytes = parts-more (g.W.Write.contents c.args.writer.now.inner) (g.W.Write.contents c.loop-place.writer.inner)
          (g.W.Write.contents c.write_to.new.writer.inner) i.bytes.0 (line (place + 1))
          (flat_map line (range_with_len (place + 1 + 1) (n - (place + 1))))
          (flat_map line (range_with_len (place + 1) (n - place))) (flat_map line (range_with_len 1 n)) i.bytes.1
          (lines-next line n place (omega arith)) i.bytes.2 told.1;
    }
