use Rattle.lot_explain.proofs.Lemmas.{Err, first-more, lines-more, lines-stop, rules, ◌≡◌}
use Rattle.lot_explain.proofs.lines.write_lots.Goals as goal

pub returns-in_err-write_lot : goal.returns-in_err-write_lot
returns-in_err-write_lot g c =
    let is : c.from_residual.result ≡ Err c.in_err-write_lot.field-0.0 = search rules in
    let i = c.loop-lot.invariant in
    let told = c.in_err-write_lot.ensures in
    let h = c.args.heading in
    let x = c.lot-item.result in
    rw is (
      told.0,
      told.1,
      lines-stop h.style h.unit h.actor c.args.won c.args.lots.now c.loop-lot.lot-index x x
          (search rules) c.lot-item.is c.loop-lot.first i.first (g.W.Write.contents c.args.writer.now.inner)
          (g.W.Write.contents c.loop-lot.writer.inner) (g.W.Write.contents c.write_lot.new.writer.inner) i.bytes told.2,
    )

pub loop-lot-preserved : goal.loop-lot-preserved
loop-lot-preserved g c =
    let i = c.loop-lot.invariant in
    let told = c.in_ok-write_lot.ensures in
    let h = c.args.heading in
    let x = c.lot-item.result in
    let old = g.W.Write.contents c.args.writer.now.inner in
    let mid = g.W.Write.contents c.loop-lot.writer.inner in
    let new = g.W.Write.contents c.write_lot.new.writer.inner in
    record {
      working = told.0;
      first = first-more h.style h.unit h.actor c.args.won c.args.lots.now c.loop-lot.lot-index x x
          (search rules) c.lot-item.is c.loop-lot.first i.first old mid new i.bytes;
      bytes = lines-more h.style h.unit h.actor c.args.won c.args.lots.now c.loop-lot.lot-index x x
          (search rules) c.lot-item.is c.loop-lot.first i.first old mid new i.bytes told.1;
    }
