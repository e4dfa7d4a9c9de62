use Rattle.lot_io.proofs.WritingFacts.{writes-flushed}
use Rattle.lot_chart.proofs.showing.write_flushed.Goals as goal

pub returns-clause-text : goal.returns-clause-text
returns-clause-text g c =
    writes-flushed (g.W.Write.contents c.args.writer.now.inner) (g.W.Write.contents c.write_bytes.new.writer.inner)
    (g.W.Write.contents c.flush.new.writer.inner) c.flush.new.writer.failed c.flush.result c.args.bytes.now
    c.in_ok-write_bytes.ensures.1 c.flush.ensures.text
