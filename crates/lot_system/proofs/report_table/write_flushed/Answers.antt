-- The flushed text is the table.
use Rattle.lot_system.proofs.Common.{last_table, writes-flushed}
use Rattle.lot_system.proofs.report_table.write_flushed.Goals as goal

pub returns-clause-text : goal.returns-clause-text
returns-clause-text g c =
    writes-flushed (g.W.Write.contents c.args.writer.now.inner) (g.W.Write.contents c.write_table.new.writer.inner)
    (g.W.Write.contents c.flush.new.writer.inner) c.flush.new.writer.failed c.flush.result
    (last_table c.args.form c.args.program.now c.args.program.now.duration)
    c.in_ok-write_table.ensures.text.1 c.flush.ensures.text
