-- The flushed text is the report.
use Rattle.lot_system.proofs.Common.{last_report, writes-flushed}
use Rattle.lot_system.proofs.reports.write_flushed.Goals as goal

pub returns-clause-text : goal.returns-clause-text
returns-clause-text g c =
    writes-flushed (g.W.Write.contents c.args.writer.now.inner)
    (g.W.Write.contents c.write_last_report.new.writer.inner)
    (g.W.Write.contents c.flush.new.writer.inner) c.flush.new.writer.failed c.flush.result
    (last_report c.args.program.now c.args.program.now.duration)
    c.in_ok-write_last_report.ensures.text.1 c.flush.ensures.text
