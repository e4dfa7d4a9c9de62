use Rattle.lot_system.proofs.Lemmas.{Written, ap, ended_at, moment_in, scheduled-is, subst, time-end, timed-is, timed_table, timed_turns, ◌∙◌}
use Rattle.lot_simulation.specs.declared.columns.Table as tables
use Rattle.lot_system.proofs.report_table.write_table.Goals as goal

pub write_timed-requires-clause-end : goal.write_timed-requires-clause-end
write_timed-requires-clause-end g c = time-end c.args.system.now c.in-InTime.timekeeper
    (rw c.in-InTime.is at c.requires.order) (rw c.in-InTime.is at c.requires.ended)

pub returns-in-Scheduled-clause-text : goal.returns-in-Scheduled-clause-text
returns-in-Scheduled-clause-text g c =
    let there = rw c.in-Scheduled.is at c.requires.order in
    let text = scheduled-is c.args.form c.args.program.now c.args.system.now c.requires.made there.untimed in
    subst (Written (g.W.Write.contents c.args.writer.now.inner) (g.W.Write.contents c.write_scheduled.new.writer.inner)
    c.write_scheduled.new.writer.failed c.write_scheduled.result) text c.write_scheduled.ensures.text

pub returns-in-InTime-clause-text : goal.returns-in-InTime-clause-text
returns-in-InTime-clause-text g c =
    let s = c.args.system.now in
    let w = c.in-InTime.timekeeper in
    let program = c.args.program.now in
    let there = rw c.in-InTime.is at c.requires.order in
    let end = time-end s w there (rw c.in-InTime.is at c.requires.ended) in
    let text = ap (λ (table : tables.Table). timed_table table (moment_in s w) (ended_at program (moment_in s w))
    (timed_turns s.setting.program)) c.table_in.ensures
    ∙ timed-is c.args.form program s c.requires.made w end there.timed in
    subst (Written (g.W.Write.contents c.args.writer.now.inner) (g.W.Write.contents c.write_timed.new.writer.inner)
    c.write_timed.new.writer.failed c.write_timed.result) text c.write_timed.ensures.text
