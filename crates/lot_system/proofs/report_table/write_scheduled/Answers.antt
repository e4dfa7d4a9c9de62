-- The columns' names, and then the rows of the threads.
use Rattle.lot_system.proofs.Common.{Err, List, Schedule, Seen, begins-front, false, header_row, lines_for, numbers, rules, thread_row, thread_text, world_of, writes-after, ℕ, ◌≡◌}
use Rattle.lot_simulation.specs.declared.columns.Layout.TheVariants.{InTable}
use Rattle.lot_system.proofs.report_table.write_scheduled.Goals as goal

abbrev threads : Seen → List ℕ
threads s = lines_for (thread_text InTable) (thread_row (world_of s).state) (numbers (world_of s).state.records)

pub returns-in_err-write_header-clause-text : goal.returns-in_err-write_header-clause-text
returns-in_err-write_header-clause-text g c =
    let is : c.from_residual.result ≡ Err c.in_err-write_header.field-0.0 = search rules in
    let told = c.in_err-write_header.ensures in
    rw is (told.0, told.1, begins-front (g.W.Write.contents c.args.writer.now.inner) (g.W.Write.contents c.write_header.new.writer.inner) (header_row Schedule false) (threads c.args.system.now) told.2)

pub returns-clause-text : goal.returns-clause-text
returns-clause-text g c =
    writes-after (g.W.Write.contents c.args.writer.now.inner) (g.W.Write.contents c.write_header.new.writer.inner)
    (g.W.Write.contents c.write_threads.new.writer.inner) c.write_threads.new.writer.failed c.write_threads.result
    (header_row Schedule false) (threads c.args.system.now) c.in_ok-write_header.ensures.1
    (rw c.settle.ensures.state at c.write_threads.ensures)
