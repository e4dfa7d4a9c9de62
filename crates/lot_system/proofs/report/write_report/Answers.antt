-- Each part is written after those before it.
use Rattle.lot_system.proofs.Common.{Err, List, Seen, begins-after, begins-front, codes, flat_map, length, lines_for, numbers, processor_total, range_with_len, rules, thread_row, thread_total, turns_made, whole_total, world_of, writes-after, ℕ, ◌++◌, ◌≡◌}
use Rattle.lot_system.proofs.report.write_report.Goals as goal

abbrev threads : Seen → List ℕ
threads s = lines_for thread_total (thread_row (world_of s).state) (numbers (world_of s).state.records)

abbrev processors : Seen → List ℕ
processors s = flat_map (processor_total (turns_made s.setting.program s.history))
    (range_with_len 1 (world_of s).state.limits.processors)

abbrev totals : Seen → List ℕ
totals s = whole_total (length (world_of s).history) (turns_made s.setting.program s.history)

pub returns-in_err-write_report_line-clause-text : goal.returns-in_err-write_report_line-clause-text
returns-in_err-write_report_line-clause-text g c =
    let s = c.args.system.now in
    let is : c.from_residual.result ≡ Err c.in_err-write_report_line.field-0.0 = search rules in
    let told = c.in_err-write_report_line.ensures in
    rw is (told.0, told.1, begins-front (g.W.Write.contents c.args.writer.now.inner) (g.W.Write.contents c.write_report_line.new.writer.inner) (codes "report\n") (threads s ++ (processors s ++ totals s)) told.2)

pub returns-in_err-write_threads-clause-text : goal.returns-in_err-write_threads-clause-text
returns-in_err-write_threads-clause-text g c =
    let s = c.args.system.now in
    let is : c.from_residual-in_err-write_threads.result ≡ Err c.in_err-write_threads.field-0.0 = search rules in
    let told = (rw c.settle.ensures.state at c.in_err-write_threads.ensures) in
    let old = g.W.Write.contents c.args.writer.now.inner in
    let one = g.W.Write.contents c.write_report_line.new.writer.inner in
    let new = g.W.Write.contents c.write_threads.new.writer.inner in
    rw is (told.0, told.1, begins-after old one new (codes "report\n") (threads s ++ (processors s ++ totals s)) c.in_ok-write_report_line.ensures.1 (begins-front one new (threads s) (processors s ++ totals s) told.2))

pub returns-in_err-write_processors-clause-text : goal.returns-in_err-write_processors-clause-text
returns-in_err-write_processors-clause-text g c =
    let s = c.args.system.now in
    let is : c.from_residual-in_err-write_processors.result ≡ Err c.in_err-write_processors.field-0.0 = search rules in
    let told = rw c.settle.follows.holds-at-none at c.in_err-write_processors.ensures in
    let old = g.W.Write.contents c.args.writer.now.inner in
    let one = g.W.Write.contents c.write_report_line.new.writer.inner in
    let two = g.W.Write.contents c.write_threads.new.writer.inner in
    let new = g.W.Write.contents c.write_processors.new.writer.inner in
    rw is (
      told.0,
      told.1,
      begins-after old one new (codes "report\n")
          (threads s ++ (processors s ++ totals s)) c.in_ok-write_report_line.ensures.1
          (begins-after one two new (threads s) (processors s ++ totals s) (rw c.settle.ensures.state at
          c.in_ok-write_threads.ensures.1) (begins-front two new (processors s) (totals s) told.2)),
    )

pub returns-clause-text : goal.returns-clause-text
returns-clause-text g c =
    let s = c.args.system.now in
    let same = c.settle.follows.holds-at-none in
    let third = rw same at c.in_ok-write_processors.ensures in
    let last = rw same at c.write_total.ensures in
    let old = g.W.Write.contents c.args.writer.now.inner in
    let one = g.W.Write.contents c.write_report_line.new.writer.inner in
    let two = g.W.Write.contents c.write_threads.new.writer.inner in
    let three = g.W.Write.contents c.write_processors.new.writer.inner in
    let new = g.W.Write.contents c.write_total.new.writer.inner in
    let failed = c.write_total.new.writer.failed in
    let result = c.write_total.result in
    writes-after old one new failed result (codes "report\n")
    (threads s ++ (processors s ++ totals s)) c.in_ok-write_report_line.ensures.1
    (writes-after one two new failed result (threads s) (processors s ++ totals s) (rw c.settle.ensures.state at
    c.in_ok-write_threads.ensures.1) (writes-after two three new failed result (processors s) (totals s) third.1 last))
