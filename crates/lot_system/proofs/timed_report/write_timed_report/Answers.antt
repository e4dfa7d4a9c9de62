-- The lines of each report, and then that of an early end.
use Rattle.lot_system.proofs.Lemmas.{Begins, Err, List, Program, Seen, Timekeeper, Written, begins-front, early-line, early_end, early_text, ended_at, length, moment_in, rules, subst, timed_report_of, timed_turns, writes-after, ℕ, ◌≡◌}
use Rattle.lot_system.proofs.TimedReportFacts.{report-is}
use Rattle.lot_system.proofs.timed_report.write_timed_report.Goals as goal

-- the lines of each report
abbrev lines : Seen → Timekeeper → Program → List ℕ
lines s w program =
    timed_report_of program (moment_in s w) (ended_at program (moment_in s w)) (timed_turns s.setting.program)

-- the line of an early end
abbrev last : Seen → Timekeeper → Program → List ℕ
last s w program = early_text (early_end program (moment_in s w) (length s.history))

pub returns-in_err-write_lines-clause-text : goal.returns-in_err-write_lines-clause-text
returns-in_err-write_lines-clause-text g c =
    let s = c.args.system.now in
    let w = c.args.timekeeper.now in
    let program = c.args.program.now in
    let is : c.from_residual.result ≡ Err c.in_err-write_lines.field-0.0 = search rules in
    let told = c.in_err-write_lines.ensures.text in
    let old = g.W.Write.contents c.args.writer.now.inner in
    let new = g.W.Write.contents c.write_lines.new.writer.inner in
    rw is (told.0, told.1, subst (Begins old new) (report-is s w c.requires.end program c.requires.program) (begins-front old new (lines s w program) (last s w program) told.2))

pub returns-clause-text : goal.returns-clause-text
returns-clause-text g c =
    let s = c.args.system.now in
    let w = c.args.timekeeper.now in
    let program = c.args.program.now in
    let first = c.in_ok-write_lines.ensures in
    let old = g.W.Write.contents c.args.writer.now.inner in
    let mid = g.W.Write.contents c.write_lines.new.writer.inner in
    let new = g.W.Write.contents c.write_early.new.writer.inner in
    let failed = c.write_early.new.writer.failed in
    let result = c.write_early.result in
    let line = early-line s c.write_lines.new.system w program c.early_end.result first.same c.early_end.ensures in
    let second : Written mid new failed result (last s w program) =
    subst (Written mid new failed result) line c.write_early.ensures in
    subst (Written old new failed result) (report-is s w c.requires.end program c.requires.program)
    (writes-after old mid new failed result (lines s w program) (last s w program) first.text.1 second)
