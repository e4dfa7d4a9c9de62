-- The columns' names, and then the rows of the subjects.
use Rattle.lot_system.proofs.Common.{Err, List, Seen, Subject, Timekeeper, Written, ap, begins-front, ended_at, false, header_row, moment_in, rules, subject_of, subjects_text, subst, timed_turns, writes-after, ℕ, ◌∙◌, ◌≡◌}
use Rattle.lot_simulation.specs.declared.columns.Layout.TheVariants.{InTable}
use Rattle.lot_system.proofs.report_table.write_timed.Goals as goal

-- the rows of a table's subjects
abbrev rows : Seen → Timekeeper → ℕ → Subject → List ℕ
rows s w end subject = subjects_text InTable (moment_in s w) end (timed_turns s.setting.program) subject

pub returns-in_err-write_header-clause-text : goal.returns-in_err-write_header-clause-text
returns-in_err-write_header-clause-text g c =
    let is : c.from_residual.result ≡ Err c.in_err-write_header.field-0.0 = search rules in
    let told = c.in_err-write_header.ensures in
    let s = c.args.system.now in
    let w = c.args.timekeeper.now in
    rw is (
      told.0,
      told.1,
      begins-front (g.W.Write.contents c.args.writer.now.inner) (g.W.Write.contents c.write_header.new.writer.inner)
          (header_row c.args.table false)
          (rows s w (ended_at c.args.program.now (moment_in s w)) (subject_of c.args.table)) told.2,
    )

pub returns-clause-text : goal.returns-clause-text
returns-clause-text g c =
    let s = c.args.system.now in
    let w = c.args.timekeeper.now in
    let last = rw c.ending_of-ending.ensures.same at c.write_subjects.ensures.text in
    let text = ap (rows s w c.ending_of-ending.result.time) c.subject-subject.ensures
    ∙ ap (λ end. rows s w end (subject_of c.args.table)) c.ending_of-ending.ensures.time in
    let second = subst (Written (g.W.Write.contents c.write_header.new.writer.inner) (g.W.Write.contents
    c.write_subjects.new.writer.inner) c.write_subjects.new.writer.failed c.write_subjects.result) text last in
    writes-after (g.W.Write.contents c.args.writer.now.inner) (g.W.Write.contents c.write_header.new.writer.inner)
    (g.W.Write.contents c.write_subjects.new.writer.inner) c.write_subjects.new.writer.failed c.write_subjects.result
    (header_row c.args.table false) (rows s w (ended_at c.args.program.now (moment_in s w)) (subject_of c.args.table))
    c.in_ok-write_header.ensures.1 second
