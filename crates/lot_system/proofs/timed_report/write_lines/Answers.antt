-- The first line, and then those of the subjects.
use Rattle.lot_system.proofs.Lemmas.{Err, List, Seen, Timekeeper, Written, all_subjects, begins-front, codes, ended_at, flat_map, moment_in, rules, subjects_text, subst, timed_turns, writes-after, ap, ℕ, ◌∙◌, ◌≡◌}
use Rattle.lot_simulation.specs.declared.columns.Layout.TheVariants.{InLine}
use Rattle.lot_system.proofs.timed_report.write_lines.Goals as goal

-- the lines of the subjects in a play that ends at this time
abbrev lines : Seen → Timekeeper → ℕ → List ℕ
lines s w end = flat_map (subjects_text InLine (moment_in s w) end (timed_turns s.setting.program)) all_subjects

pub returns-in_err-write_report_line-clause-text : goal.returns-in_err-write_report_line-clause-text
returns-in_err-write_report_line-clause-text g c =
    let is : c.from_residual.result ≡ Err c.in_err-write_report_line.field-0.0 = search rules in
    let told = c.in_err-write_report_line.ensures in
    let s = c.args.system.now in
    let w = c.args.timekeeper.now in
    rw is (told.0, told.1, begins-front (g.W.Write.contents c.args.writer.now.inner) (g.W.Write.contents c.write_report_line.new.writer.inner) (codes "report\n") (lines s w (ended_at c.args.program.now (moment_in s w))) told.2)

pub returns-clause-text : goal.returns-clause-text
returns-clause-text g c =
    let s = c.args.system.now in
    let w = c.args.timekeeper.now in
    let time = c.ending_of-ending.result.time in
    let text = ap (λ (x : Seen). lines x w time) c.ending_of-ending.ensures.same
    ∙ ap (lines s w) c.ending_of-ending.ensures.time in
    let second = subst (Written (g.W.Write.contents c.write_report_line.new.writer.inner) (g.W.Write.contents
    c.write_all.new.writer.inner) c.write_all.new.writer.failed c.write_all.result) text c.write_all.ensures.text in
    writes-after (g.W.Write.contents c.args.writer.now.inner) (g.W.Write.contents c.write_report_line.new.writer.inner)
    (g.W.Write.contents c.write_all.new.writer.inner) c.write_all.new.writer.failed c.write_all.result
    (codes "report\n")
    (lines s w (ended_at c.args.program.now (moment_in s w))) c.in_ok-write_report_line.ensures.1 second
