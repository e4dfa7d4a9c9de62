use Rattle.lot_system.proofs.Common.{IsSome, None, Option, Program, Some, Written, ap, false, is_some, last_report, refl, subst, sym, time-end, timed_report, true, ℕ, ◌∙◌, ◌≡◌}
use Rattle.lot_system.proofs.reports.report_in_time.Goals as goal

pub write_timed_report-requires-clause-end : goal.write_timed_report-requires-clause-end
write_timed_report-requires-clause-end g c =
    time-end c.args.system.now c.args.timekeeper.now c.requires.there c.requires.ended

report-of : (program : Program) (d : Option ℕ) → IsSome d → timed_report program ≡ last_report program d
report-of program None wrong = absurd (let e : false ≡ true = wrong in cc)
report-of program (Some duration) is = refl

pub returns-clause-text : goal.returns-clause-text
returns-clause-text g c =
    let program = c.args.program.now in
    let timed = ap (λ (p : Program). is_some p.duration) (sym c.requires.program) ∙ c.requires.there.timed in
    subst (Written (g.W.Write.contents c.args.writer.now.inner) (g.W.Write.contents
    c.write_timed_report.new.writer.inner) c.write_timed_report.new.writer.failed c.write_timed_report.result)
    (report-of program program.duration timed) c.write_timed_report.ensures.text
