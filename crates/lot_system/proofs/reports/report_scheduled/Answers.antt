use Rattle.lot_system.proofs.Common.{Program, Written, ap, last_report, place-end, report, report-is, subst, sym, ◌∙◌, ◌≡◌}
use Rattle.lot_system.proofs.reports.report_scheduled.Goals as goal

pub returns-clause-text : goal.returns-clause-text
returns-clause-text g c =
    let seen = c.args.system.now in
    let program = seen.setting.program in
    let text : report program seen.history ≡ last_report c.args.program.now c.args.program.now.duration =
    report-is program seen (place-end seen c.args.place c.requires.there c.requires.ended) ∙ ap (last_report program)
    (sym c.requires.there.untimed) ∙ ap (λ (p : Program). last_report p p.duration) c.requires.program in
    subst (Written (g.W.Write.contents c.args.writer.now.inner) (g.W.Write.contents c.write_report.new.writer.inner)
    c.write_report.new.writer.failed c.write_report.result) text c.write_report.ensures.text
