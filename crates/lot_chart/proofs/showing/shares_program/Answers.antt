use Rattle.lot_chart.proofs.Lemmas.{ap, curves_of, curves_within, on-ok, shows-plays, table, windowed, ◌∙◌}
use Rattle.lot_chart.proofs.showing.shares_program.Goals as goal

pub returns-in-Ok-clause-shown : goal.returns-in-Ok-clause-shown
returns-in-Ok-clause-shown g c =
    let within = curves_within c.args.interval (curves_of c.args.program.now) in
    let wanted = windowed c.args.window within in
    shows-plays g.W.Write.contents c.args.writer.now c.write_text.new.writer (λ v. v.items) (table c.args.measure)
    c.write_text.result c.requires wanted c.with_window-curves.result c.table.result (c.with_window-curves.ensures
    ∙ ap (windowed c.args.window) (c.within.ensures ∙ ap (curves_within c.args.interval) c.in-Ok.ensures.curves))
    c.table.ensures c.write_text.ensures.shown

pub returns-in-Ok-clause-stopped : goal.returns-in-Ok-clause-stopped
returns-in-Ok-clause-stopped g c =
    on-ok c.write_text.result (λ done. c.in-Ok.ensures.stopped) c.write_text.ensures.flushed
