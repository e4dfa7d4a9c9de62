use Rattle.lot_chart.proofs.Lemmas.{By, Curves, IfOk, Interval, None, Option, Program, Some, ap, chart, curves_by, curves_within, dues_by, on-ok, refl, shows-plays, subst, windowed, ℕ, ◌∙◌, ◌≡◌}
use Rattle.lot_chart.proofs.showing.chart_program.Goals as goal

-- an interval and a window change nothing of what curves are by
same-by : (window : Option ℕ) (interval : Option Interval) (curves : Curves)
    → (windowed window (curves_within interval curves)).by ≡ curves.by
same-by None None curves = refl
same-by None (Some interval) curves = refl
same-by (Some window) None curves = refl
same-by (Some window) (Some interval) curves = refl

-- without a duration nothing is due
dues-of : (what : By) (program : Program) (d : Option ℕ) → program.duration ≡ d
    → dues_by (curves_by what program).by program ≡ dues_by what program
dues-of what program None is = rw is refl
dues-of what program (Some duration) is = rw is refl

pub returns-in-Ok-clause-shown : goal.returns-in-Ok-clause-shown
returns-in-Ok-clause-shown g c =
    let program = c.args.program.now in
    let curves = curves_by c.args.by program in
    let within = curves_within c.args.interval curves in
    let wanted = windowed c.args.window within in
    let made = c.with_window-curves.ensures
    ∙ ap (windowed c.args.window) (c.within.ensures ∙ ap (curves_within c.args.interval) c.in-Ok.ensures.curves) in
    let due : dues_by c.with_window-curves.result.by program ≡ dues_by c.args.by program =
    ap (λ (v : Curves). dues_by v.by program) made ∙ ap (λ what. dues_by what program)
    (same-by c.args.window c.args.interval curves) ∙ dues-of c.args.by program program.duration refl in
    shows-plays g.W.Write.contents c.args.writer.now c.write_text.new.writer (λ v. v.items)
    (chart c.args.title.now (dues_by c.args.by program)) c.write_text.result c.requires wanted
    c.with_window-curves.result c.program_chart.result made
    (subst (λ o. IfOk c.program_chart.result (λ v. v.items ≡ chart c.args.title.now o c.with_window-curves.result)) due
    c.program_chart.ensures) c.write_text.ensures.shown

pub returns-in-Ok-clause-stopped : goal.returns-in-Ok-clause-stopped
returns-in-Ok-clause-stopped g c =
    on-ok c.write_text.result (λ done. c.in-Ok.ensures.stopped) c.write_text.ensures.flushed
