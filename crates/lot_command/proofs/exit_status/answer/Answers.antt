use Rattle.lot_command.proofs.Lemmas.{HasCome, IfOk, Played, Run, Show, Showing, showing-is, subst, sym, ◌∙◌, ◌≡◌}
use Rattle.lot_command.proofs.exit_status.answer.Goals as goal

pub returns-in-Show : goal.returns-in-Show
returns-in-Show g c showing is =
    let come : Showing → Played → Type 0 = λ s.
    HasCome s.view s.seed (g.R.Read.remaining c.args.reader.now.inner) (g.R.Read.remaining c.shown.new.reader.inner)
    c.args.diagnostics.now.warnings.stopped c.shown.new.diagnostics.warnings.stopped in
    subst (λ (s : Showing). IfOk c.shown.result (come s))
    (showing-is c.args.request.now c.in-Show.showing showing c.in-Show.is is) c.shown.ensures

pub returns-in-Run : goal.returns-in-Run
returns-in-Run g c showing is = absurd (let e : Run ≡ Show showing = sym c.in-Run.is ∙ is in cc)
