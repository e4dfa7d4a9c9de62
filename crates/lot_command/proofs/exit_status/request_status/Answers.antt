use Rattle.lot_command.proofs.Lemmas.{HasCome, if-ok, refl, result_ok, status-for}
use Rattle.lot_command.proofs.exit_status.request_status.Goals as goal

pub returns-clause-shown : goal.returns-clause-shown
returns-clause-shown g c showing is =
    let left = g.R.Read.remaining c.new-reader.result.inner.inner in
    let rest = g.R.Read.remaining c.answer-came.new.reader.inner.inner in
    let before = c.in-Ok-nothing.diagnostics.warnings.stopped in
    let after = c.answer-came.new.diagnostics.warnings.stopped in
    let came = if-ok (HasCome showing.view showing.seed left rest before after) c.answer-came.result
    (result_ok c.answer-came.result) refl (c.answer-came.ensures showing is) in
    let told = status-for showing.view showing.seed left rest before after (result_ok c.answer-came.result)
    c.status_of-status.result c.in-Ok-nothing.ensures came c.status_of-status.ensures.status in
    rw (c.new-reader.ensures, c.new-source.ensures) at told
