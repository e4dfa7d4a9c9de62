use Rattle.lot_text.proofs.Lemmas.{Fails-then, Gives-fault, pairs_added-read}
use Rattle.lot_text.proofs.body.add_pairs.Goals as goal

pub returns-in_err-runs : goal.returns-in_err-runs
returns-in_err-runs c =
    rw (← c.reading.view_is)
    (Gives-fault _ c.from_residual.result c.in_err-runs.field-0.0 _ c.from_residual.ensures.1 c.from_residual.ensures.0
    (Fails-then c.in_err-runs.field-0.0 _ _ (Fails-then c.in_err-runs.field-0.0 _ _ c.in_err-runs.ensures.read)))

pub returns : goal.returns
returns c =
    rw (pairs_added-read _ c.args.reading.now c.args.tokens c.in_ok-runs.runs.items c.reading.view_is c.in_ok-runs.ensures.read, ← c.as_slice.ensures.value) c.add_runs.ensures
