use Rattle.lot_text.proofs.Lemmas.{Gives-memory, Gives-refusal, mutex-line, refl}
use Rattle.lot_text.proofs.body.mutex.Goals as goal

pub returns-in_err-name : goal.returns-in_err-name
returns-in_err-name c n =
    Gives-refusal _ c.from_residual.result c.in_err-name.field-0.0 _ c.from_residual.ensures
    (rw (mutex-line n c.args.reading.now c.args.tokens, ← c.reading.view_is, ← c.as_slice.ensures.value, ← c.in_err-name.ensures.read) refl)

pub returns-in_err-push : goal.returns-in_err-push
returns-in_err-push c n = Gives-memory _ c.from_residual-in_err-push.result _ c.from_residual-in_err-push.ensures

pub returns : goal.returns
returns c n =
    rw (c.in_ok-push.ensures.items, mutex-line n c.args.reading.now c.args.tokens, ← c.reading.view_is)
    (let read = rw c.as_slice.ensures.value at c.in_ok-name.ensures.read in rw (← read) refl)
