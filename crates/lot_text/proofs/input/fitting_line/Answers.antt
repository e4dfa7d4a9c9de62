-- Each way out is a line of its own kind: ignored, not printable, without a token, a comment, the first, or a later one.
use Rattle.lot_text.proofs.Lemmas.{Fails-then, Gives-fault, Ok, Reading, Some}
use Rattle.lot_text.proofs.input.fitting_line.Goals as goal

pub returns-in_err-first_line-in-None : goal.returns-in_err-first_line-in-None
returns-in_err-first_line-in-None c =
    Gives-fault _ c.from_residual.result c.in_err-first_line-in-None.field-0.0 _ c.from_residual.ensures.1
    c.from_residual.ensures.0
    (rw (← c.in-Some.ensures.1, c.in-Some-next_token.ensures.next, ← c.if-begins_comment.ensures, c.in-Some.ensures.0, ← c.in-Some.ensures.1, c.in-Some-next_token.ensures.next, c.in-None.is)
    (Fails-then c.in_err-first_line-in-None.field-0.0 _
    (λ (after : Reading). Ok (Some after)) c.in_err-first_line-in-None.ensures))

pub returns-in_err-later_line-in-Some-reading : goal.returns-in_err-later_line-in-Some-reading
returns-in_err-later_line-in-Some-reading c =
    let result = c.from_residual-in_err-later_line-in-Some-reading in
    Gives-fault _ result.result c.in_err-later_line-in-Some-reading.field-0.0 _ result.ensures.1 result.ensures.0
    (rw (← c.in-Some.ensures.1, c.in-Some-next_token.ensures.next, ← c.if-begins_comment.ensures, c.in-Some.ensures.0, ← c.in-Some.ensures.1, c.in-Some-next_token.ensures.next, c.in-Some-reading.is)
    (Fails-then c.in_err-later_line-in-Some-reading.field-0.0 _
    (λ (after : Reading). Ok (Some after)) c.in_err-later_line-in-Some-reading.ensures))
