-- A line outside scripts leaves the reading as it was without a script.
use Rattle.lot_text.proofs.Common.{None, refl, sym, ◌∙◌, ◌≡◌}
use Rattle.lot_text.proofs.ReadingLemmas.{outside-script}
use Rattle.lot_text.proofs.input.later_line.Goals as goal

pub returns-in-None : goal.returns-in-None
returns-in-None c =
    let unclosed : c.reading.inside.unclosed ≡ None = sym c.take.ensures.value ∙ c.in-None.is in
    outside-script c.args.number c.args.reading.now _ c.args.word.now c.args.tokens _ c.line_outside.result
    (rw (← c.reading.view_is, unclosed, c.take.ensures.after) refl)
    (rw (← c.reading.view_is) unclosed) c.line_outside.ensures
