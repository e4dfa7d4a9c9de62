use Rattle.lot_text.proofs.Lemmas.{Gives-refusal, alone-refused, body_after_header, refl}
use Rattle.lot_simulation.specs.declared.input.BodyWord.TheVariants as body
use Rattle.lot_text.proofs.body.at.Goals as goal

pub returns-in_err-tick : goal.returns-in_err-tick
returns-in_err-tick c n =
    let other =
    alone-refused (body_after_header n c.args.reading.now body.At) c.args.tokens c.in_err-tick.field-0.0 refl
    (λ a b others. refl) c.in_err-tick.ensures in
    Gives-refusal _ c.from_residual.result c.in_err-tick.field-0.0 _ c.from_residual.ensures other
