use Rattle.lot_text.proofs.Lemmas.{Gives-refusal, alone-refused, header_line, refl}
use Rattle.lot_simulation.specs.declared.input.HeaderWord.TheVariants as header
use Rattle.lot_text.proofs.header.read_duration.Goals as goal

pub returns-in_err-duration : goal.returns-in_err-duration
returns-in_err-duration c =
    let other =
    alone-refused (header_line c.args.reading.now header.For) c.args.tokens c.in_err-duration.field-0.0 refl
    (λ a b others. refl) c.in_err-duration.ensures in
    Gives-refusal _ c.from_residual.result c.in_err-duration.field-0.0 _ c.from_residual.ensures other
