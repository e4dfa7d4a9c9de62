use Rattle.lot_text.proofs.Lemmas.{Gives-refusal, none-refused, refl}
use Rattle.lot_simulation.specs.Grammar.{option_line}
use Rattle.lot_text.proofs.header.read_option.Goals as goal

pub returns-in_err-none : goal.returns-in_err-none
returns-in_err-none c =
    let other = none-refused (λ tokens. option_line c.args.reading.now tokens c.args.chosen) c.args.tokens
    c.in_err-none.field-0.0 (λ first others. refl) c.in_err-none.ensures in
    Gives-refusal _ c.from_residual.result c.in_err-none.field-0.0 _ c.from_residual.ensures other
