use Rattle.lot_print.proofs.Common.{ap, decimal_digit, decimal_two, sym, ◌++◌, ◌∙◌}
use Rattle.lot_print.proofs.line.Line.push_up_to_two.Goals as goal

pub returns-then-number-lt10-clause-text : goal.returns-then-number-lt10-clause-text
returns-then-number-lt10-clause-text g c = c.push_digit.ensures.text
    ∙ ap (λ ds. c.args.self.now ++ ds) (sym (decimal_digit c.args.number c.if-number-lt10.true))

pub returns-else-number-lt10-clause-text : goal.returns-else-number-lt10-clause-text
returns-else-number-lt10-clause-text g c = c.push_pair.ensures.text
    ∙ ap (λ ds. c.args.self.now ++ ds) (sym (decimal_two c.args.number c.if-number-lt10.false c.requires.1))
