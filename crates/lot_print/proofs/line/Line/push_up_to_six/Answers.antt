use Rattle.lot_print.proofs.Lemmas.{arith, last_pair}
use Rattle.lot_print.proofs.line.Line.push_up_to_six.Goals as goal

pub returns-else-number-lt100-clause-text : goal.returns-else-number-lt100-clause-text
returns-else-number-lt100-clause-text g c = last_pair c.args.self.now _ _ c.args.number c.if-number-lt100.false
    (omega arith) c.push_up_to_four.ensures.text c.push_pair.ensures.text
