use Rattle.lot_print.proofs.Lemmas.{arith, last_pair}
use Rattle.lot_print.proofs.line.Line.push_three_or_four.Goals as goal

pub returns-clause-text : goal.returns-clause-text
returns-clause-text g c = last_pair c.args.self.now _ _ c.args.number c.requires.1
    (omega arith) c.push_up_to_two.ensures.text c.push_pair.ensures.text
