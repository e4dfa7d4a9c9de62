use Rattle.lot_print.proofs.Lemmas.{arith, last_pairs}
use Rattle.lot_print.proofs.line.Line.push_long.Goals as goal

pub returns-clause-text : goal.returns-clause-text
returns-clause-text g c =
    last_pairs c.args.self.now _ _ _ c.args.number c.requires.1
    (omega arith) c.push_up_to_six.ensures.text c.push_pair.ensures.text c.push_pair-2.ensures.text
