use Rattle.lot_explain.proofs.MadeTexts.{program-texts}
use Rattle.lot_explain.proofs.laws.explanations_are_those_of_the_turns.Goals as goal

pub returns : goal.returns
returns c detail program = program-texts detail program program.duration
