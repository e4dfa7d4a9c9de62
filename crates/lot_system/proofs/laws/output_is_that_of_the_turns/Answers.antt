use Rattle.lot_system.proofs.TextFacts.{played-texts}
use Rattle.lot_system.proofs.laws.output_is_that_of_the_turns.Goals as goal

pub returns : goal.returns
returns c program = played-texts program program.duration
