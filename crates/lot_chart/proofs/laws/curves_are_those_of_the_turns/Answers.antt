use Rattle.lot_chart.proofs.Lemmas.{curves-are, refl, timed-curves-are}
use Rattle.lot_chart.proofs.laws.curves_are_those_of_the_turns.Goals as goal

pub returns-clause-thread : goal.returns-clause-thread
returns-clause-thread c program = curves-are program program.duration refl

pub returns-clause-timed : goal.returns-clause-timed
returns-clause-timed c what program = timed-curves-are what program program.duration refl
