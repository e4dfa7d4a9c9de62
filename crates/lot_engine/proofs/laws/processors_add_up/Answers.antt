use Rattle.lot_simulation.proofs.ProcessorCounts.{quanta-of_processors, idles-of_processors, ticks-of_processors}
use Rattle.lot_engine.proofs.laws.processors_add_up.Goals as goal

pub returns-clause-quanta : goal.returns-clause-quanta
returns-clause-quanta c program room history legal = quanta-of_processors program history

pub returns-clause-idles : goal.returns-clause-idles
returns-clause-idles c program room history legal = idles-of_processors program history

pub returns-clause-ticks : goal.returns-clause-ticks
returns-clause-ticks c program room history legal = ticks-of_processors program history
