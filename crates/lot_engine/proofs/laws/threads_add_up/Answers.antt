use Rattle.lot_engine.proofs.Common.{arith, quanta-add_up, quanta-within, ticks-add_up, ticks-within}
use Rattle.lot_engine.proofs.laws.threads_add_up.Goals as goal

pub returns-clause-quanta : goal.returns-clause-quanta
returns-clause-quanta c program room history bounds legal small once =
    quanta-add_up program history bounds (omega (arith, legal.within_room, small)) once

pub returns-clause-ticks : goal.returns-clause-ticks
returns-clause-ticks c program room history bounds legal small once =
    ticks-add_up program history bounds (omega (arith, legal.within_room, small)) once

pub returns-clause-quanta_within : goal.returns-clause-quanta_within
returns-clause-quanta_within c program room history bounds legal small =
    quanta-within program history bounds (omega (arith, legal.within_room, small))

pub returns-clause-ticks_within : goal.returns-clause-ticks_within
returns-clause-ticks_within c program room history bounds legal small =
    ticks-within program history bounds (omega (arith, legal.within_room, small))
