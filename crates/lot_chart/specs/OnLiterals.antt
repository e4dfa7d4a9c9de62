-- The definitions that a proof unfolds to compute an output on literals.
use Rattle.std.specs.Prelude.{⊤}
use Rattle.lot_simulation.specs.OnLiterals.{texts_on_literals}
use Rattle.lot_simulation.specs.Timed.{timed_room}
use Rattle.lot_chart.specs.Charts.{picture}
use Rattle.lot_chart.specs.Marks.{marked}

-- the texts of numbers, on literals, and the largest number of turns
unfoldable pub outputs_on_literals : ⊤
unfolding texts_on_literals timed_room
outputs_on_literals = tt

-- the texts of numbers, on literals, and the picture with its marks
unfoldable pub pictures_on_literals : ⊤
unfolding texts_on_literals picture marked
pictures_on_literals = tt

-- the same for a timed program
unfoldable pub timed_pictures_on_literals : ⊤
unfolding texts_on_literals timed_room picture marked
timed_pictures_on_literals = tt
