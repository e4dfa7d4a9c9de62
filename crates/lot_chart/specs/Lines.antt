-- The ends of lines, and the positions of their names. All lengths are in tenths of a unit of the picture, heights
-- from its top.
use Rattle.std.specs.Prelude.{ℕ, ◌+◌, ◌-◌, ◌*◌, ◌/◌, min, max, List, [], ◌∷◌, length}
use Rattle.lot_chart.specs.declared.standings.Standing.{Standing}
use Rattle.lot_chart.specs.declared.lines.PlotLine.{PlotLine}

-- the position of this value along a length whose end is at the most
abbrev pub scaled : ℕ → ℕ → ℕ → ℕ
scaled value most length = min (value * length / max 1 most) length

-- The height of this many ticks: the plot extends from 4600, for none, up to 600, for the most.
abbrev pub height_of : ℕ → ℕ → ℕ
height_of most ticks = 4600 - scaled ticks most 4000

-- the ticks of the first, which are the most
abbrev pub most_in : List Standing → ℕ
most_in [] = 0
most_in (s ∷ shown) = s.ticks

-- The height of a name: at its line's end, with room for the names below it, and at least this far from the top.
abbrev pub place_of : ℕ → ℕ → ℕ → ℕ
place_of least height more = max (min height (4600 - 160 * more)) least

-- the lines of these standings, with styles from this one on; their names are at least 160 apart, from this height on
abbrev pub lines_after : ℕ → ℕ → ℕ → List Standing → List PlotLine
lines_after most style least [] = []
lines_after most style least (s ∷ shown) =
    record { thread = s.thread; ticks = s.ticks; style = style; height = height_of most s.ticks; place = place_of least (height_of most s.ticks) (length shown) }
    ∷ lines_after most (style + 1) (place_of least (height_of most s.ticks) (length shown) + 160) shown

-- the lines of these standings, which are in descending order of ticks, given the ticks at the top of the plot
abbrev pub lines_of : ℕ → List Standing → List PlotLine
lines_of most shown = lines_after most 0 600 shown
