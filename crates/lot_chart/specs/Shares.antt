-- Shares of a whole in percent, and their texts.
use Rattle.std.specs.Prelude.{ℕ, ◌+◌, ◌*◌, ◌/◌, ◌%◌, min, max, Option, Some, None, List, ◌++◌, codes}
use Rattle.std.specs.Fmt.{decimal}
use Rattle.lot_curves.specs.declared.stretch.Measure.{Measure}
use Rattle.lot_curves.specs.Curves.{Curves, total_at}

-- a number of tenths, with a point
abbrev pub tenths : ℕ → List ℕ
tenths n = decimal (n / 10) ++ (codes "." ++ decimal (n % 10))

-- a part of the whole in tenths of a percent, rounded; 0 if the whole is 0
abbrev pub share_of : ℕ → ℕ → ℕ
share_of whole part = min ((1000 * part + whole / 2) / max 1 whole) 1000

-- with a window, the ticks or draws of all threads in the window that ends at this tick; figures are shares of them
abbrev pub whole_at : Measure → Curves → ℕ → Option ℕ
whole_at measure curves tick = by curves.window
  where
    by : Option ℕ → Option ℕ
    by None = None
    by (Some window) = Some (total_at measure curves tick)

-- a figure, or its share of the whole
abbrev pub figure_text : Option ℕ → ℕ → List ℕ
figure_text None figure = decimal figure
figure_text (Some whole) figure = tenths (share_of whole figure)
