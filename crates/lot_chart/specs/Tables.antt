-- Curves as a table with comma-separated fields.
use Rattle.std.specs.Prelude.{ℕ, ◌+◌, Option, List, ◌++◌, codes}
use Rattle.std.specs.List.{flat_map}
use Rattle.std.specs.Fmt.{decimal}
use Rattle.lot_simulation.specs.Texts.{newline}
use Rattle.lot_curves.specs.declared.stretch.Measure.{Measure}
use Rattle.lot_curves.specs.Curves.{Curves, row_at, sample_ticks}
use Rattle.lot_curves.specs.Stretches.{last_end}
use Rattle.lot_chart.specs.Shares.{figure_text, whole_at}

-- a field after the first, with its comma
abbrev pub next_field : List ℕ → List ℕ
next_field text = codes "," ++ text

-- the first line: the word tick, and the columns' names
abbrev pub header_line : List (List ℕ) → List ℕ
header_line names = codes "tick" ++ (flat_map next_field names ++ newline)

-- the line for a tick, with each column's ticks or draws, or with their shares of the whole
abbrev pub row_line : Option ℕ → ℕ → List ℕ → List ℕ
row_line whole tick row = decimal tick ++ (flat_map (λ figure. next_field (figure_text whole figure)) row ++ newline)

-- the line of the curves for a tick, which counts from their origin
abbrev pub sampled_line : Measure → Curves → ℕ → List ℕ
sampled_line measure curves tick = row_line (whole_at measure curves tick) (curves.origin + tick) (row_at measure curves tick)

-- the table: the line of names, and then a line for each sample
abbrev pub table : Measure → Curves → List ℕ
table measure curves = header_line curves.names ++ flat_map (sampled_line measure curves) (sample_ticks (last_end curves.stretches))
