-- The room that a line needs.
use Rattle.std.specs.Prelude.{ℕ, ◌≤◌, List, [], ◌∷◌, ⊤, length}
use Rattle.lot_simulation.specs.Columns.{Row}

-- The most bytes of a cell in a line or a row, of a third of a figure over several plays, and of a third of the names
-- of a column.
abbrev pub cell_room : ℕ
cell_room = 72

-- the most bytes of the start of a line or a row
abbrev pub start_room : ℕ
start_room = 63

-- a column whose word and name are short enough for a cell
pub record IsShort (column : Row) : Type 0 where
  pub word : length column.word ≤ 12
  pub name : length column.name ≤ 13

-- all of these columns are
abbrev pub AreShort : List Row → Type 0
AreShort [] = ⊤
AreShort (column ∷ columns) = IsShort column × AreShort columns
