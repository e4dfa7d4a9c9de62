-- The marks at the times of commands: at most one in each unit of the plot's width.
use Rattle.std.specs.Prelude.{ℕ, ◌+◌, ◌-◌, ◌==◌, ◌&&◌, nat_lt, nat_le, Bool, true, false, Option, Some, None, List, find, map}
use Rattle.std.specs.List.{range_with_len}
use Rattle.lot_curves.specs.Curves.{Curves}
use Rattle.lot_curves.specs.Stretches.{last_end}
use Rattle.lot_chart.specs.Lines.{scaled}

-- whether a command's time is in the picture: after the left edge of the plot, and not after the right one
abbrev pub is_within : Curves → ℕ → Bool
is_within curves time = nat_lt curves.origin time && nat_le time (curves.origin + last_end curves.stretches)

-- the column of a time: its distance from the left edge of the plot in whole units, 0 to 670
abbrev pub column_of : Curves → ℕ → ℕ
column_of curves time = scaled (time - curves.origin) (last_end curves.stretches) 670

-- whether a command of this time is in the column
abbrev pub stands_in : Curves → ℕ → ℕ → Bool
stands_in curves column time = is_within curves time && (column_of curves time == column)

-- the first of these times in the column, if there is one
abbrev pub first_in : Curves → List ℕ → ℕ → Option ℕ
first_in curves times column = find (stands_in curves column) times

-- the first command in each column, if there is one
unfoldable pub marked : Curves → List (Option ℕ)
marked curves = map (first_in curves curves.commands) (range_with_len 0 671)

-- the earlier time, if there is one, otherwise this one, if it is in the column
abbrev pub first_of : Option ℕ → Bool → ℕ → Option ℕ
first_of (Some earlier) here time = Some earlier
first_of None true time = Some time
first_of None false time = None
