-- The contents of a listing, number by number.
use Rattle.std.specs.Prelude.{ℕ, Bool, List, [], length, filter, is_some}
use Rattle.std.specs.List.{range_with_len}
use Rattle.std.specs.Option.{option_map_or}
use Rattle.lot_machine.specs.declared.command.Kind.{Kind}
use Rattle.lot_machine.specs.declared.command.Kind.TheVariants.{Tickets, Currencies, Threads}
use Rattle.lot_machine.specs.State.{State}
use Rattle.lot_machine.specs.Rows.{ticket_row, currency_row, thread_row}
use Rattle.lot_simulation.specs.declared.style.LineStyle.{LineStyle}
use Rattle.lot_simulation.specs.Texts.{ticket_line, currency_line, thread_line}

-- the first number of the kind
abbrev pub first_number : Kind → ℕ
first_number Tickets = 1
first_number Currencies = 0
first_number Threads = 1

-- whether a row with this number exists
abbrev pub is_there : State → Kind → ℕ → Bool
is_there s Tickets n = is_some (ticket_row s n)
is_there s Currencies n = is_some (currency_row s n)
is_there s Threads n = is_some (thread_row s n)

-- the line of the row with this number, or nothing if it doesn't exist
abbrev pub row_line : LineStyle → State → Kind → ℕ → List ℕ
row_line style s Tickets n = option_map_or (ticket_line style s.limits.unit n) (ticket_row s n) []
row_line style s Currencies n = option_map_or (currency_line style s.limits.unit n) (currency_row s n) []
row_line style s Threads n = option_map_or (thread_line style s.limits.unit n) (thread_row s n) []

-- the number of existing rows among the first `count` numbers
abbrev pub rows_among : State → Kind → ℕ → ℕ
rows_among s kind count = length (filter (is_there s kind) (range_with_len (first_number kind) count))
