-- The columns of reports are short.
use Rattle.lot_print.proofs.Common.{Bool, List, false, length, list_all, nat_le, refl, take, true, [], ◌&&◌, ◌∷◌, ◌≡◌}
use Rattle.std.proofs.lemmas.Bool.{and_parts, leb-true}
use Rattle.lot_simulation.specs.Columns.{Row, columns_in, columns_of, currency_columns, thread_columns}
use Rattle.lot_simulation.specs.declared.columns.Subject.{Subject}
use Rattle.lot_simulation.specs.declared.columns.Subject.TheVariants.{Currency, Processor, Thread, Total}
use Rattle.lot_simulation.specs.declared.columns.Table.{Table}
use Rattle.lot_simulation.specs.declared.columns.Table.TheVariants.{Currencies, Schedule, Timed}
use Rattle.lot_print.specs.Room.{AreShort}

abbrev is_short : Row → Bool
is_short column = nat_le (length column.word) 12 && nat_le (length column.name) 13

short-by : (columns : List Row) → list_all is_short columns ≡ true → AreShort columns
short-by [] all = tt
short-by (column ∷ columns) all =
    let both = and_parts (is_short column) (list_all is_short columns) all in
    let here = and_parts (nat_le (length column.word) 12) (nat_le (length column.name) 13) both.0 in
    (record { word = leb-true (length column.word) 12 here.0; name = leb-true (length column.name) 13 here.1 }, short-by columns both.1)

-- those of a subject
pub short_columns : (subject : Subject) → AreShort (columns_of subject)
short_columns Thread = short-by thread_columns refl
short_columns Currency = short-by currency_columns refl
short_columns Processor = short-by (columns_of Processor) refl
short_columns Total = short-by (columns_of Total) refl

-- those of a table
pub short_table : (table : Table) (several : Bool) → AreShort (columns_in table several)
short_table Schedule false = short-by (take 2 thread_columns) refl
short_table Schedule true = short-by (take 3 thread_columns) refl
short_table Timed several = short-by thread_columns refl
short_table Currencies several = short-by currency_columns refl
