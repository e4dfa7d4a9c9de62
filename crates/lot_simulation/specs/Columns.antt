-- The columns of reports, and the texts of their cells.
use Rattle.std.specs.Prelude.{ℕ, ◌*◌, ◌/◌, ◌%◌, ◌==◌, Bool, true, false, List, [], ◌∷◌, ◌++◌, flat_map, take, zip, codes, if◌then◌else◌}
use Rattle.std.specs.Fmt.{decimal}
use Rattle.std.specs.Borrow.{Bor}
use Rattle.lot_simulation.specs.Texts.{behind_point, newline}
use Rattle.lot_simulation.specs.declared.columns.Cell.{Cell}
use Rattle.lot_simulation.specs.declared.columns.Cell.TheVariants.{Empty, Figure, Unsaid}
use Rattle.lot_simulation.specs.declared.columns.Layout.{Layout}
use Rattle.lot_simulation.specs.declared.columns.Layout.TheVariants.{InLine, InTable}
use Rattle.lot_simulation.specs.declared.columns.Subject.{Subject}
use Rattle.lot_simulation.specs.declared.columns.Subject.TheVariants.{Currency, Processor, Thread, Total}
use Rattle.lot_simulation.specs.declared.columns.Table.{Table}
use Rattle.lot_simulation.specs.declared.columns.Table.TheVariants.{Currencies, Schedule, Timed}
use Rattle.lot_simulation.specs.declared.columns.Unit.{Unit}
use Rattle.lot_simulation.specs.declared.columns.Unit.TheVariants.{End, Mean, One, Percent}

-- ---- columns

-- a column: its word in a line, its name in a table, its unit, and the number of its line in a report over several plays
pub record Row : Type 0 where
  pub word : List ℕ
  pub name : List ℕ
  pub unit : Unit
  pub line : ℕ

abbrev pub row : List ℕ → List ℕ → Unit → ℕ → Row
row word name unit line = record { word = word; name = name; unit = unit; line = line }

-- the same with one text as its word and its name
abbrev plain : List ℕ → Unit → ℕ → Row
plain word unit line = row word word unit line

-- a column of the code
abbrev pub row_of : Bor (List ℕ) × Bor (List ℕ) × Unit × ℕ → Row
row_of column = row column.0.now column.1.now column.2 column.3

-- The columns of a thread: its draws, its ticks and their share of all ticks, the share due to it, its share of the live
-- value, its waits to run, for mutexes and for replies, its refused traps, and the times at which it was made and ended.
abbrev pub thread_columns : List Row
thread_columns =
    plain (codes "quanta") One 0 ∷ plain (codes "ticks") One 0 ∷ row (codes "share") (codes "share_percent") Percent 0
    ∷ row (codes "due") (codes "due_percent") Percent 0 ∷ row (codes "value") (codes "value_percent") Percent 0
    ∷ row (codes "ready waits") (codes "ready_waits") One 1 ∷ row (codes "mean") (codes "ready_mean") Mean 1 ∷ row (codes "longest") (codes "ready_longest") One 1
    ∷ row (codes "mutex waits") (codes "mutex_waits") One 2 ∷ row (codes "mean") (codes "mutex_mean") Mean 2 ∷ row (codes "longest") (codes "mutex_longest") One 2
    ∷ row (codes "reply waits") (codes "reply_waits") One 3 ∷ row (codes "mean") (codes "reply_mean") Mean 3 ∷ row (codes "longest") (codes "reply_longest") One 3
    ∷ plain (codes "refused") One 4 ∷ plain (codes "made") One 5 ∷ plain (codes "ended") End 5 ∷ []

-- the columns of a currency: the ticks of the threads below it and their share of all ticks, and the share due to it
abbrev pub currency_columns : List Row
currency_columns =
    plain (codes "ticks") One 0 ∷ row (codes "share") (codes "share_percent") Percent 0 ∷ row (codes "due") (codes "due_percent") Percent 0 ∷ []

-- the subjects in the order of a report
abbrev pub all_subjects : List Subject
all_subjects = Thread ∷ Currency ∷ Processor ∷ Total ∷ []

-- the columns of each subject; a processor has its draws, its idle draws, its ticks, and the ticks that it was idle
abbrev pub columns_of : Subject → List Row
columns_of Thread = thread_columns
columns_of Currency = currency_columns
columns_of Processor = plain (codes "quanta") One 0 ∷ plain (codes "idle") One 0 ∷ plain (codes "ticks") One 0 ∷ plain (codes "unused") One 0 ∷ []
columns_of Total =
    plain (codes "turns") One 0 ∷ plain (codes "quanta") One 0 ∷ plain (codes "ticks") One 0 ∷ plain (codes "refused") One 0 ∷ plain (codes "left") One 0
    ∷ plain (codes "ended") One 1 ∷ plain (codes "mean") Mean 1 ∷ plain (codes "longest") One 1 ∷ []

-- the number of lines that a report over several plays may have for a subject after the first
abbrev pub further_lines : Subject → ℕ
further_lines Thread = 5
further_lines Currency = 0
further_lines Processor = 0
further_lines Total = 1

-- the subject of a table
abbrev pub subject_of : Table → Subject
subject_of Schedule = Thread
subject_of Timed = Thread
subject_of Currencies = Currency

-- the columns of a table after the number and the name, for one play or for several
abbrev pub columns_in : Table → Bool → List Row
columns_in Schedule false = take 2 thread_columns
columns_in Schedule true = take 3 thread_columns
columns_in Timed several = thread_columns
columns_in Currencies several = currency_columns

-- ---- cells

-- a number
abbrev pub number : ℕ → Cell
number n = Figure (n * 1000)

-- a number that a line leaves out if it is 0
abbrev pub quiet : ℕ → Cell
quiet n = if n == 0 then Unsaid else number n

-- a part of a whole, in thousandths of a percent; 0 if the whole is 0
abbrev pub percent_of : ℕ → ℕ → ℕ
percent_of part whole = if whole == 0 then 0 else part * 100000 / whole

-- a part of a whole in percent
abbrev pub share : ℕ → ℕ → Cell
share part whole = Figure (percent_of part whole)

-- the mean of so many spans of time with this total; empty if there is none
abbrev pub mean : ℕ → ℕ → Cell
mean total count = if count == 0 then Empty else Figure (total * 1000 / count)

-- a number of so many spans of time; empty if there is none
abbrev pub if_any : ℕ → ℕ → Cell
if_any count n = if count == 0 then Empty else number n

-- the number of some spans of time, their mean, and the longest
abbrev pub span_cells : ℕ → ℕ → ℕ → List Cell
span_cells count total longest = quiet count ∷ mean total count ∷ if_any count longest ∷ []

-- ---- texts

-- a figure in thousandths, with at most three digits after the point
abbrev pub thousandths_text : ℕ → List ℕ
thousandths_text n = decimal (n / 1000) ++ behind_point (n % 1000)

-- the sign after a figure in a line
abbrev pub sign : Unit → List ℕ
sign One = []
sign Mean = []
sign Percent = codes "%"
sign End = []

-- a cell in a line, with the column's word, or in a row of a table
abbrev pub cell_text : Layout → Row → Cell → List ℕ
cell_text InLine column Empty = []
cell_text InLine column Unsaid = []
cell_text InLine column (Figure n) = codes " " ++ (column.word ++ (codes " " ++ (thousandths_text n ++ sign column.unit)))
cell_text InTable column Empty = codes ","
cell_text InTable column Unsaid = codes ",0"
cell_text InTable column (Figure n) = codes "," ++ thousandths_text n

-- the start of a line: its subject, with its number and name if it has them
abbrev pub heading : Subject → ℕ → List ℕ → List ℕ
heading Thread n name = codes "thread " ++ (decimal n ++ (codes " " ++ name))
heading Currency n name = codes "currency " ++ (decimal n ++ (codes " " ++ name))
heading Processor n name = codes "processor " ++ decimal n
heading Total n name = codes "total"

-- the start of a line or of a row
abbrev pub start_text : Layout → Subject → ℕ → List ℕ → List ℕ
start_text InLine subject n name = heading subject n name
start_text InTable subject n name = decimal n ++ (codes "," ++ name)

-- the cells below these columns; there may be fewer cells
abbrev pub cells_text : Layout → List Row → List Cell → List ℕ
cells_text layout columns cells = flat_map (λ pair. cell_text layout pair.0 pair.1) (zip columns cells)

-- the line or the row of a subject with these cells in its first columns
unfoldable pub told_text : Layout → Subject → ℕ → List ℕ → List Cell → List ℕ
told_text layout subject n name cells = start_text layout subject n name ++ (cells_text layout (columns_of subject) cells ++ newline)

-- the line
abbrev pub report_line : Subject → ℕ → List ℕ → List Cell → List ℕ
report_line = told_text InLine

-- ---- the first row of a table

-- a column's name, for one play; or for several, three names for the mean, the least and the most
abbrev pub names_text : Bool → Row → List ℕ
names_text false column = codes "," ++ column.name
names_text true column = codes "," ++ (column.name ++ (codes "_mean," ++ (column.name ++ (codes "_least," ++ (column.name ++ codes "_most")))))

-- the names before those of the columns
abbrev pub first_names : Table → Bool → List ℕ
first_names Currencies false = codes "currency,name"
first_names Currencies true = codes "currency,name,plays"
first_names other false = codes "thread,name"
first_names other true = codes "thread,name,plays"

-- the first row of a table, for one play or for several
unfoldable pub header_row : Table → Bool → List ℕ
header_row table several = first_names table several ++ (flat_map (names_text several) (columns_in table several) ++ newline)
