-- The lines and rows of a report over several plays.
use Rattle.std.specs.Prelude.{ℕ, ◌/◌, ◌==◌, Bool, true, not, ◌||◌, Option, Some, None, List, [], ◌++◌, codes, flat_map, zip, if◌then◌else◌}
use Rattle.std.specs.List.{list_all, range_with_len}
use Rattle.std.specs.Fmt.{decimal}
use Rattle.lot_simulation.specs.Columns.{Row, columns_in, columns_of, further_lines, heading, sign, thousandths_text}
use Rattle.lot_simulation.specs.Texts.{newline}
use Rattle.lot_simulation.specs.declared.columns.Subject.{Subject}
use Rattle.lot_simulation.specs.declared.columns.Table.{Table}
use Rattle.lot_simulation.specs.declared.columns.Unit.{Unit}
use Rattle.lot_simulation.specs.declared.columns.Unit.TheVariants.{End, Mean, One, Percent}
use Rattle.lot_print.specs.declared.figures.Figures.{Figures}
use Rattle.lot_print.specs.declared.figures.Spread.{Spread}

-- ---- a figure

-- a column's word: a mean of a play is called its average
abbrev pub plays_word : Unit → List ℕ → List ℕ
plays_word One word = word
plays_word Mean word = codes "average"
plays_word Percent word = word
plays_word End word = word

-- after the figures of an end, the number of plays in which it came
abbrev pub plays_with : Unit → ℕ → ℕ → List ℕ
plays_with One count plays = []
plays_with Mean count plays = []
plays_with Percent count plays = []
plays_with End count plays = codes " in " ++ (decimal count ++ (codes " of " ++ decimal plays))

-- a word, and then a figure with its sign
abbrev pub figure_text : List ℕ → Unit → ℕ → List ℕ
figure_text word unit n = word ++ (thousandths_text n ++ sign unit)

-- the mean, the least and the most of a column's figures over the plays that have one; nothing if none has
unfoldable pub spread_text : ℕ → Row → Spread → List ℕ
spread_text plays column spread =
    if spread.plays == 0 then []
    else codes " " ++ (plays_word column.unit column.word ++ (figure_text (codes " mean ") column.unit (spread.sum / spread.plays)
    ++ (figure_text (codes " least ") column.unit spread.least ++ (figure_text (codes " most ") column.unit spread.most
    ++ plays_with column.unit spread.plays plays))))

-- the same in a row of a table: three fields, which are empty if no play has such a figure
unfoldable pub spread_fields : Spread → List ℕ
spread_fields spread =
    if spread.plays == 0 then codes ",,,"
    else codes "," ++ (thousandths_text (spread.sum / spread.plays) ++ (codes "," ++ (thousandths_text spread.least ++ (codes "," ++ thousandths_text spread.most))))

-- a column's figures in the line with this number, which may be another's; or in a row, which has all columns
abbrev pub spread_in : Option ℕ → ℕ → Row → Spread → List ℕ
spread_in None plays column spread = spread_fields spread
spread_in (Some line) plays column spread = if column.line == line then spread_text plays column spread else []

-- the figures in a line or in a row
abbrev pub spreads_text : Option ℕ → ℕ → List Row → List Spread → List ℕ
spreads_text line plays columns spreads = flat_map (λ pair. spread_in line plays pair.0 pair.1) (zip columns spreads)

-- ---- lines

-- whether a play's report tells each figure of this line
abbrev pub tells_all : ℕ → List Row → List Spread → Bool
tells_all line columns spreads = list_all (λ pair. not (pair.0.line == line) || pair.1.told) (zip columns spreads)

-- the number of plays that ended with the subject
abbrev pub plays_text : ℕ → List ℕ
plays_text plays = codes " plays " ++ decimal plays

-- the first line
unfoldable pub first_line : Subject → ℕ → Figures → List ℕ
first_line subject n figures =
    heading subject n figures.name
    ++ (plays_text figures.plays ++ (spreads_text (Some 0) figures.plays (columns_of subject) figures.spreads ++ newline))

-- another line; nothing if some figure of it is told by no play
unfoldable pub further_line : Subject → ℕ → Figures → ℕ → List ℕ
further_line subject n figures line =
    if tells_all line (columns_of subject) figures.spreads
    then heading subject n figures.name ++ (spreads_text (Some line) figures.plays (columns_of subject) figures.spreads ++ newline)
    else []

-- all lines of a subject
abbrev pub figures_lines : Subject → ℕ → Figures → List ℕ
figures_lines subject n figures =
    first_line subject n figures ++ flat_map (further_line subject n figures) (range_with_len 1 (further_lines subject))

-- the first line of the report: the first and the last seed
abbrev pub seeds_line : ℕ → ℕ → List ℕ
seeds_line first last = codes "seeds " ++ (decimal first ++ (codes " to " ++ (decimal last ++ newline)))

-- ---- rows

-- the row of a thread or a currency in this table, which begins with the number of plays that ended with it
unfoldable pub figures_record : Table → ℕ → Figures → List ℕ
figures_record table n figures =
    decimal n ++ (codes "," ++ (figures.name ++ (codes "," ++ (decimal figures.plays
    ++ (spreads_text None figures.plays (columns_in table true) figures.spreads ++ newline)))))
