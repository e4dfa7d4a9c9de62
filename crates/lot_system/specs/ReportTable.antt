-- The report of a program, in lines or as a table.
use Rattle.std.specs.Prelude.{false, ℕ, Option, Some, None, List, [], ◌∷◌, ◌++◌, option_map}
use Rattle.lot_machine.specs.declared.row.ThreadRow.{ThreadRow}
use Rattle.lot_machine.specs.Numbered.{numbers}
use Rattle.lot_machine.specs.Rows.{currency_name, thread_row}
use Rattle.lot_machine.specs.State.{State}
use Rattle.lot_simulation.specs.Columns.{header_row, number, subject_of, told_text}
use Rattle.lot_simulation.specs.declared.columns.Cell.{Cell}
use Rattle.lot_simulation.specs.declared.columns.Layout.{Layout}
use Rattle.lot_simulation.specs.declared.columns.Layout.TheVariants.{InTable}
use Rattle.lot_simulation.specs.declared.columns.Subject.{Subject}
use Rattle.lot_simulation.specs.declared.columns.Subject.TheVariants.{Currency, Processor, Thread, Total}
use Rattle.lot_simulation.specs.declared.columns.Table as table
use Rattle.lot_simulation.specs.declared.columns.Table.TheVariants.{Currencies, Schedule, Timed}
use Rattle.lot_simulation.specs.Texts.{lines_for}
use Rattle.lot_simulation.specs.Timed.{Moment, TimedTurn, ended_at, last_moment, timed_turns}
use Rattle.lot_simulation.specs.TimedReport.{actor_turns, currency_cells, processor_cells, subjects_text, thread_cells, total_cells}
use Rattle.lot_simulation.specs.World.{Program}
use Rattle.lot_system.specs.declared.form.ReportForm.{ReportForm}
use Rattle.lot_system.specs.declared.form.ReportForm.TheVariants.{CurrencyTable, Lines, Table}
use Rattle.lot_system.specs.declared.told.Told.{Told}
use Rattle.lot_system.specs.Last.{last_world}
use Rattle.lot_system.specs.Texts.{last_report}

-- ---- schedules

-- a thread's line or row
abbrev pub thread_text : Layout → ℕ → ThreadRow → List ℕ
thread_text layout n row = told_text layout Thread n row.name (number row.quanta ∷ number row.ticks ∷ [])

-- the table of a schedule that has come to this state: the columns' names, and a row for each thread
abbrev pub scheduled_table : State → List ℕ
scheduled_table s = header_row Schedule false ++ lines_for (thread_text InTable) (thread_row s) (numbers s.records)

-- ---- timed programs

-- a name and cells
abbrev pub told : List ℕ → List Cell → Told
told name cells = record { name = name; cells = record { items = cells } }

-- what the report tells of a thread after these turns, if it exists
abbrev pub thread_told : State → List TimedTurn → ℕ → Option Told
thread_told s turns t = option_map (λ row. told row.name (thread_cells s turns t row)) (thread_row s t)

-- what it tells of a currency, if it exists
abbrev pub currency_told : State → List TimedTurn → ℕ → Option Told
currency_told s turns c = option_map (λ name. told name (currency_cells s turns c)) (currency_name s c)

-- what it tells of a subject after these turns, which led to this moment, in a play that ends at this time
abbrev pub told_in : Moment → ℕ → List TimedTurn → Subject → ℕ → Option Told
told_in m end turns Thread t = thread_told m.world.state turns t
told_in m end turns Currency c = currency_told m.world.state turns c
told_in m end turns Processor p = Some (told [] (processor_cells m end (actor_turns turns) p))
told_in m end turns Total n = Some (told [] (total_cells m turns))

-- the largest number of subjects of this kind that the program may have at once
abbrev pub most_of : Subject → Program → ℕ
most_of Thread program = program.limits.threads
most_of Currency program = program.limits.currencies
most_of Processor program = program.limits.processors
most_of Total program = 1

-- a table: the columns' names, and a row for each of its subjects
abbrev pub timed_table : table.Table → Moment → ℕ → List TimedTurn → List ℕ
timed_table table m end turns = header_row table false ++ subjects_text InTable m end turns (subject_of table)

-- the table in this form, of a timed program
abbrev pub table_in : ReportForm → table.Table
table_in Lines = Timed
table_in Table = Timed
table_in CurrencyTable = Currencies

-- the table after all turns, of a schedule or of a timed program
abbrev pub last_table : ReportForm → Program → Option ℕ → List ℕ
last_table form program None = scheduled_table (last_world program).state
last_table form program (Some duration) =
    timed_table (table_in form) (last_moment program) (ended_at program (last_moment program)) (timed_turns program)

-- ---- the report

-- the report after all turns, in this form
abbrev pub report_text : ReportForm → Program → List ℕ
report_text Lines program = last_report program program.duration
report_text Table program = last_table Table program program.duration
report_text CurrencyTable program = last_table CurrencyTable program program.duration
