-- The report over several plays of a program, each with another seed.
use Rattle.std.specs.Prelude.{◌≡◌, ◌≢◌, ℕ, ◌+◌, ◌-◌, ◌^◌, ◌<◌, ◌==◌, Bool, false, true, ◌||◌, min, max, Option, Some, None, List, [], ◌∷◌, ◌++◌, ⊤, length, fold, flat_map, option_map, replicate, if◌then◌else◌, slice_index_or}
use Rattle.std.specs.List.{range_with_len}
use Rattle.lot_machine.specs.Facts.{live_value}
use Rattle.lot_machine.specs.Rows.{thread_row}
use Rattle.lot_machine.specs.State.{State}
use Rattle.lot_simulation.specs.Columns.{all_subjects, header_row, number, share, subject_of, thread_columns}
use Rattle.lot_simulation.specs.declared.columns.Cell.{Cell}
use Rattle.lot_simulation.specs.declared.columns.Cell.TheVariants.{Empty, Figure, Unsaid}
use Rattle.lot_simulation.specs.declared.columns.Subject.{Subject}
use Rattle.lot_simulation.specs.declared.columns.Subject.TheVariants.{Currency, Processor, Thread, Total}
use Rattle.lot_simulation.specs.declared.columns.Table as tables
use Rattle.lot_simulation.specs.declared.columns.Table.TheVariants.{Currencies, Schedule, Timed}
use Rattle.lot_simulation.specs.Kept.{one_more}
use Rattle.lot_simulation.specs.Report.{ticks_in, total_of, turns_made}
use Rattle.lot_simulation.specs.Seeded.{with_seed}
use Rattle.lot_simulation.specs.Timed.{ended_at, last_moment, timed_turns}
use Rattle.lot_simulation.specs.World.{Program}
use Rattle.lot_engine.specs.Seen.{Seen, world_of}
use Rattle.lot_playback.specs.declared.playback.Order.{Order}
use Rattle.lot_playback.specs.declared.playback.Order.TheVariants.{Scheduled, InTime}
use Rattle.lot_playback.specs.InTime.{moment_in}
use Rattle.lot_playback.specs.Orders.{IsInOrder, made_in}
use Rattle.lot_playback.specs.Stages.{turns_left}
use Rattle.lot_print.specs.Figures.{figures_lines, figures_record, seeds_line}
use Rattle.lot_print.specs.declared.figures.Figures.{Figures}
use Rattle.lot_print.specs.declared.figures.Spread.{Spread}
use Rattle.lot_system.specs.declared.figures.AllFigures.{AllFigures}
use Rattle.lot_system.specs.declared.form.ReportForm.{ReportForm}
use Rattle.lot_system.specs.declared.form.ReportForm.TheVariants.{CurrencyTable, Lines, Table}
use Rattle.lot_system.specs.declared.told.Ending.{Ending}
use Rattle.lot_system.specs.declared.told.Told.{Told}
use Rattle.lot_system.specs.Last.{all_ticks, last_world}
use Rattle.lot_system.specs.ReportTable.{most_of, told, told_in}

-- ---- a figure

-- the spread over no plays
abbrev pub no_spread : Spread
no_spread = record { plays = 0; told = false; sum = 0; least = 0; most = 0 }

-- The spread with this figure of one more play, whose line tells it or doesn't. The sum saturates at the largest 128-bit
-- number.
abbrev pub spread_with : Spread → Bool → ℕ → Spread
spread_with spread told figure = record {
  plays = one_more spread.plays;
  told = spread.told || told;
  sum = min (spread.sum + figure) (2 ^ 128 - 1);
  least = if spread.plays == 0 then figure else min spread.least figure;
  most = max spread.most figure;
}

-- the spread with this cell of one more play
abbrev pub spread_after : Spread → Cell → Spread
spread_after spread Empty = spread
spread_after spread Unsaid = spread_with spread false 0
spread_after spread (Figure n) = spread_with spread true n

-- the spreads of columns with these cells of one more play; there may be fewer cells
abbrev pub spreads_after : List Spread → List Cell → List Spread
spreads_after [] cells = []
spreads_after spreads [] = spreads
spreads_after (spread ∷ spreads) (cell ∷ cells) = spread_after spread cell ∷ spreads_after spreads cells

-- ---- a subject

-- the figures of a subject over no plays
abbrev pub no_figures : Figures
no_figures = record { name = []; plays = 0; spreads = replicate (length thread_columns) no_spread }

-- a subject's figures with those of one more play, which may have ended without the subject
abbrev pub figures_after : Option Told → Figures → Figures
figures_after None figures = figures
figures_after (Some told) figures = record {
  name = told.name;
  plays = one_more figures.plays;
  spreads = spreads_after figures.spreads told.cells.items;
}

-- what a schedule's report over several plays tells of a subject after this many ticks: of threads alone
abbrev pub scheduled_told : State → ℕ → Subject → ℕ → Option Told
scheduled_told s all Thread t = option_map (λ row. told row.name (number row.quanta ∷ number row.ticks ∷ share row.ticks all ∷ [])) (thread_row s t)
scheduled_told s all other n = None

-- what the report tells of a subject after a play of this program
abbrev pub told_played : Program → Subject → ℕ → Option Told
told_played program subject n = by program.duration
  where
    by : Option ℕ → Option Told
    by None = scheduled_told (last_world program).state (all_ticks program) subject n
    by (Some duration) = told_in (last_moment program) (ended_at program (last_moment program)) (timed_turns program) subject n

-- the same after a play that has come to this position
abbrev pub told_at_end : Seen → Order → Subject → ℕ → Option Told
told_at_end seen (Scheduled place) subject n =
    scheduled_told (world_of seen).state (total_of ticks_in (turns_made seen.setting.program seen.history)) subject n
told_at_end seen (InTime timekeeper) subject n =
    told_in (moment_in seen timekeeper) (ended_at seen.setting.program (moment_in seen timekeeper)) (timed_turns seen.setting.program) subject n

-- the subject's figures with those of one more play, of this program
abbrev pub figures_played : Subject → ℕ → Figures → Program → Figures
figures_played subject n figures program = figures_after (told_played program subject n) figures

-- ---- several plays

-- The figures over a play of the program with each of these seeds: they start as `none`, and `played` adds each play.
abbrev pub over : {F : Type 0} → F → (F → Program → F) → Program → List ℕ → F
over none played program seeds = fold (λ figures seed. played figures (with_seed (Some seed) program)) none seeds

-- a subject's figures over a play with each of these seeds
abbrev pub figures_over : Subject → Program → List ℕ → ℕ → Figures
figures_over subject program seeds n = over no_figures (figures_played subject n) program seeds

-- a list of `count` figures: this function gives each by its number, from 1
pub record AreEach (count : ℕ) (of : ℕ → Figures) (figures : List Figures) : Type 0 where
  pub many : length figures ≡ count
  pub each : (place : ℕ) (d : Figures) → place < length figures → slice_index_or figures place d ≡ of (place + 1)

-- the figures of all subjects of this kind over a play with each of these seeds
abbrev pub AreOver : Subject → Program → List ℕ → List Figures → Type 0
AreOver subject program seeds = AreEach (most_of subject program) (figures_over subject program seeds)

-- the figures of all subjects of this kind
abbrev pub figures_in : AllFigures → Subject → List Figures
figures_in all Thread = all.threads.items
figures_in all Currency = all.currencies.items
figures_in all Processor = all.processors.items
figures_in all Total = all.total.items

-- all figures over a play with each of these seeds
pub record AreAllFigures (program : Program) (seeds : List ℕ) (all : AllFigures) : Type 0 where
  pub are : (subject : Subject) → AreOver subject program seeds (figures_in all subject)

-- the figures after a change: this function gives each by its number, from 1
pub record AreChanged (after : ℕ → Figures → Figures) (old new : List Figures) : Type 0 where
  pub count : length new ≡ length old
  pub each : (place : ℕ) (d : Figures) → place < length old → slice_index_or new place d ≡ after (place + 1) (slice_index_or old place d)

-- this function changes only the figures at this place
pub record IsChangedAt (place : ℕ) (after : Figures → Figures) (old new : List Figures) : Type 0 where
  pub count : length new ≡ length old
  pub there : (d : Figures) → slice_index_or new place d ≡ after (slice_index_or old place d)
  pub others : (other : ℕ) (d : Figures) → other ≢ place → slice_index_or new other d ≡ slice_index_or old other d

-- the figures of all subjects of this kind with those of one more play, of this program
abbrev pub AreOneMore : Subject → Program → List Figures → List Figures → Type 0
AreOneMore subject program = AreChanged (λ n figures. figures_played subject n figures program)

-- all figures with those of one more play, of this program
pub record AreOverOneMore (program : Program) (old new : AllFigures) : Type 0 where
  pub are : (subject : Subject) → AreOneMore subject program (figures_in old subject) (figures_in new subject)

-- as many figures of each kind as the program may have subjects
pub record AreMany (program : Program) (all : AllFigures) : Type 0 where
  pub are : (subject : Subject) → length (figures_in all subject) ≡ most_of subject program

-- the end of a play that has come to this position; a schedule's has none
abbrev pub IsEndingOf : Seen → Order → Ending → Type 0
IsEndingOf seen (Scheduled place) ending = ⊤
IsEndingOf seen (InTime timekeeper) ending =
    (ending.time ≡ ended_at seen.setting.program (moment_in seen timekeeper)) × (ending.all_values ≡ live_value (world_of seen).state)

-- a play that has come to this position has no turn left
pub record IsOver (seen : Seen) (order : Order) : Type 0 where
  pub there : IsInOrder seen order
  pub ended : turns_left (record { seen = seen; made = made_in seen order }) ≡ []

-- ---- the report

-- the seeds from the first to the last
abbrev pub seeds_between : ℕ → ℕ → List ℕ
seeds_between first last = first ∷ range_with_len (first + 1) (last - first)

-- the table in this form, of a program with or without a duration; none for lines
abbrev pub table_of : ReportForm → Option ℕ → Option tables.Table
table_of Lines duration = None
table_of Table None = Some Schedule
table_of Table (Some duration) = Some Timed
table_of CurrencyTable None = Some Schedule
table_of CurrencyTable (Some duration) = Some Currencies

-- the first line or row: the seeds, or the columns' names
abbrev pub seeds_heading : Option tables.Table → ℕ → ℕ → List ℕ
seeds_heading None first last = seeds_line first last
seeds_heading (Some table) first last = header_row table true

-- the lines of a subject, or its row in a table
abbrev pub lines_in : Option tables.Table → Subject → ℕ → Figures → List ℕ
lines_in None subject n figures = figures_lines subject n figures
lines_in (Some table) subject n figures = figures_record table n figures

-- the same, or nothing if no play ended with the subject
abbrev pub figures_text : Option tables.Table → Subject → ℕ → Figures → List ℕ
figures_text table subject n figures = if figures.plays == 0 then [] else lines_in table subject n figures

-- the lines or rows of all subjects of this kind over a play with each of these seeds
abbrev pub subjects_over : Option tables.Table → Program → List ℕ → Subject → List ℕ
subjects_over table program seeds subject =
    flat_map (λ n. figures_text table subject n (figures_over subject program seeds n)) (range_with_len 1 (most_of subject program))

-- the subjects of the report: all, or that of the table
abbrev pub subjects_in : Option tables.Table → List Subject
subjects_in None = all_subjects
subjects_in (Some table) = subject_of table ∷ []

-- The report over a play with each seed from the first to the last: lines or a row for each subject at the end of a
-- play.
abbrev pub seeds_report : ReportForm → ℕ → ℕ → Program → List ℕ
seeds_report form first last program = report (table_of form program.duration)
  where
    report : Option tables.Table → List ℕ
    report table =
        seeds_heading table first last ++ flat_map (subjects_over table program (seeds_between first last)) (subjects_in table)
