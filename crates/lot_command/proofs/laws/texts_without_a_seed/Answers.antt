use Rattle.lot_command.proofs.Common.{Currency, Detail, Err, InputFault, Interval, List, Measure, None, Ok, Option, Program, Result, Thread, chart, curves_of, dues_by, explained_of, output_of, program_in, refl, seeded, shown_of, table, view_of, ℕ, ◌≡◌}
use Rattle.lot_chart.specs.Shown as charts
use Rattle.lot_command.specs.declared.command_line.request.View.TheVariants as views
use Rattle.lot_command.proofs.laws.texts_without_a_seed.Goals as goal

play-is : (title : List ℕ) (input : Result Program InputFault)
    → shown_of views.Play title (seeded None input) ≡ output_of input
play-is title (Ok program) = refl
play-is title (Err fault) = refl

explain-is : (detail : Detail) (title : List ℕ) (input : Result Program InputFault)
    → shown_of (views.Explain detail) title (seeded None input) ≡ explained_of detail input
explain-is detail title (Ok program) = refl
explain-is detail title (Err fault) = refl

shares-is : (measure : Measure) (title : List ℕ) (input : Result Program InputFault)
    → shown_of (views.Shares measure None None) title (seeded None input)
    ≡ charts.shown_of (λ program. table measure (curves_of program)) input
shares-is measure title (Ok program) = refl
shares-is measure title (Err fault) = refl

chart-is : (title : List ℕ) (input : Result Program InputFault) → shown_of (views.Chart Thread None None) title
    (seeded None input) ≡ charts.shown_of (λ program. chart title (dues_by Thread program) (curves_of program)) input
chart-is title (Ok program) = refl
chart-is title (Err fault) = refl

pub returns-clause-play : goal.returns-clause-play
returns-clause-play c title bytes = play-is title (program_in bytes)

pub returns-clause-explain : goal.returns-clause-explain
returns-clause-explain c detail title bytes = explain-is detail title (program_in bytes)

pub returns-clause-shares : goal.returns-clause-shares
returns-clause-shares c measure title bytes = shares-is measure title (program_in bytes)

pub returns-clause-chart : goal.returns-clause-chart
returns-clause-chart c title bytes = chart-is title (program_in bytes)

pub returns-clause-untimed : goal.returns-clause-untimed
returns-clause-untimed c interval window title program none = rw none refl
