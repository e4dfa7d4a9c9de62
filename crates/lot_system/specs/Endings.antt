-- The end of a run's output.
use Rattle.std.specs.Prelude.{ℕ, List, ◌++◌}
use Rattle.lot_simulation.specs.Report.{report, history_lines}
use Rattle.lot_engine.specs.Seen.{Seen, shown_history}

-- the report, and the history's lines in print
abbrev pub shown_end : Seen → List ℕ
shown_end seen = report seen.setting.program seen.history ++ history_lines seen.setting.program.limits.unit (shown_history seen)
