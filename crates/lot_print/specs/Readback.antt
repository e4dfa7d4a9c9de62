-- The condition under which the parser reads a history's printed lines as that history.
use Rattle.std.specs.Prelude.{◌≡◌, ◌+◌, ◌≤◌, ℕ, false, Some, None, Ok, List, ◌++◌, length, All}
use Rattle.lot_machine.specs.Bounds.{IsUnit}
use Rattle.lot_simulation.specs.Lines.{lines_of}
use Rattle.lot_simulation.specs.Reading.{Reading}
use Rattle.lot_simulation.specs.Grammar.{read_lines}

-- No script is open, the actors are the console and the processors, and the schedule and the input stay within their
-- limits, if the text begins after this many bytes.
pub record HasRoom (r : Reading) (start : ℕ) (history text : List ℕ) : Type 0 where
  pub unit : IsUnit r.unit
  pub untimed : r.is_timed ≡ false
  pub processors : r.processors ≤ 64
  pub no_script : r.unclosed ≡ None
  pub actors : All (λ actor. actor ≤ r.processors) history
  pub schedule_length : length r.schedule + length history ≤ 1000000
  pub input_length : start + length text ≤ 16777216

-- The parser reads the text, whose first line has this number, as these further turns of the schedule. Nothing else
-- changes, except that the header has ended.
abbrev pub IsReadAs : ℕ → ℕ → Reading → List ℕ → List ℕ → Type 0
IsReadAs n start r text history =
    (after : Reading) × (read_lines n start (Some r) (lines_of text) ≡ Ok (Some after)) × (after ≡ record r { schedule = r.schedule ++ history; place = after.place })
