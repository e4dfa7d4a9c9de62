-- The lines that make a script.
use Rattle.std.specs.Prelude.{◌≡◌, ℕ, ◌+◌, ◌-◌, ◌<◌, ◌≤◌, ◌==◌, nat_lt, nat_le, Bool, true, ◌||◌, ⊤, List, [], ◌∷◌, ◌++◌, length, fold, All}
use Rattle.lot_simulation.specs.declared.script.ScriptLine.{ScriptLine}
use Rattle.lot_simulation.specs.declared.script.ScriptLine.TheVariants as line
use Rattle.lot_machine.specs.declared.trap.Trap.TheVariants.{Sleep, Exit}
use Rattle.lot_simulation.specs.declared.input.InputRefusal.{InputRefusal}
use Rattle.lot_simulation.specs.declared.input.InputRefusal.TheVariants.{BadLine, BadNumber, TooDeep, TooLong}
use Rattle.lot_machine.specs.Bounds.{IsBetween}

-- the lines of a script so far, and the number of loops open after them
pub record Draft : Type 0 where
  pub lines : List ScriptLine
  pub loops : ℕ

-- the number of loops open after a line, given the number before it
abbrev pub loops_after : ℕ → ScriptLine → ℕ
loops_after loops (line.Loop n) = loops + 1
loops_after loops line.End = loops - 1
loops_after loops other = loops

-- the draft with one more line
abbrev pub pushed : Draft → ScriptLine → Draft
pushed d l = record { lines = d.lines ++ l ∷ []; loops = loops_after d.loops l }

-- the line is valid: a `compute` and a `sleep` have at least one tick, a `loop` 1 to 65535 copies, and it is no exit
abbrev pub IsLine : ScriptLine → Type 0
IsLine (line.Compute n) = 0 < n
IsLine (line.Loop n) = IsBetween 1 65535 n
IsLine (line.Trap (Sleep n)) = 0 < n
IsLine (line.Trap Exit) = ⊥
IsLine other = ⊤

-- the line nests: at most eight loops may be open at once, and an `end` ends an open one
abbrev pub CanNest : ℕ → ScriptLine → Type 0
CanNest loops (line.Loop n) = loops < 8
CanNest loops line.End = 0 < loops
CanNest loops other = ⊤

-- each of the lines nests, given the number of loops open before the first
abbrev pub Nests : ℕ → List ScriptLine → Type 0
Nests loops [] = ⊤
Nests loops (l ∷ lines) = CanNest loops l × Nests (loops_after loops l) lines

-- the number of loops open after the lines
abbrev pub open_count : List ScriptLine → ℕ
open_count lines = fold loops_after 0 lines

-- the lines may begin a script, and this many loops are open after them
pub record IsDraft (d : Draft) : Type 0 where
  pub count : length d.lines ≤ 1024
  pub lines : All IsLine d.lines
  pub nests : Nests 0 d.lines
  pub loops : d.loops ≡ open_count d.lines

-- the lines make a script: at most 1024, each within its bounds, and each loop ended
pub record IsScript (lines : List ScriptLine) : Type 0 where
  pub count : length lines ≤ 1024
  pub each : All IsLine lines
  pub nests : Nests 0 lines
  pub closed : open_count lines ≡ 0

-- whether the script is full
abbrev pub is_full : Draft → Bool
is_full d = nat_le 1024 (length d.lines)

-- the checks of whether a line can come next, in order
abbrev pub line_checks : Draft → ScriptLine → List (Bool × InputRefusal)
line_checks d (line.Compute n) = (n == 0, BadNumber) ∷ (is_full d, TooLong) ∷ []
line_checks d (line.Loop n) = (n == 0 || nat_lt 65535 n, BadNumber) ∷ (nat_le 8 d.loops, TooDeep) ∷ (is_full d, TooLong) ∷ []
line_checks d line.End = (d.loops == 0, BadLine) ∷ (is_full d, TooLong) ∷ []
line_checks d (line.Trap (Sleep n)) = (n == 0, BadNumber) ∷ (is_full d, TooLong) ∷ []
line_checks d (line.Trap Exit) = (true, BadLine) ∷ []
line_checks d other = (is_full d, TooLong) ∷ []
