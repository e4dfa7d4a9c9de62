-- Places in a script, and the rest of the script from there.
use Rattle.std.specs.Prelude.{◌≡◌, ℕ, ◌+◌, ◌-◌, ◌<◌, ◌≤◌, ⊤, Option, Some, List, [], ◌∷◌, ◌++◌, length, take, drop, fold, slice_get, option_and_then}
use Rattle.std.specs.List.{repeat, prefix_len}
use Rattle.lot_simulation.specs.declared.script.ScriptLine.{ScriptLine}
use Rattle.lot_simulation.specs.declared.script.ScriptLine.TheVariants as line
use Rattle.lot_machine.specs.Actions.{ScriptTrap}
use Rattle.lot_simulation.specs.Script.{Item, Pieces, Context, pieces, first_of_list, is_mark, trap_of, rest_after, accumulated}
use Rattle.lot_simulation.specs.Script.Item.{Work}
use Rattle.lot_script.specs.Drafts.{IsScript}
use Rattle.lot_script.specs.declared.open_loops.OpenLoop.{OpenLoop}
use Rattle.lot_script.specs.declared.passing.Advance.{Advance}
use Rattle.lot_script.specs.declared.passing.Advance.TheVariants as advance

-- the index of the next line, the ticks done of it if it is a `compute`, the open loops, innermost first, and the
-- accumulator
pub record Place : Type 0 where
  pub line : ℕ
  pub done : ℕ
  pub loops : List OpenLoop
  pub accumulator : ℕ

-- the place at which a thread begins: the first line, with accumulator 0
abbrev pub first_place : Place
first_place = record { line = 0; done = 0; loops = []; accumulator = 0 }

-- ---- places that fit a script

-- this many ticks of the next line may be done: fewer than a `compute` has, and none of any other line
abbrev pub CanBeDone : Option ScriptLine → ℕ → Type 0
CanBeDone (Some (line.Compute n)) done = done < n
CanBeDone other done = done ≡ 0

-- The loops open after the line with this number, given those open before it. A loop begins with its first copy, with
-- all others left.
abbrev pub open_after : ℕ → ScriptLine → List OpenLoop → List OpenLoop
open_after i (line.Loop n) loops = record { body = i + 1; left = n - 1 } ∷ loops
open_after i line.End loops = drop 1 loops
open_after i other loops = loops

-- the loops open after these lines, the first of which has this number, given those open before them
abbrev pub open_after_lines : ℕ → List OpenLoop → List ScriptLine → List OpenLoop
open_after_lines i loops [] = loops
open_after_lines i loops (l ∷ lines) = open_after_lines (i + 1) (open_after i l loops) lines

-- the loops open before the line with this number, each in its first copy, innermost first
abbrev pub open_at : List ScriptLine → ℕ → List OpenLoop
open_at lines i = open_after_lines 0 [] (take i lines)

-- the first is the second loop, in its first copy or a later one
pub record IsCopy (loop first : OpenLoop) : Type 0 where
  pub body : loop.body ≡ first.body
  pub left : loop.left ≤ first.left

-- the first list has the loops of the second, each in its first copy or a later one
abbrev pub AreCopies : List OpenLoop → List OpenLoop → Type 0
AreCopies [] [] = ⊤
AreCopies (loop ∷ loops) (first ∷ firsts) = IsCopy loop first × AreCopies loops firsts
AreCopies loops firsts = ⊥

-- the place fits a script of these lines
pub record Fits (lines : List ScriptLine) (place : Place) : Type 0 where
  pub line : place.line ≤ length lines
  pub done : CanBeDone (slice_get lines place.line) place.done
  pub loops : AreCopies place.loops (open_at lines place.line)

-- the place fits a script of these lines, and this is the next line
pub record Stands (lines : List ScriptLine) (place : Place) (l : ScriptLine) : Type 0 where
  pub script : IsScript lines
  pub fits : Fits lines place
  pub next : slice_get lines place.line ≡ Some l

-- ---- the rest of a script

-- the pieces after the next `end`
abbrev pub after_end : Pieces → Pieces
after_end p = record { first = first_of_list p.others; others = drop 1 p.others }

-- The rest of the list if these are the pieces from here on and these loops are open: the rest of the innermost body
-- and a mark, its remaining copies with a mark after each, and the rest after its `end`.
abbrev pub left_of : List ScriptLine → Pieces → List OpenLoop → List Item
left_of lines p [] = p.first
left_of lines p (o ∷ outer) = p.first ++ Work ∷ (repeat o.left ((pieces (drop o.body lines)).first ++ Work ∷ []) ++ left_of lines (after_end p) outer)

-- the rest of the unrolled list at a place of a script of these lines
abbrev pub rest_at : List ScriptLine → Place → List Item
rest_at lines place = drop place.done (left_of lines (pieces (drop place.line lines)) place.loops)

-- the context of a place in a script of these lines
abbrev pub context_at : List ScriptLine → Place → Context
context_at lines place = record { rest = rest_at lines place; accumulator = place.accumulator }

-- the first list is the end of the second, after some beginning
abbrev pub IsRestOf : List Item → List Item → Type 0
IsRestOf rest whole = (front : List Item) × (front ++ rest ≡ whole)

-- ---- from place to place

-- this many marks, and no trap, lie between the two places
pub record Passes (lines : List ScriptLine) (old new : Place) (count : ℕ) : Type 0 where
  pub fits : Fits lines new
  pub marks : count ≤ prefix_len is_mark (rest_at lines old)
  pub rest : rest_at lines new ≡ drop count (rest_at lines old)
  pub accumulator : new.accumulator ≡ fold accumulated old.accumulator (take count (rest_at lines old))

-- The trap is at the old place. The new place is after it, or the same if it is an exit.
pub record MakesTrap (lines : List ScriptLine) (old new : Place) (trap : ScriptTrap) : Type 0 where
  pub fits : Fits lines new
  pub stands : option_and_then trap_of (slice_get (rest_at lines old) 0) ≡ Some trap
  pub rest : rest_at lines new ≡ rest_after (rest_at lines old) (Some trap)
  pub accumulator : new.accumulator ≡ old.accumulator

-- the line has marks, and isn't a trap
abbrev pub IsMarked : ScriptLine → Type 0
IsMarked (line.Trap trap) = ⊥
IsMarked other = ⊤

-- at least one mark and at most this many lie between the two places, or the trap is made
abbrev pub Advances : List ScriptLine → Place → Place → ℕ → Advance → Type 0
Advances lines old new most (advance.Marks count) = (0 < count) × (count ≤ most) × Passes lines old new count
Advances lines old new most (advance.Trap trap) = MakesTrap lines old new trap
