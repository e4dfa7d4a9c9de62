-- The meaning of a script, and the slices of it that a processor runs. A script unrolls into marks (m), each worth one
-- tick, and traps:
--
--     loop 2, compute 1, end, yield   →   m   m m   m m   yield   exit
use Rattle.std.specs.Prelude.{ℕ, ◌+◌, ◌%◌, min, nat_lt, Bool, Option, Some, None, is_none, List, [], ◌∷◌, ◌++◌, take, drop, replicate, fold, slice_get, option_and_then, if◌then◌else◌}
use Rattle.std.specs.List.{repeat, prefix_len}
use Rattle.lot_simulation.specs.declared.script.ScriptLine.{ScriptLine}
use Rattle.lot_simulation.specs.declared.script.ScriptLine.TheVariants as line
use Rattle.lot_machine.specs.Actions.{ScriptTrap}
use Rattle.lot_machine.specs.declared.trap.Trap.TheVariants.{Yield, Sleep, Exit}

-- one step of a script: a mark, which costs one tick, or a trap
pub data Item : Type 0 where
  Work : Item
  Set : ℕ → Item
  Add : ℕ → Item
  Traps : ScriptTrap → Item

-- the items of a line that is neither `loop` nor `end`: n marks of work, one mark, or a trap
abbrev pub items_of : ScriptLine → List Item
items_of (line.Compute n) = replicate n Work
items_of (line.Set n) = Set n ∷ []
items_of (line.Add n) = Add n ∷ []
items_of (line.Loop n) = []
items_of line.End = []
items_of (line.Trap trap) = Traps trap ∷ []

-- The meaning of lines, in pieces: the items up to the `end` of the innermost open loop, those from there to the next
-- such `end`, and so on outwards.
pub record Pieces : Type 0 where
  pub first : List Item
  pub others : List (List Item)

-- the first list, or an empty one if there is none
abbrev pub first_of_list : List (List Item) → List Item
first_of_list [] = []
first_of_list (xs ∷ rest) = xs

-- A loop is one mark, then n copies of its body with one mark after each.
abbrev pub looped : ℕ → Pieces → Pieces
looped n p = record { first = Work ∷ repeat n (p.first ++ Work ∷ []) ++ first_of_list p.others; others = drop 1 p.others }

-- the lines from here on, in pieces; an exit trap follows the last line
abbrev pub pieces : List ScriptLine → Pieces
pieces [] = record { first = Traps Exit ∷ []; others = [] }
pieces (line.Loop n ∷ lines) = looped n (pieces lines)
pieces (line.End ∷ lines) = record { first = []; others = (pieces lines).first ∷ (pieces lines).others }
pieces (l ∷ lines) = record { first = items_of l ++ (pieces lines).first; others = (pieces lines).others }

-- The meaning of a script: a list of marks and traps, with its loops unrolled, that ends with an exit trap.
abbrev pub unrolled : List ScriptLine → List Item
unrolled lines = (pieces lines).first

-- A line in a free run, which has no time: a sleep ends at once, so it is a yield.
abbrev pub without_sleep : ScriptLine → ScriptLine
without_sleep (line.Trap (Sleep n)) = line.Trap Yield
without_sleep other = other

-- the rest of a thread's script, and its accumulator
pub record Context : Type 0 where
  pub rest : List Item
  pub accumulator : ℕ

-- the context of a new thread: the whole script, and accumulator 0
abbrev pub start : List ScriptLine → Context
start lines = record { rest = unrolled lines; accumulator = 0 }

-- the item's trap, if it is one
abbrev pub trap_of : Item → Option ScriptTrap
trap_of (Traps t) = Some t
trap_of other = None

-- whether the item is a mark
abbrev pub is_mark : Item → Bool
is_mark i = is_none (trap_of i)

-- the accumulator after a mark
abbrev pub accumulated : ℕ → Item → ℕ
accumulated a (Set n) = n
accumulated a (Add n) = (a + n) % 4294967296
accumulated a other = a

-- a thread's work within a budget of ticks: ticks of work, and then a trap or, without one, the end of its quantum
pub record Slice : Type 0 where
  pub ticks : ℕ
  pub trap : Option ScriptTrap
  pub end : Context

-- the rest of a script after a trap; an exit stays at its place
abbrev pub rest_after : List Item → Option ScriptTrap → List Item
rest_after rest (Some Exit) = rest
rest_after rest trap = drop 1 rest

-- The slice passes the marks before the first trap, but no more than the budget. If it uses the whole budget, it is
-- an expiry; otherwise the trap follows.
abbrev pub slice : Context → ℕ → Slice
slice context budget = cut (min budget (prefix_len is_mark context.rest))
  where
    at_trap : ℕ → ℕ → Option ScriptTrap → Slice
    at_trap k a trap = record { ticks = k; trap = trap; end = record { rest = rest_after (drop k context.rest) trap; accumulator = a } }

    at_end : ℕ → ℕ → Slice
    at_end k a = record { ticks = k; trap = None; end = record { rest = drop k context.rest; accumulator = a } }

    cut : ℕ → Slice
    cut k =
        if nat_lt k budget
        then at_trap k (fold accumulated context.accumulator (take k context.rest)) (option_and_then trap_of (slice_get context.rest k))
        else at_end k (fold accumulated context.accumulator (take k context.rest))
