-- Systems in contracts.
use Rattle.std.specs.Prelude.{◌≡◌, ℕ, ◌+◌, ◌==◌, Bool, true, List, [], ◌∷◌, ◌++◌, count_by, is_some, length, map, min}
use Rattle.lot_machine.specs.declared.command.Kind.{Kind}
use Rattle.lot_machine.specs.declared.command.Kind.TheVariants.{Tickets, Currencies, Threads}
use Rattle.lot_machine.specs.Rows.{thread_row}
use Rattle.lot_machine.specs.State.{State}
use Rattle.lot_simulation.specs.World.{Program, World, system_run}

-- a system's program, its room for turns, and whether a timer takes part, as in a timed play
pub record Setting : Type 0 where
  pub program : Program
  pub room : ℕ
  pub timer : Bool

-- a system's program and room, and the actors of its turns so far
pub record Seen : Type 0 where
  pub setting : Setting
  pub history : List ℕ

-- the world after the program's run with the system's history
abbrev pub world_of : Seen → World
world_of seen = system_run seen.setting.program seen.history

-- a system's history in print: the timer is the actor after the processors, whichever thread it wakes
abbrev pub shown_history : Seen → List ℕ
shown_history seen = map (λ actor. min actor (seen.setting.program.limits.processors + 1)) seen.history

-- the number of commands that a system has made
abbrev pub commands_made : Seen → ℕ
commands_made seen = count_by (λ actor. actor == 0) seen.history

-- the timer as the actor that wakes this thread
abbrev pub timer_for : Setting → ℕ → ℕ
timer_for setting t = setting.program.limits.processors + t

-- the system after one more turn
abbrev pub after_turn : Seen → ℕ → Seen
after_turn seen actor = record { setting = seen.setting; history = seen.history ++ actor ∷ [] }

-- the count of numbers given to tickets, currencies or threads
abbrev pub given_count : State → Kind → ℕ
given_count s Tickets = length s.tickets
given_count s Currencies = length s.currencies
given_count s Threads = length s.records

-- the thread has a row: it was made, and not removed
abbrev pub HasRow : State → ℕ → Type 0
HasRow s t = is_some (thread_row s t) ≡ true
