-- Searches for the currencies above a thread of a system.
use Rattle.std.specs.Prelude.{◌≡◌, ◌↔◌, ℕ, ◌<◌, IsTrue, length}
use Rattle.lot_machine.specs.State.{State, holders}
use Rattle.lot_graph.specs.Found.{FoundNodes, HasFound}
use Rattle.lot_simulation.specs.Below.{stands_below}
use Rattle.lot_simulation.specs.World.{Program}

-- the search has room for the graphs of the program's states: it has their layout, which no turn changes
abbrev pub HasLayoutFor : Program → FoundNodes → Type 0
HasLayoutFor program above = above.layout ≡ record { tickets = program.limits.tickets; currencies = program.limits.currencies; threads = program.limits.threads; mutexes = holders program.limits }

-- of the currency numbers given so far, the search has found exactly those of the currencies above the thread
abbrev pub HasThoseAbove : State → ℕ → FoundNodes → Type 0
HasThoseAbove s t above = (c : ℕ) → c < length s.currencies → HasFound above c ↔ IsTrue (stands_below s c t)
