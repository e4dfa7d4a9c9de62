-- Searches for the currencies above a thread of a kernel.
use Rattle.std.specs.Prelude.{◌≡◌, ◌↔◌, ℕ, length}
use Rattle.lot_machine.specs.declared.funding.Node.TheVariants.{Currency, Thread}
use Rattle.lot_machine.specs.State.{State, funding_of}
use Rattle.lot_graph.specs.Graphs.{Reaches}
use Rattle.lot_graph.specs.Found.{FoundNodes, HasFound}

-- the search has room for the graphs of this state: it has their layout, which no event changes
abbrev pub HasLayoutOf : State → FoundNodes → Type 0
HasLayoutOf s above = above.layout ≡ record { tickets = s.limits.tickets; currencies = s.limits.currencies; threads = s.limits.threads; mutexes = length s.mutexes }

-- the search has found exactly those currencies from which a path of edges leads to the thread
abbrev pub IsAboveThread : State → ℕ → FoundNodes → Type 0
IsAboveThread s t above = (c : ℕ) → HasFound above c ↔ Reaches (funding_of s) (Currency c) (Thread t)
