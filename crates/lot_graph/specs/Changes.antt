-- A graph's funding after a change of one of its tables.
use Rattle.std.specs.Prelude.{ℕ, Bool, Option, List}
use Rattle.lot_machine.specs.declared.ticket.Ticket.{Ticket}
use Rattle.lot_machine.specs.declared.funding.Lend.{Lend}
use Rattle.lot_graph.specs.Graphs.{LimitedFunding}

-- the funding with these currencies
abbrev pub with_currencies : LimitedFunding → List Bool → LimitedFunding
with_currencies w currencies = record w { funding = record w.funding { currencies = currencies } }

-- the funding with these tickets
abbrev pub with_tickets : LimitedFunding → List (Option Ticket) → LimitedFunding
with_tickets w tickets = record w { funding = record w.funding { tickets = tickets } }

-- the funding with these lends of threads
abbrev pub with_lends : LimitedFunding → List Lend → LimitedFunding
with_lends w lends = record w { funding = record w.funding { lends = lends } }

-- the funding with these owners of mutexes
abbrev pub with_owners : LimitedFunding → List (Option ℕ) → LimitedFunding
with_owners w owners = record w { funding = record w.funding { owners = owners } }
