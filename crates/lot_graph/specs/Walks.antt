-- The remaining edges of a walk out of a node; no public clause cites this file.
use Rattle.std.specs.Prelude.{ℕ, ◌+◌, Bool, Option, Some, None, List, [], ◌∷◌, map, filter, option_map, option_and_then}
use Rattle.lot_machine.specs.declared.ticket.Ticket.{Ticket}
use Rattle.lot_machine.specs.declared.funding.Node.{Node}
use Rattle.lot_machine.specs.declared.funding.Node.TheVariants.{Currency, Thread, Mutex}
use Rattle.lot_machine.specs.declared.funding.Edge.{Edge}
use Rattle.lot_machine.specs.declared.funding.Edge.TheVariants.{OfTicket, OfLender, OfMutex}
use Rattle.lot_machine.specs.Numbered.{at_number, option_any}
use Rattle.lot_machine.specs.Commands.{is_funding}
use Rattle.lot_machine.specs.Funding.{Funding, ticket_in, lend_node, owner_of}

-- the edge of a thread that lends, or of a mutex with an owner
abbrev pub own_edge_of : Funding → Node → Option Edge
own_edge_of f (Currency c) = None
own_edge_of f (Thread t) = option_map (λ to. OfLender t) (option_and_then lend_node (at_number f.lends t))
own_edge_of f (Mutex m) = option_map (λ owner. OfMutex m) (owner_of f m)

-- the list of the one edge, if there is one
abbrev pub own_edges : Option Edge → List Edge
own_edges None = []
own_edges (Some edge) = edge ∷ []

-- whether the ticket at this place exists and funds something
abbrev pub funds_at : List (Option Ticket) → ℕ → Bool
funds_at tickets place = option_any is_funding (ticket_in tickets (place + 1))

-- the edges of the tickets at these places that fund something
abbrev pub funding_edges : List (Option Ticket) → List ℕ → List Edge
funding_edges tickets places = map (λ place. OfTicket (place + 1)) (filter (funds_at tickets) places)

-- the edges of the tickets at these places that fund something, if there are places
abbrev pub issued_edges : List (Option Ticket) → Option (List ℕ) → List Edge
issued_edges tickets None = []
issued_edges tickets (Some places) = funding_edges tickets places
