use Rattle.lot_graph.proofs.Common.{All, funding_edges, ◌+◌, ◌<◌, ◌^◌, ◌≡◌}
use Rattle.lot_graph.proofs.walks.next_funding.Given as goal

abbrev pub invariant-loop-place : goal.invariant-loop-place
invariant-loop-place l = (goal.iterator-loop-place).can_next l.places × (goal.iterator-loop-place).is_finite l.places
    × All (λ place. place + 1 < 2 ^ 32) l.places
    × (funding_edges l.tickets.tickets l.places ≡ funding_edges l.tickets.tickets l.fn.places)
