use Rattle.lot_graph.specs.Tickets.{IsFilling}
use Rattle.lot_graph.proofs.tickets.Tickets.new.Given as goal

abbrev pub invariant-loop-place : goal.invariant-loop-place
invariant-loop-place l = IsFilling l.records l.place l.room
