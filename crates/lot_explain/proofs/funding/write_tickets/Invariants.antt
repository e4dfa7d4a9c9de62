use Rattle.lot_explain.proofs.Common.{Appends, false, flat_map, range_with_len, ticket_funds, ◌≡◌}
use Rattle.lot_explain.proofs.funding.write_tickets.Given as goal

-- the lines of the tickets passed so far are written
abbrev pub invariant-loop-place : goal.invariant-loop-place
invariant-loop-place g l = record {
  working : l.writer.failed ≡ false;
  bytes : Appends (g.W.Write.contents l.initial.writer.inner) (g.W.Write.contents l.writer.inner)
      (flat_map (ticket_funds l.heading.style l.heading.unit l.heading.actor l.settled.kernel.now.state)
      (range_with_len 1 l.place));
}
