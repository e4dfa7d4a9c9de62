use Rattle.lot_explain.proofs.Common.{Appends, currency_funds, false, flat_map, range_with_len, ◌≡◌}
use Rattle.lot_explain.proofs.funding.write_currencies.Given as goal

-- the lines of the currencies passed so far are written
abbrev pub invariant-loop-number : goal.invariant-loop-number
invariant-loop-number g l = record {
  working : l.writer.failed ≡ false;
  bytes : Appends (g.W.Write.contents l.initial.writer.inner) (g.W.Write.contents l.writer.inner)
      (flat_map (currency_funds l.heading.style l.heading.unit l.heading.actor l.settled.kernel.now.state)
      (range_with_len 0 l.number));
}
