use Rattle.lot_system.proofs.Common.{rows_among, ◌≡◌, ◌≤◌}
use Rattle.lot_system.proofs.listing.count_rows.Given as goal

-- the rows of the numbers passed so far are counted
abbrev pub invariant-loop-place : goal.invariant-loop-place
invariant-loop-place l = record {
  count : l.rows ≡ rows_among l.settled.kernel.now.state l.kind l.place;
  bounded : l.rows ≤ l.place;
}
