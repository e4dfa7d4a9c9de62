use Rattle.lot_chart.proofs.Common.{map, name_by, range_with_len, vec_len, ◌≡◌}
use Rattle.lot_chart.proofs.gathering.names_of.Given as goal

-- the names of the columns passed so far are there
abbrev pub invariant-loop-place : goal.invariant-loop-place
invariant-loop-place l = record {
  names : l.names.items ≡ map (name_by l.by l.settled.kernel.now.state) (range_with_len 1 l.place);
  count : vec_len l.names ≡ l.place;
}
