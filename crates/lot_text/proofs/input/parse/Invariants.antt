use Rattle.lot_text.proofs.Common.{None, length, lines_of, read_lines, ◌+◌, ◌≡◌, ◌≤◌}
use Rattle.lot_text.proofs.input.parse.Given as goal

abbrev pub invariant-loop-rest : goal.invariant-loop-rest
invariant-loop-rest l = record {
  all : l.end + length l.rest ≡ length l.bytes;
  number : l.number ≤ l.end;
  within : l.end ≤ 16777216;
  count : l.number + length (lines_of l.rest) ≡ length (lines_of l.bytes);
  read : read_lines (l.number + 1) l.end l.reading (lines_of l.rest) ≡ read_lines 1 0 None (lines_of l.bytes);
}

abbrev pub decreases-loop-rest : goal.decreases-loop-rest
decreases-loop-rest l = length l.rest
