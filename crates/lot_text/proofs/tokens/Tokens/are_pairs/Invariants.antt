use Rattle.std.proofs.Common.{◌≡◌, ◌%◌, length}
use Rattle.lot_text.proofs.tokens.Tokens.are_pairs.Given as goal

abbrev pub invariant-loop-left : goal.invariant-loop-left
invariant-loop-left l = length l.self % 2 ≡ length l.left % 2

abbrev pub decreases-loop-left : goal.decreases-loop-left
decreases-loop-left l = length l.left
