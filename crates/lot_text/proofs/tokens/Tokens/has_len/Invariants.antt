use Rattle.std.proofs.Common.{◌≡◌, ◌+◌, length}
use Rattle.lot_text.proofs.tokens.Tokens.has_len.Given as goal

abbrev pub invariant-loop-missing : goal.invariant-loop-missing
invariant-loop-missing l = length l.self + l.missing ≡ length l.left + l.count

abbrev pub decreases-loop-missing : goal.decreases-loop-missing
decreases-loop-missing l = l.missing
