use Rattle.lot_text.proofs.Common.{drop, is_printable, ◌&&◌, ◌≡◌}
use Rattle.lot_text.proofs.tokens.are_printable.Given as goal

abbrev pub invariant-loop-byte : goal.invariant-loop-byte
invariant-loop-byte l =
    (l.all && is_printable l.separators (drop l.byte-index l.line)) ≡ is_printable l.separators l.line
