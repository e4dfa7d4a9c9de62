use Rattle.std.proofs.Common.{◌≡◌, ◌++◌, take}
use Rattle.lot_print.proofs.line.Line.push_word.Given as goal

abbrev pub invariant-loop-byte : goal.invariant-loop-byte
invariant-loop-byte g l = l.self ≡ l.initial.self ++ take l.byte-index l.byte-items
