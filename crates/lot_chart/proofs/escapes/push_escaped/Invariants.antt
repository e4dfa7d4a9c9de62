use Rattle.lot_chart.proofs.Common.{escaped, take, ◌++◌, ◌≡◌}
use Rattle.lot_chart.proofs.escapes.push_escaped.Given as goal

-- the bytes passed so far are put
abbrev pub invariant-loop-byte : goal.invariant-loop-byte
invariant-loop-byte l = l.text ≡ l.initial.text ++ escaped (take l.byte-index l.bytes)
