use Rattle.lot_text.proofs.Common.{range_with_len, ◌≡◌}
use Rattle.lot_text.proofs.reading.own_seeds.Given as goal

abbrev pub invariant-loop-processor : goal.invariant-loop-processor
invariant-loop-processor l = l.seeds.items ≡ range_with_len 1 l.processor
