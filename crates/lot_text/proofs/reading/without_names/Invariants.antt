use Rattle.std.proofs.Common.{◌≡◌, map}
use Rattle.lot_text.proofs.reading.without_names.Given as goal

abbrev pub invariant-loop-script : goal.invariant-loop-script
invariant-loop-script l = l.scripts.items ≡ map (λ s. s.lines) l.yielded
