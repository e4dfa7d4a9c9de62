-- The seed is that of the steps taken, and one of the generator's values.
use Rattle.lot_draw.proofs.Common.{IsBetween, mixed_seed, ◌≡◌}
use Rattle.lot_draw.proofs.generator.mixed_seed.Given as goal

abbrev pub invariant-loop : goal.invariant-loop
invariant-loop l = record {
  seed : l.seed ≡ mixed_seed l.counter;
  range : IsBetween 1 2147483646 l.seed;
}
