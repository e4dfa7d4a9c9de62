-- the seeds so far are mixed, and the last is a seed
use Rattle.lot_text.proofs.Common.{AreSeeds, IsBetween, map, mixed_seed, range_with_len, ◌≡◌}
use Rattle.lot_text.proofs.reading.mixed_seeds.Given as goal

abbrev pub invariant-loop : goal.invariant-loop
invariant-loop l = record {
  seed : l.seed ≡ mixed_seed l.counter;
  range : IsBetween 1 2147483646 l.seed;
  mixed : l.seeds.items ≡ map mixed_seed (range_with_len 1 l.counter);
  each : AreSeeds l.counter l.seeds.items;
}
