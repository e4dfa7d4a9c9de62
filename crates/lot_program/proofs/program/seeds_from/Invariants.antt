use Rattle.lot_program.proofs.Common.{AreSeeds, IsSeed, seeds_from, ◌++◌, ◌-◌, ◌≡◌}
use Rattle.lot_program.proofs.program.seeds_from.Given as goal

-- the seeds so far, and then those computed from the next, are all of them
abbrev pub invariant-loop : goal.invariant-loop
invariant-loop l = record {
  range : IsSeed l.next;
  from : l.seeds.items ++ seeds_from (l.processors - l.counter) l.next ≡ seeds_from l.processors l.fn.seed;
  each : AreSeeds l.counter l.seeds.items;
}
