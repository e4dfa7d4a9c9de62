use Rattle.lot_system.proofs.Common.{AreAllFigures, Some, any_ends_refused, ends_refused, seeds_between, with_seed, ◌-◌, ◌<◌, ◌||◌, ◌≡◌, ◌≤◌}
use Rattle.lot_system.proofs.seeds.play_others.Given as goal

-- the figures over the plays so far
abbrev pub invariant-loop-number : goal.invariant-loop-number
invariant-loop-number l = record {
  above : l.fn.seeds.first < l.number;
  within : l.number - 1 - l.fn.seeds.first ≤ l.fn.seeds.last - l.fn.seeds.first;
  are : AreAllFigures l.fn.program (seeds_between l.fn.seeds.first (l.number - 1)) l.all;
  refused : (ends_refused (with_seed (Some l.fn.seeds.first) l.fn.program) || l.warnings.stopped)
      ≡ any_ends_refused l.fn.program (seeds_between l.fn.seeds.first (l.number - 1));
}
