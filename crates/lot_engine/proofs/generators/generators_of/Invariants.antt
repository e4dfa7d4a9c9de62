use Rattle.std.proofs.Common.{◌≡◌, take, length}
use Rattle.lot_engine.proofs.generators.generators_of.Given as goal

-- those passed so far, with room for all
abbrev pub invariant-loop-seed : goal.invariant-loop-seed
invariant-loop-seed l = record {
  items : l.generators.items ≡ take l.seed-index l.seeds;
  room : l.generators.room ≡ length l.seeds;
}
