use Rattle.lot_playback.proofs.Common.{HaveAdded, ◌≡◌}
use Rattle.lot_playback.proofs.currencies.CurrencyTable.add.Given as goal

-- the currencies passed so far have the ticks more if they were found
abbrev pub invariant-loop-place : goal.invariant-loop-place
invariant-loop-place l = record {
  above : l.self.above ≡ l.fn.self.above;
  dues : l.self.dues ≡ l.fn.self.dues;
  added : HaveAdded l.fn.self.above l.fn.ticks l.place l.fn.self.ticks.items l.self.ticks.items;
}
