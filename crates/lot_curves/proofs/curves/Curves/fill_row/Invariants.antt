use Rattle.lot_curves.proofs.Common.{get_or, had_in, length, stretches_of, take, ℕ, ◌*◌, ◌+◌, ◌<◌, ◌^◌, ◌≡◌, ◌≤◌}
use Rattle.lot_curves.proofs.curves.Curves.fill_row.Given as goal

-- each thread has what it has had of the stretches passed so far
abbrev pub invariant-loop-stretch : goal.invariant-loop-stretch
invariant-loop-stretch l = record {
  places : length l.row ≡ length l.initial.self.names;
  had : (k : ℕ) → k < length l.row → get_or l.row k 0
      ≡ had_in l.measure l.window l.tick (stretches_of (k + 1) (take l.stretch-index l.self.stretches));
  small : (k : ℕ) → k < length l.row → get_or l.row k 0 ≤ l.stretch-index * 2 ^ 32;
}
