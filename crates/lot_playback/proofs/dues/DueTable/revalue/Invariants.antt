use Rattle.lot_playback.proofs.Lemmas.{HaveTaken, value_in, whole_in, world_of, ◌≡◌}
use Rattle.lot_playback.proofs.dues.DueTable.revalue.Given as goal

-- those passed so far have their new values, and what is due stays
abbrev pub invariant-loop-place : goal.invariant-loop-place
invariant-loop-place l = record {
  system : l.system ≡ l.fn.system;
  sharers : l.self.sharers ≡ l.fn.self.sharers;
  rate : l.self.rate ≡ l.fn.self.rate;
  time : l.self.time ≡ l.fn.self.time;
  shared : l.self.shared_time ≡ l.fn.self.shared_time;
  whole : l.self.whole ≡ whole_in l.fn.self.sharers (world_of l.fn.system).state;
  taken : HaveTaken (value_in l.fn.self.sharers (world_of l.fn.system).state) l.place l.fn.self.rate
      l.fn.self.places.items l.self.places.items;
}
