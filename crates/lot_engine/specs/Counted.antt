-- Counters of turns.
use Rattle.std.specs.Prelude.{◌≡◌, ℕ, ◌+◌, ◌*◌, ◌<◌, ◌≤◌, List, length, slice_index_or}
use Rattle.lot_machine.specs.declared.reply.Reply.{Reply}
use Rattle.lot_simulation.specs.Report.{ActorTurn, quanta_in, idles_in, ticks_in, total_of, turns_of}
use Rattle.lot_engine.specs.declared.counts.Counts.{Counts}

-- the counters over these turns
abbrev pub counted : List ActorTurn → Counts
counted turns = record { turns = length turns; quanta = total_of quanta_in turns; idles = total_of idles_in turns; ticks = total_of ticks_in turns }

-- the counters with one more turn, with this reply
abbrev pub counted_with : Counts → Reply → Counts
counted_with counts r = record { turns = counts.turns + 1; quanta = counts.quanta + quanta_in r; idles = counts.idles + idles_in r; ticks = counts.ticks + ticks_in r }

-- the counters are within the range of n turns
pub record IsSmall (n : ℕ) (counts : Counts) : Type 0 where
  pub turns : counts.turns ≤ n
  pub quanta : counts.quanta ≤ n
  pub idles : counts.idles ≤ n
  pub ticks : counts.ticks ≤ n * 4294967296

-- the counters are those over these turns, and within the range of n turns
pub record IsCount (turns : List ActorTurn) (n : ℕ) (counts : Counts) : Type 0 where
  pub exact : counts ≡ counted turns
  pub small : IsSmall n counts

-- each actor's counters are those over its turns, and within the range of n turns
abbrev pub AreCounts : List ActorTurn → ℕ → List Counts → Type 0
AreCounts turns n counts = (actor : ℕ) (d : Counts) → actor < length counts → IsCount (turns_of actor turns) n (slice_index_or counts actor d)
