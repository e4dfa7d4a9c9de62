use Rattle.lot_playback.proofs.Lemmas.{HavePassed, world_of}
use Rattle.lot_playback.proofs.spans.SpanTable.queue_all.Given as goal

-- the threads passed so far have the waits after the turn
abbrev pub invariant-loop-place : goal.invariant-loop-place
invariant-loop-place l = record {
  waits : HavePassed l.time (world_of l.system).state l.place l.initial.self.threads.items l.self.threads.items;
}
