use Rattle.lot_draw.proofs.Common.{AreWeights, length, ◌≡◌}
use Rattle.lot_draw.proofs.run_queue.RunQueue.weigh_changed.Given as goal

abbrev pub invariant-loop-place : goal.invariant-loop-place
invariant-loop-place l = record {
  queue : l.self ≡ record l.fn.self { weights = l.self.weights; changed = l.self.changed };
  weights : AreWeights l.self l.graph.known;
}

abbrev pub decreases-loop-place : goal.decreases-loop-place
decreases-loop-place l = length l.self.changed
