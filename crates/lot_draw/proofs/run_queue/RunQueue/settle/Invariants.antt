use Rattle.lot_draw.proofs.Common.{AreWeights, Contains, IsOnce, IsStale, Node, Thread, counted_up, edges_into_all, length, ℕ, ◌+◌, ◌≡◌, ◌⊎◌}
use Rattle.lot_draw.proofs.run_queue.RunQueue.settle.Given as goal

-- what was counted, and with the edges into the nodes that are stale yet it is all of them
abbrev pub invariant-loop-node : goal.invariant-loop-node
invariant-loop-node l = record {
  queue : l.self ≡ record l.fn.self { changed = l.self.changed };
  listed : (place : ℕ) → Contains l.self.changed place
      → Contains l.fn.self.changed place ⊎ IsStale l.fn.graph.known (Thread (place + 1));
  fewer : (node : Node) → IsStale l.graph.known node → IsStale l.fn.graph.known node;
  weights : AreWeights l.self l.graph.known;
  now : l.graph.now ≡ l.fn.graph.now;
  live : l.graph.live ≡ l.fn.graph.live;
  unit : l.graph.known.unit ≡ l.fn.graph.known.unit;
  once : (l.graph ≡ l.fn.graph) ⊎ IsOnce l.fn.graph.known;
  counted : (count : ℕ) × (l.graph.known.reads ≡ counted_up l.fn.graph.known.reads count) × (count + edges_into_all
      l.fn.graph.now.funding l.graph.known.stale ≡ edges_into_all l.fn.graph.now.funding l.fn.graph.known.stale);
}

abbrev pub decreases-loop-node : goal.decreases-loop-node
decreases-loop-node l = length l.graph.known.stale
