use Rattle.lot_value.proofs.Common.{Bool, IsKeptFor, IsRight, List, counted_up, edges_into_all, length, ℕ, ◌+◌, ◌≡◌}
use Rattle.lot_value.proofs.values.Values.settle.Given as goal

-- what was counted, and with the edges into the nodes that are stale yet it is all of them
abbrev pub invariant-loop : goal.invariant-loop
invariant-loop l = record {
  unit : l.self.unit ≡ l.fn.self.unit;
  right : (live : List Bool) → IsKeptFor l.active l.graph live → IsRight l.graph live l.fn.self
      → IsRight l.graph live l.self;
  counted : (count : ℕ) × (l.self.reads ≡ counted_up l.fn.self.reads count)
      × (count + edges_into_all l.graph.funding l.self.stale ≡ edges_into_all l.graph.funding l.fn.self.stale);
}

abbrev pub decreases-loop : goal.decreases-loop
decreases-loop l = length l.self.stale
