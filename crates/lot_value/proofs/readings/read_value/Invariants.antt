use Rattle.lot_value.proofs.Common.{AreSources, Bool, HasEachOnce, LeadsInto, List, counted_up, kept_worth, layout_of, length, share, sum_by, ◌++◌, ◌≡◌}
use Rattle.lot_value.proofs.readings.read_value.Given as goal

-- the edges are those that were read and those that are left
abbrev pub invariant-loop-edge : goal.invariant-loop-edge
invariant-loop-edge l = record {
  split : HasEachOnce (l.yielded ++ l.edge-iterator) (LeadsInto l.sources.graph.now.funding l.fn.node);
  total : (live : List Bool) → AreSources l.sources live → l.total ≡ sum_by (share l.sources.unit
      l.sources.graph.now.funding live (kept_worth (layout_of l.sources.graph.now) l.sources.values.now)) l.yielded;
  reads : l.reads ≡ counted_up l.fn.reads (length l.yielded);
}
