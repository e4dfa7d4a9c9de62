-- The sources of shares; no public clause cites this file.
use Rattle.std.specs.Prelude.{◌≡◌, Bool, List, length}
use Rattle.lot_graph.specs.Places.{node_count, layout_of}
use Rattle.lot_active.specs.Fundings.{IsKeptFor}
use Rattle.lot_value.specs.declared.readings.Sources.{Sources}

-- the activity is that of the graph and these live threads, and each node has a value
pub record AreSources (s : Sources) (live : List Bool) : Type 0 where
  pub kept : IsKeptFor s.active.now s.graph.now live
  pub places : length s.values.now ≡ node_count (layout_of s.graph.now)
