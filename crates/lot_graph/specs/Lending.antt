-- The slots of the tickets after a returned `&mut` to one of them ends; no public clause cites this file.
use Rattle.std.specs.Prelude.{ℕ}
use Rattle.std.specs.Borrow.{Lends, Fml, RattleType, MutBor}
use Rattle.slab.specs.Slab.{Slab, with_value}
use Rattle.lot_graph.specs.contracts.slots.Slots.{the_row}

-- once the borrow r ends, the key has the last value written through r
abbrev pub lends_value : (T : RattleType) → MutBor (Slab T.Denot) → ℕ → MutBor T.Denot → Fml
lends_value T s key r = Lends (the_row T) T s r (with_value s.now key)
