-- The free places of one table, as contracts see them.
use Rattle.std.specs.Prelude.{ℕ, List}

-- a table's free places, the one freed last first, and the capacity for them
pub record FreeStack : Type 0 where
  pub places : List ℕ
  pub room : ℕ
