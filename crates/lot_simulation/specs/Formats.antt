-- The formats of inputs.
use Rattle.std.specs.Prelude.{ℕ, Bool, true, false, List, [], ◌∷◌, codes}
use Rattle.lot_simulation.specs.declared.format.Format.{Format}
use Rattle.lot_simulation.specs.declared.format.Format.TheVariants.{V1, V2, V3}

-- the formats, each with the word after `lottery` on the first line
abbrev pub versions : List (List ℕ × Format)
versions = (codes "1", V1) ∷ (codes "2", V2) ∷ (codes "3", V3) ∷ []

-- the base units in one unit of value, 1 or 256
abbrev pub unit_of : Format → ℕ
unit_of V1 = 1
unit_of V2 = 256
unit_of V3 = 256

-- whether an input of this format is timed: its turns come in time order
abbrev pub is_timed : Format → Bool
is_timed V1 = false
is_timed V2 = false
is_timed V3 = true
