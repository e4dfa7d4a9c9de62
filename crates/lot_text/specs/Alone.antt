-- Names that are the only token of a line.
use Rattle.std.specs.Prelude.{ℕ, nat_le, Result, List, [], ◌∷◌, length}
use Rattle.lot_simulation.specs.declared.input.InputRefusal.{InputRefusal}
use Rattle.lot_simulation.specs.declared.input.InputRefusal.TheVariants.{TooLong}
use Rattle.lot_simulation.specs.Reading.{◌>>=◌, checked, new_name, only_token}

-- the only token as a new name, if there are fewer names than the limit
abbrev pub new_name_alone : ℕ → List (List ℕ) → List (List ℕ) → Result (List ℕ) InputRefusal
new_name_alone most names tokens = only_token (new_name names) tokens >>= λ name. checked ((nat_le most (length names), TooLong) ∷ []) name
