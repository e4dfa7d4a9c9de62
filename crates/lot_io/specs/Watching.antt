-- A watched reader or writer in contracts, the failure of a write, and the text written until then.
use Rattle.std.specs.Prelude.{ℕ, ◌==◌, nat_lt, Bool, true, ◌&&◌, Result, Ok, Err, Option, List, length, take}
use Rattle.std.specs.Io.KnownBytes.{Appends}

-- the reader or writer, whether it has failed, and whether all accepted bytes have been flushed
pub record Watch (T : Type 0) : Type 0 where
  pub inner : T
  pub failed : Bool
  pub flushed : Bool

-- the write returned an error, or accepted none of at least one byte
abbrev pub is_failed_write : {E : Type 0} → Result ℕ E → List ℕ → Bool
is_failed_write (Ok taken) bytes = (taken == 0) && nat_lt 0 (length bytes)
is_failed_write (Err e) bytes = true

-- the write accepted no byte
abbrev pub has_taken_none : {E : Type 0} → Result ℕ E → Bool
has_taken_none (Ok taken) = taken == 0
has_taken_none (Err e) = true

-- known contents grow by a beginning of these bytes
abbrev pub AppendsBeginning : Option (List ℕ) → Option (List ℕ) → List ℕ → Type 0
AppendsBeginning old new bytes = (count : ℕ) × Appends old new (take count bytes)
