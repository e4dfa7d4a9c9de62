-- The bytes read.
use Rattle.std.specs.Prelude.{◌≡◌, ℕ, ◌≤◌, ◌<◌, Bool, true, false, Option, List, ◌++◌, length}
use Rattle.std.specs.Io.KnownBytes.{Consumes, IsAtEnd}
use Rattle.lot_io.specs.Watching.{Watch}
use Rattle.lot_io.specs.declared.fault.IoFault.{IoFault}
use Rattle.lot_io.specs.declared.fault.IoFault.TheVariants.{Memory, Read, Write}

-- the bytes read of the remaining ones: all of them, or one more than an input may have
pub record HasRead (left rest : Option (List ℕ)) (bytes : List ℕ) : Type 0 where
  pub consumed : Consumes left rest bytes
  pub most : length bytes ≤ 16777217
  pub whole : length bytes < 16777217 → IsAtEnd rest

-- these are the bytes read by a watched reader, whose remaining bytes `remaining` returns
abbrev pub Reads : {T : Type 0} → (T → Option (List ℕ)) → Watch T → Watch T → List ℕ → Type 0
Reads remaining old new bytes = HasRead (remaining old.inner) (remaining new.inner) bytes

-- this many bytes were read, 0 only at the end, and appended to the earlier ones
pub record HasTaken (left rest : Option (List ℕ)) (old now : List ℕ) (count : ℕ) : Type 0 where
  pub taken : List ℕ
  pub count_is : length taken ≡ count
  pub kept : now ≡ old ++ taken
  pub consumed : Consumes left rest taken
  pub at_end : count ≡ 0 → IsAtEnd rest

-- a fault of reading: Read if the reader has failed, and otherwise Memory
abbrev pub IsReadFault : IoFault → Bool → Type 0
IsReadFault Memory failed = failed ≡ false
IsReadFault Read failed = failed ≡ true
IsReadFault Write failed = ⊥
