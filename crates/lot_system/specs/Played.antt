-- The outcome of an input that is played or shown.
use Rattle.std.specs.Prelude.{◌≡◌, ℕ, Bool, true, false, Option, Ok, Err, Result, List, IfErr, IfOk, OnOk}
use Rattle.std.specs.Io.KnownBytes.{Appends, Keeps}
use Rattle.lot_simulation.specs.declared.input.InputFault.{InputFault}
use Rattle.lot_simulation.specs.Grammar.{program_in}
use Rattle.lot_simulation.specs.World.{Program}
use Rattle.lot_system.specs.declared.inputs.Played.{Played}
use Rattle.lot_system.specs.declared.inputs.Played.TheVariants.{Done, Refused}
use Rattle.lot_io.specs.declared.fault.IoFault.{IoFault}
use Rattle.lot_io.specs.declared.fault.IoFault.TheVariants.{Memory, Read, Write}
use Rattle.lot_io.specs.Watching.{Watch}
use Rattle.lot_io.specs.Reading.{HasRead, Reads}
use Rattle.lot_io.specs.Writing.{Begins, IsFaultOf}

-- the outcome of an input: refused if and only if its bytes are
abbrev pub came_of : Result Program InputFault → Played
came_of (Ok program) = Done
came_of (Err fault) = Refused

-- On Ok this is the outcome, and the text was written; on Write a beginning of it was, and on Memory nothing was.
abbrev pub EndsPlay : Option (List ℕ) → Option (List ℕ) → Bool → Result Played IoFault → Played → List ℕ → Type 0
EndsPlay old new failed (Ok played) came text = (played ≡ came) × (failed ≡ false) × Appends old new text
EndsPlay old new failed (Err Write) came text = (failed ≡ true) × Begins old new text
EndsPlay old new failed (Err Memory) came text = (failed ≡ false) × Keeps old new
EndsPlay old new failed (Err Read) came text = ⊥

-- `EndsPlay` for a watched writer, whose contents `contents` returns
abbrev pub Plays : {T : Type 0} → (T → Option (List ℕ)) → Watch T → Watch T → Result Played IoFault → Played → List ℕ → Type 0
Plays contents old new result came text = EndsPlay (contents old.inner) (contents new.inner) new.failed result came text

-- The effect of a fault: on Write a beginning of the text for the bytes that were read was written, otherwise nothing
-- was.
abbrev pub HasLeft : (List ℕ → List ℕ) → Option (List ℕ) → Option (List ℕ) → Option (List ℕ) → Option (List ℕ) → IoFault → Type 0
HasLeft text left rest old new Write = (bytes : List ℕ) × HasRead left rest bytes × Begins old new (text bytes)
HasLeft text left rest old new other = Keeps old new

-- `HasLeft` for a watched reader and a watched writer
abbrev pub Leaves : (List ℕ → List ℕ) → {S : Type 0} {T : Type 0} → (S → Option (List ℕ)) → Watch S → Watch S → (T → Option (List ℕ)) → Watch T → Watch T → IoFault → Type 0
Leaves text remaining reader after contents old new fault = HasLeft text (remaining reader.inner) (remaining after.inner) (contents old.inner) (contents new.inner) fault

-- The result of reading an input and writing this text for its bytes: without a fault neither the reader nor the writer
-- failed, and the text was written and flushed. A fault tells what failed; on Write a beginning of the text was
-- written.
pub record PlaysInput {S : Type 0} {T : Type 0} (text : List ℕ → List ℕ) (remaining : S → Option (List ℕ)) (reader after : Watch S) (contents : T → Option (List ℕ)) (old new : Watch T) (result : Result Played IoFault) : Type 0 where
  pub ok : OnOk result ((after.failed ≡ false) × (new.failed ≡ false))
  pub flushed : OnOk result (new.flushed ≡ true)
  pub err : IfErr result (λ fault. IsFaultOf fault after.failed new.failed)
  pub output : IfOk result (λ played. (bytes : List ℕ) × Reads remaining reader after bytes
      × (played ≡ came_of (program_in bytes)) × Appends (contents old.inner) (contents new.inner) (text bytes))
  pub fault : IfErr result (λ fault. Leaves text remaining reader after contents old new fault)
