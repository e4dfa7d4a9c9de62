-- The output of a free run.
use Rattle.std.specs.Prelude.{◌≡◌, ℕ, Bool, true, false, Option, Result, Ok, Err, List}
use Rattle.std.specs.Io.KnownBytes.{Appends, Keeps}
use Rattle.lot_simulation.specs.declared.input.InputFault.{InputFault}
use Rattle.lot_simulation.specs.Grammar.{program_in}
use Rattle.lot_simulation.specs.Output.{end_text}
use Rattle.lot_simulation.specs.Texts.{fault_line}
use Rattle.lot_simulation.specs.World.{Program, without_time}
use Rattle.lot_io.specs.Watching.{Watch}
use Rattle.lot_processors.specs.Workers.{IsFreeRun}
use Rattle.lot_system.specs.declared.inputs.Played.{Played}
use Rattle.lot_system.specs.declared.inputs.Played.TheVariants.{Done, Refused}
use Rattle.lot_io.specs.declared.fault.IoFault.TheVariants.{Read, Write}
use Rattle.lot_io.specs.Reading.{HasRead}
use Rattle.lot_io.specs.Writing.{Begins, IsFaultOf}
use Rattle.lot_command.specs.declared.run.InputRunFault.{InputRunFault}
use Rattle.lot_command.specs.declared.run.InputRunFault.TheVariants.{Play, Workers}

-- the program in the bytes as a free run takes it, without time
abbrev pub timeless : Result Program InputFault → Result Program InputFault
timeless (Ok program) = Ok (without_time program)
timeless (Err fault) = Err fault

-- The output has the report of a free run of the program, and lines that reproduce its history; or the line for a
-- refused input.
abbrev pub HasRun : Result Program InputFault → Option (List ℕ) → Option (List ℕ) → Played → Type 0
HasRun (Ok program) old new played = (played ≡ Done) × ((history : List ℕ) × IsFreeRun program history × Appends old new (end_text program history))
HasRun (Err fault) old new played = (played ≡ Refused) × Appends old new (fault_line fault)

-- the output has a beginning of the output of `HasRun`
abbrev pub HasBegun : Result Program InputFault → Option (List ℕ) → Option (List ℕ) → Type 0
HasBegun (Ok program) old new = (history : List ℕ) × IsFreeRun program history × Begins old new (end_text program history)
HasBegun (Err fault) old new = Begins old new (fault_line fault)

-- On Ok the output of a free run was written; if the writer failed, a beginning of it; and on any other fault nothing.
-- The bytes were read before, so no fault is one of reading.
abbrev pub EndsRun : Result Program InputFault → Option (List ℕ) → Option (List ℕ) → Bool → Result Played InputRunFault → Type 0
EndsRun input old new failed (Ok played) = (failed ≡ false) × HasRun input old new played
EndsRun input old new failed (Err (Play Write)) = (failed ≡ true) × HasBegun input old new
EndsRun input old new failed (Err (Play Read)) = ⊥
EndsRun input old new failed (Err other) = (failed ≡ false) × Keeps old new

-- `EndsRun` for a watched writer, whose contents `contents` returns
abbrev pub Runs : {T : Type 0} → Result Program InputFault → (T → Option (List ℕ)) → Watch T → Watch T → Result Played InputRunFault → Type 0
Runs input contents old new result = EndsRun input (contents old.inner) (contents new.inner) new.failed result

-- The effect of a fault: on Write a beginning of the output of a free run of the input was written, otherwise nothing
-- was.
abbrev pub HasLeft : Option (List ℕ) → Option (List ℕ) → Option (List ℕ) → Option (List ℕ) → InputRunFault → Type 0
HasLeft left rest old new (Play Write) = (bytes : List ℕ) × HasRead left rest bytes × HasBegun (timeless (program_in bytes)) old new
HasLeft left rest old new other = Keeps old new

-- `HasLeft` for a watched reader and a watched writer
abbrev pub RunLeaves : {S : Type 0} {T : Type 0} → (S → Option (List ℕ)) → Watch S → Watch S → (T → Option (List ℕ)) → Watch T → Watch T → InputRunFault → Type 0
RunLeaves remaining reader after contents old new stop = HasLeft (remaining reader.inner) (remaining after.inner) (contents old.inner) (contents new.inner) stop

-- Read if the reader has failed, and Write if the writer has. Neither has if the workers stop early.
abbrev pub IsStopOf : InputRunFault → Bool → Bool → Type 0
IsStopOf (Play fault) reader writer = IsFaultOf fault reader writer
IsStopOf (Workers fault) reader writer = (reader ≡ false) × (writer ≡ false)
