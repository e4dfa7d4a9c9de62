-- The invariant of every state of reading an input.
use Rattle.std.specs.Prelude.{◌≡◌, ℕ, ◌<◌, ◌≤◌, Bool, Option, Result, Ok, Err, List, [], ◌∷◌, length, take, All, IsSome, IsTrue, Some, if◌then◌else◌}
use Rattle.std.specs.List.Sorted.{IsNonDecreasing}
use Rattle.std.specs.Option.{ForSome}
use Rattle.lot_simulation.specs.declared.input.InputRefusal.{InputRefusal}
use Rattle.lot_simulation.specs.declared.input.InputRefusal.TheVariants.{TooLong}
use Rattle.lot_machine.specs.declared.command.Command.{Command}
use Rattle.lot_simulation.specs.declared.script.ScriptLine.{ScriptLine}
use Rattle.lot_machine.specs.Bounds.{IsBetween}
use Rattle.lot_simulation.specs.Grammar.{Phrase, add_runs, is_alone, is_full, run_of, with_line}
use Rattle.lot_simulation.specs.Reading.{Reading, NamedScript, OpenScript, ◌>>=◌, checked, each_pair}
use Rattle.lot_simulation.specs.Words.{body_place}
use Rattle.lot_script.specs.Drafts.{loops_after}
use Rattle.lot_program.specs.Parts.{AreSeeds}

-- the numbers of the header are within their bounds, and its seeds, if it has any, are one for each processor
pub record AreSizes (processors quantum turns tickets currencies threads : ℕ) (seeds : Option (List ℕ)) : Type 0 where
  pub processor_count : IsBetween 1 64 processors
  pub quantum_length : IsBetween 1 1000 quantum
  pub turn_count : turns ≤ 10000
  pub ticket_count : IsBetween 1 65535 tickets
  pub currency_count : IsBetween 1 4096 currencies
  pub thread_count : IsBetween 1 4096 threads
  pub seeding : ForSome seeds (AreSeeds processors)

-- names are within their limits, and so is the open script
pub record AreNames (ports mutexes ticket_names : List (List ℕ)) (scripts : List NamedScript) (unclosed : Option OpenScript)
    : Type 0 where
  pub port_count : length ports ≤ 256
  pub mutex_count : length mutexes ≤ 256
  pub ticket_name_count : length ticket_names ≤ 4096
  pub script_count : length scripts ≤ 256
  pub open_script : IsSome unclosed → length scripts < 256

-- Commands and schedule are within their bounds. The schedule, whose actors depend on the number of processors, begins
-- after the header.
pub record IsBody (place processors : ℕ) (commands : List Command) (schedule : List ℕ) : Type 0 where
  pub command_count : length commands ≤ 100000
  pub actors : All (λ actor. actor ≤ processors) schedule
  pub schedule_length : length schedule ≤ 1000000
  pub unscheduled : place ≡ 0 → schedule ≡ []

-- Each command of a timed input has a time. Times never decrease, and none is after the next one. Only a timed input
-- has a duration.
pub record AreTimes (is_timed : Bool) (duration : Option ℕ) (commands : List Command) (times : List ℕ) (next : ℕ)
    : Type 0 where
  pub time_count : IsTrue is_timed → length times ≡ length commands
  pub running : IsSome duration → IsTrue is_timed
  pub rising : IsNonDecreasing times
  pub past : All (λ time. time ≤ next) times

-- all values read so far are within the bounds of an input
pub record IsReading (r : Reading) : Type 0 where
  pub sizes : AreSizes r.processors r.quantum r.turns r.tickets r.currencies r.threads r.seeds
  pub names : AreNames r.ports r.mutexes r.ticket_names r.scripts r.unclosed
  pub body : IsBody r.place r.processors r.commands r.schedule
  pub times : AreTimes r.is_timed r.duration r.commands r.times r.time

-- the reading after a line of the body, which ends the header
abbrev pub after_header : Result Reading InputRefusal → Result Reading InputRefusal
after_header read = read >>= λ after. Ok (record after { place = body_place })

-- the reading with this script open
abbrev pub within_script : Reading → OpenScript → Reading
within_script r s = record r { unclosed = Some s }

-- the number of arguments among the tokens after a word of a script
abbrev pub argument_count : List ℕ → ℕ
argument_count word = if is_alone word then 0 else 1

-- a word of a script in front of these tokens, with its arguments
abbrev pub phrase_at : List ℕ → List (List ℕ) → Phrase
phrase_at word tokens = record { word = word; tokens = take (argument_count word) tokens }

-- the reading after the script gets this line, which may open or end a loop
abbrev pub line_added : Reading → OpenScript → ScriptLine → Result Reading InputRefusal
line_added r s l = checked ((is_full s, TooLong) ∷ []) (within_script r (record (with_line s l) { loops = loops_after s.loops l }))

-- the reading after the schedule gets each pair of tokens as a run
abbrev pub pairs_added : Reading → List (List ℕ) → Result Reading InputRefusal
pairs_added r tokens = each_pair (run_of r.processors) tokens >>= λ runs. add_runs r runs
