-- The words that begin lines of an input.
use Rattle.std.specs.Prelude.{ℕ, Bool, true, false, not, ◌||◌, Option, Some, None, List, [], ◌∷◌, length, find, option_map, codes, if◌then◌else◌}
use Rattle.std.specs.Str.{bytes_eq}
use Rattle.lot_machine.specs.declared.command.Kind.TheVariants.{Currencies, Threads, Tickets}
use Rattle.lot_machine.specs.declared.trap.Trap.TheVariants as trap
use Rattle.lot_machine.specs.declared.command.Verb.TheVariants as verb
use Rattle.lot_simulation.specs.declared.forms.Argument.{Argument}
use Rattle.lot_simulation.specs.declared.forms.Argument.TheVariants.{Number, KnownName}
use Rattle.lot_simulation.specs.declared.input.HeaderWord.{HeaderWord}
use Rattle.lot_simulation.specs.declared.input.HeaderWord.TheVariants as header
use Rattle.lot_simulation.specs.declared.input.Options.{Options}
use Rattle.lot_simulation.specs.declared.input.BodyWord.{BodyWord}
use Rattle.lot_simulation.specs.declared.input.BodyWord.TheVariants as body
use Rattle.lot_simulation.specs.declared.input.ScriptWord.{ScriptWord}
use Rattle.lot_simulation.specs.declared.input.ScriptWord.TheVariants as script

-- the word with this spelling in a table, if there is one
abbrev pub word_in : {W : Type 0} → List (List ℕ × W) → List ℕ → Option W
word_in table token = option_map (λ entry. entry.1) (find (λ entry. bytes_eq entry.0 token) table)

-- a table of words, each with its spelling and whether only a timed input has it
abbrev pub WordTable : Type 0 → Type 0
WordTable W = List (List ℕ × W × Bool)

-- the words of a table that an input has, which is timed or isn't
abbrev pub words_for : {W : Type 0} → Bool → WordTable W → List (List ℕ × W)
words_for is_timed [] = []
words_for is_timed (row ∷ rows) = if is_timed || not row.2 then (row.0, row.1) ∷ words_for is_timed rows else words_for is_timed rows

-- the words of the header
abbrev pub header_table : WordTable HeaderWord
header_table =
    (codes "for", header.For, true) ∷ (codes "reuse", header.Reuse, true) ∷ (codes "without", header.Without, true)
    ∷ (codes "strict", header.Strict, true) ∷ (codes "lottery", header.Lottery, false) ∷ (codes "processors", header.Processors, false)
    ∷ (codes "quantum", header.Quantum, false) ∷ (codes "turns", header.Turns, false) ∷ (codes "seed", header.Seed, false)
    ∷ (codes "limits", header.Limits, false) ∷ []

-- those of an input that isn't timed
abbrev pub header_words : List (List ℕ × HeaderWord)
header_words = words_for false header_table

-- a header word's place in the order of the lines
abbrev pub header_place : HeaderWord → ℕ
header_place header.Lottery = 0
header_place header.Processors = 1
header_place header.Quantum = 2
header_place header.Turns = 3
header_place header.For = 4
header_place header.Seed = 5
header_place header.Limits = 6
header_place header.Reuse = 7
header_place header.Without = 8
header_place header.Strict = 9

-- the options of a header that chooses nothing
abbrev pub no_options : Options
no_options = record { reuse = false; without_compensation = false; without_lending = false; strict = false }

-- the options with the one that a line of this word alone chooses, if it chooses one
abbrev pub options_with : Options → HeaderWord → Option Options
options_with options header.Reuse = Some (record options { reuse = true })
options_with options header.Strict = Some (record options { strict = true })
options_with options word = None

-- the place of the body, after those of the header's lines
abbrev pub body_place : ℕ
body_place = length header_table

-- the words of the body
abbrev pub body_table : WordTable BodyWord
body_table =
    (codes "at", body.At, true) ∷ (codes "settkt", body.Command verb.SetTicket, true) ∷ (codes "rmthr", body.Command verb.RemoveThread, true)
    ∷ (codes "kill", body.Command verb.Kill, true) ∷ (codes "port", body.Port, false) ∷ (codes "mutex", body.Mutex, false)
    ∷ (codes "script", body.Script, false) ∷ (codes "mktkt", body.Command verb.MakeTicket, false)
    ∷ (codes "rmtkt", body.Command verb.RemoveTicket, false) ∷ (codes "mkcur", body.Command verb.MakeCurrency, false)
    ∷ (codes "rmcur", body.Command verb.RemoveCurrency, false) ∷ (codes "fund", body.Command verb.Fund, false)
    ∷ (codes "unfund", body.Command verb.Unfund, false) ∷ (codes "mkthr", body.Command verb.MakeThread, false)
    ∷ (codes "fundx", body.Command verb.MakeFunded, false) ∷ (codes "lstkt", body.Command (verb.List Tickets), false)
    ∷ (codes "lscur", body.Command (verb.List Currencies), false) ∷ (codes "lsthr", body.Command (verb.List Threads), false)
    ∷ (codes "schedule", body.Schedule, false) ∷ (codes "runs", body.Runs, false) ∷ []

-- those of an input that isn't timed
abbrev pub body_words : List (List ℕ × BodyWord)
body_words = words_for false body_table

-- the words of a script
abbrev pub script_table : WordTable ScriptWord
script_table =
    (codes "sleep", script.Trap (trap.Sleep tt), true) ∷ (codes "serve", script.Trap (trap.Serve tt tt), true)
    ∷ (codes "compute", script.Compute, false) ∷ (codes "set", script.Set, false) ∷ (codes "add", script.Add, false)
    ∷ (codes "loop", script.Loop, false) ∷ (codes "end", script.End, false) ∷ (codes "yield", script.Trap trap.Yield, false)
    ∷ (codes "reply", script.Trap (trap.Reply tt), false) ∷ (codes "call", script.Trap (trap.Call tt tt), false)
    ∷ (codes "receive", script.Trap (trap.Receive tt), false) ∷ (codes "lock", script.Trap (trap.Lock tt), false)
    ∷ (codes "unlock", script.Trap (trap.Unlock tt tt), false) ∷ (codes "endscript", script.EndScript, false) ∷ []

-- those of an input that isn't timed, and of one that is
abbrev pub script_words : List (List ℕ × ScriptWord)
script_words = words_for false script_table

abbrev pub timed_script_words : List (List ℕ × ScriptWord)
timed_script_words = words_for true script_table

-- a number of these, both ends included
abbrev pub between : ℕ → ℕ → Argument
between first last = Number (record { first = first; last = last })

-- the argument that a word of a script takes, if it takes one; no number fits an exit, which isn't written
abbrev pub arguments_of : ScriptWord → List Argument
arguments_of script.Compute = between 1 4294967295 ∷ []
arguments_of script.Set = between 0 4294967295 ∷ []
arguments_of script.Add = between 0 4294967295 ∷ []
arguments_of script.Loop = between 1 65535 ∷ []
arguments_of (script.Trap (trap.Call o s)) = KnownName body.Port ∷ []
arguments_of (script.Trap (trap.Receive o)) = KnownName body.Port ∷ []
arguments_of (script.Trap (trap.Serve o s)) = KnownName body.Port ∷ []
arguments_of (script.Trap (trap.Lock o)) = KnownName body.Mutex ∷ []
arguments_of (script.Trap (trap.Unlock o d)) = KnownName body.Mutex ∷ []
arguments_of (script.Trap (trap.Sleep t)) = between 1 4294967295 ∷ []
arguments_of (script.Trap trap.Exit) = between 1 0 ∷ []
arguments_of other = []
