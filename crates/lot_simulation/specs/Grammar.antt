-- The meaning of an input, or the line on which it is refused.
use Rattle.std.specs.Prelude.{ℕ, ◌+◌, ◌-◌, ◌%◌, max, ◌==◌, nat_lt, nat_le, Bool, true, false, not, ◌&&◌, ◌||◌, Option, Some, None, is_none, is_some, Result, Ok, Err, List, [], ◌∷◌, ◌++◌, length, drop, map, sum_by, replicate, codes, unwrap_or, option_map, if◌then◌else◌}
use Rattle.std.specs.List.{flat_map, list_any, range_with_len}
use Rattle.std.specs.Str.{bytes_eq}
use Rattle.lot_simulation.specs.declared.script.ScriptLine.{ScriptLine}
use Rattle.lot_simulation.specs.declared.script.ScriptLine.TheVariants as line
use Rattle.lot_machine.specs.declared.command.Command.{Command}
use Rattle.lot_machine.specs.declared.reference.CurrencyRef.TheVariants as currency_ref
use Rattle.lot_machine.specs.declared.reference.ThreadRef.TheVariants as thread_ref
use Rattle.lot_machine.specs.declared.reference.TargetRef.TheVariants as target_ref
use Rattle.lot_machine.specs.declared.arguments.Slot.{Slot}
use Rattle.lot_machine.specs.declared.arguments.Slot.TheVariants as slot
use Rattle.lot_machine.specs.Arguments.{Value}
use Rattle.lot_machine.specs.Arguments as value
use Rattle.lot_machine.specs.declared.command.Verb.{Verb}
use Rattle.lot_machine.specs.declared.command.Verb.TheVariants as verb
use Rattle.lot_machine.specs.Commands.{command_from, form}
use Rattle.lot_simulation.specs.declared.forms.Argument.{Argument}
use Rattle.lot_simulation.specs.declared.forms.Argument.TheVariants.{Number, KnownName}
use Rattle.lot_simulation.specs.declared.input.HeaderWord.{HeaderWord}
use Rattle.lot_simulation.specs.declared.input.HeaderWord.TheVariants as header
use Rattle.lot_simulation.specs.declared.input.Options.{Options}
use Rattle.lot_simulation.specs.declared.input.BodyWord.{BodyWord}
use Rattle.lot_simulation.specs.declared.input.BodyWord.TheVariants as body
use Rattle.lot_simulation.specs.declared.input.ScriptWord.{ScriptWord}
use Rattle.lot_simulation.specs.declared.input.ScriptWord.TheVariants as script
use Rattle.lot_simulation.specs.declared.input.InputRefusal.{InputRefusal}
use Rattle.lot_simulation.specs.declared.input.InputRefusal.TheVariants.{BadHeader, BadLine, OpenScript as ScriptIsOpen, TooDeep, TooLong}
use Rattle.lot_simulation.specs.declared.input.InputFault.{InputFault}
use Rattle.lot_machine.specs.declared.sizes.Sizes.{Sizes}
use Rattle.lot_simulation.specs.declared.separators.Separators.{Separators}
use Rattle.lot_simulation.specs.declared.separators.Separators.TheVariants.{Blanks}
use Rattle.lot_simulation.specs.Lines.{lines_of, without_end, separators_in, tokens_of, is_ignored, is_printable}
use Rattle.lot_simulation.specs.Words.{word_in, words_for, header_table, header_place, options_with, body_place, body_table, script_words, timed_script_words, arguments_of}
use Rattle.lot_simulation.specs.Reading.{OpenScript, Reading, opening_reading, ◌>>=◌, checked, only_token, each, each_pair, number_between, any_number, actor_below, any_name, any_ticket, new_name, known_name, script_number}
use Rattle.lot_machine.specs.Lottery.{mixed_seed}
use Rattle.lot_simulation.specs.World.{Program}
use Rattle.lot_machine.specs.Actions.{with_numbers}

-- whether the duration, which a timed input must give, is still missing
abbrev pub lacks_duration : Reading → Bool
lacks_duration r = r.is_timed && is_none r.duration

-- ---- lines of the header

-- The first line that isn't ignored: `lottery 1` means unit 1, and `lottery 2` unit 256. `lottery 3` means a timed
-- input, with unit 256.
abbrev pub first_line : List (List ℕ) → Result Reading InputRefusal
first_line (word ∷ version ∷ []) =
    if bytes_eq word (codes "lottery") && bytes_eq version (codes "1") then Ok (opening_reading false 1)
    else if bytes_eq word (codes "lottery") && bytes_eq version (codes "2") then Ok (opening_reading false 256)
    else if bytes_eq word (codes "lottery") && bytes_eq version (codes "3") then Ok (opening_reading true 256)
    else Err BadHeader
first_line other = Err BadHeader

-- The reading after `without` with this word, in a timed input: `compensation` or `lending`, each at most once.
abbrev pub without_line : Reading → List ℕ → Result Reading InputRefusal
without_line r mechanism =
    if bytes_eq mechanism (codes "compensation") then checked ((not r.is_timed, BadLine) ∷ (r.options.without_compensation, BadHeader) ∷ []) (record r { options = record r.options { without_compensation = true } })
    else if bytes_eq mechanism (codes "lending") then checked ((not r.is_timed, BadLine) ∷ (r.options.without_lending, BadHeader) ∷ []) (record r { options = record r.options { without_lending = true } })
    else Err BadLine

-- The reading after a line of a word alone that chooses these options, if it chooses any, in a timed input.
abbrev pub option_line : Reading → List (List ℕ) → Option Options → Result Reading InputRefusal
option_line r [] (Some options) = checked ((not r.is_timed, BadLine) ∷ []) (record r { options = options })
option_line r tokens chosen = Err BadLine

-- the reading after a line of the header
abbrev pub header_line : Reading → HeaderWord → List (List ℕ) → Result Reading InputRefusal
header_line r header.Processors tokens = do
  processors ← only_token (number_between 1 64) tokens
  Ok (record r { processors = processors })
header_line r header.Quantum tokens = do
  quantum ← only_token (number_between 1 1000) tokens
  Ok (record r { quantum = quantum })
header_line r header.Turns tokens = do
  turns ← only_token (number_between 0 10000) tokens
  Ok (record r { turns = turns })
header_line r header.For (t ∷ []) = do
  given ← checked ((not r.is_timed, BadLine) ∷ []) t
  duration ← number_between 1 4294967295 given
  Ok (record r { duration = Some duration })
header_line r header.Seed tokens = do
  given ← checked ((not (length tokens == r.processors), BadLine) ∷ []) tokens
  seeds ← each (number_between 1 2147483646) given
  Ok (record r { seeds = Some seeds })
header_line r header.Limits (t ∷ c ∷ h ∷ []) = do
  tickets ← number_between 1 65535 t
  currencies ← number_between 1 4096 c
  threads ← number_between 1 4096 h
  Ok (record r { tickets = tickets; currencies = currencies; threads = threads })
header_line r header.Without tokens = only_token (without_line r) tokens
header_line r word tokens = option_line r tokens (options_with r.options word)

-- whether the header has a line with this word
abbrev pub has_line : Reading → HeaderWord → Bool
has_line r word = list_any (λ given. header_place given == header_place word) r.given

-- whether the word was given and can't come again; `without` can come again, with its other word
abbrev pub is_given : Reading → HeaderWord → Bool
is_given r header.Without = false
is_given r word = has_line r word

-- whether the word is `processors` after `seed`, whose line has a number for each processor
abbrev pub is_after_seed : Reading → HeaderWord → Bool
is_after_seed r header.Processors = is_some r.seeds
is_after_seed r word = false

-- whether a header line with this word comes too late: its place is past, its word was given, or it is `processors`
-- after `seed`
abbrev pub is_late : Reading → HeaderWord → Bool
is_late r word = nat_le (header_place word) r.place || is_given r word || is_after_seed r word

-- The reading after a header line with this word, which can't come again. In a timed input the others come in any
-- order.
abbrev pub with_header_word : Reading → HeaderWord → Reading
with_header_word r word = record r { place = if r.is_timed then r.place else header_place word; given = r.given ++ word ∷ [] }

-- A header line is refused if its word comes too late.
abbrev pub header_in_order : Reading → HeaderWord → List (List ℕ) → Result Reading InputRefusal
header_in_order r word tokens = do
  before ← checked ((is_late r word, BadHeader) ∷ []) r
  after ← header_line before word tokens
  Ok (with_header_word after word)

-- ---- lines of a script

-- the script with one more line
abbrev pub with_line : OpenScript → ScriptLine → OpenScript
with_line s l = record s { lines = s.lines ++ l ∷ [] }

-- whether the script is full
abbrev pub is_full : OpenScript → Bool
is_full s = nat_le 1024 (length s.lines)

-- the reading after the script gets this line
abbrev pub add_line : Reading → OpenScript → ScriptLine → Result Reading InputRefusal
add_line r s l = checked ((is_full s, TooLong) ∷ []) (record r { unclosed = Some (with_line s l) })

-- the number that this argument means, or that of a port or mutex, given their names
abbrev pub argument_number : List (List ℕ) → List (List ℕ) → Argument → List ℕ → Result ℕ InputRefusal
argument_number ports mutexes (Number range) token = number_between range.first range.last token
argument_number ports mutexes (KnownName body.Port) token = known_name ports token
argument_number ports mutexes (KnownName body.Mutex) token = known_name mutexes token
argument_number ports mutexes other token = Err BadLine

-- the number that the tokens give a word of a script with these arguments, or 0 if it takes none
abbrev pub only_argument : List (List ℕ) → List (List ℕ) → List Argument → List (List ℕ) → Result ℕ InputRefusal
only_argument ports mutexes [] [] = Ok 0
only_argument ports mutexes (argument ∷ []) (token ∷ []) = argument_number ports mutexes argument token
only_argument ports mutexes arguments tokens = Err BadLine

-- the reading after a word of a script with this number
abbrev pub numbered_line : Reading → OpenScript → ScriptWord → ℕ → Result Reading InputRefusal
numbered_line r s script.Compute n = add_line r s (line.Compute n)
numbered_line r s script.Set n = add_line r s (line.Set n)
numbered_line r s script.Add n = add_line r s (line.Add n)
numbered_line r s script.Loop n =
    checked ((nat_le 8 s.loops, TooDeep) ∷ (is_full s, TooLong) ∷ []) (record r { unclosed = Some (record (with_line s (line.Loop n)) { loops = s.loops + 1 }) })
numbered_line r s script.End n =
    checked ((s.loops == 0, BadLine) ∷ (is_full s, TooLong) ∷ []) (record r { unclosed = Some (record (with_line s line.End) { loops = s.loops - 1 }) })
numbered_line r s (script.Trap word) n = add_line r s (line.Trap (with_numbers word n tt tt n))
numbered_line r s script.EndScript n =
    checked ((nat_lt 0 s.loops, BadLine) ∷ []) (record r { unclosed = None; scripts = r.scripts ++ record { name = s.name; lines = s.lines } ∷ [] })

-- the reading after a line of a script
abbrev pub script_line : Reading → OpenScript → ScriptWord → List (List ℕ) → Result Reading InputRefusal
script_line r s word tokens = do
  number ← only_argument r.ports r.mutexes (arguments_of word) tokens
  numbered_line r s word number

-- ---- several words on a line of a script, in a timed input

-- a word of a script, and its arguments
pub record Phrase : Type 0 where
  pub word : List ℕ
  pub tokens : List (List ℕ)

-- whether the word takes no argument; each other word takes one
abbrev pub stands_alone : ScriptWord → Bool
stands_alone word = length (arguments_of word) == 0

-- whether the token is a word that takes no argument
abbrev pub is_alone : List ℕ → Bool
is_alone token = unwrap_or (option_map stands_alone (word_in timed_script_words token)) false

-- the words of a line, each with its arguments
abbrev pub phrases_of : List (List ℕ) → List Phrase
phrases_of [] = []
phrases_of (word ∷ []) = record { word = word; tokens = [] } ∷ []
phrases_of (word ∷ next ∷ tokens) =
    if is_alone word then record { word = word; tokens = [] } ∷ phrases_of (next ∷ tokens) else record { word = word; tokens = next ∷ [] } ∷ phrases_of tokens

-- ---- lines of the body

-- the names of the scripts read so far
abbrev pub script_names : Reading → List (List ℕ)
script_names r = map (λ s. s.name) r.scripts

-- a list of this for the next command in a timed input, otherwise empty
abbrev pub in_time : {A : Type 0} → Reading → A → List A
in_time r x = if r.is_timed then x ∷ [] else []

-- The reading after one more command, which may name a ticket. In a timed input its time is that of the last `at`.
abbrev pub add_naming : Reading → Option ℕ → Command → Result Reading InputRefusal
add_naming r name c =
    checked ((nat_le 100000 (length r.commands), TooLong) ∷ []) (record r { commands = r.commands ++ c ∷ []; names = r.names ++ in_time r name; times = r.times ++ in_time r r.time })

-- whether the word stands before the name of a new ticket; only a timed input has such names
abbrev pub names_ticket : Reading → List ℕ → Bool
names_ticket r word = r.is_timed && bytes_eq word (codes "as")

-- the reading with one more name of a ticket
abbrev pub add_ticket_name : Reading → List ℕ → Result Reading InputRefusal
add_ticket_name r token = do
  name ← new_name r.ticket_names token
  checked ((nat_le 4096 (length r.ticket_names), TooLong) ∷ []) (record r { ticket_names = r.ticket_names ++ name ∷ [] })

-- the reading after a command that makes a ticket with this name
abbrev pub add_named : Reading → List ℕ → Command → Result Reading InputRefusal
add_named r token c = do
  named ← add_ticket_name r token
  add_naming named (Some (length named.ticket_names)) c

-- ---- lines of commands

-- the argument of this kind that a token means
abbrev pub value_from : Reading → Slot → List ℕ → Result Value InputRefusal
value_from r slot.Amount token = do
  amount ← any_number token
  Ok (value.Amount amount)
value_from r slot.Ticket token = any_ticket r token
value_from r slot.Currency token = do
  name ← any_name token
  Ok (value.Currency (currency_ref.Named name))
value_from r slot.Target token = do
  name ← any_name token
  Ok (value.Target (target_ref.Named name))
value_from r slot.Thread token = do
  name ← any_name token
  Ok (value.Thread (thread_ref.Named name))
value_from r slot.Name token = do
  name ← any_name token
  Ok (value.Name name)
value_from r slot.Script token = do
  number ← script_number (script_names r) token
  Ok (value.Script number)

-- the arguments of these kinds from the first tokens, one each, from left to right
abbrev pub values_from : Reading → List Slot → List (List ℕ) → Result (List Value) InputRefusal
values_from r [] tokens = Ok []
values_from r (kind ∷ kinds) [] = Err BadLine
values_from r (kind ∷ kinds) (token ∷ tokens) = do
  first ← value_from r kind token
  others ← values_from r kinds tokens
  Ok (first ∷ others)

-- the number of the name of the first ticket that has one
abbrev pub name_in : List Value → Option ℕ
name_in [] = None
name_in (value.NamedTicket name ∷ others) = Some name
name_in (other ∷ others) = name_in others

-- the argument with this number in the place of a ticket's name
abbrev pub numbered : ℕ → Value → Value
numbered ticket (value.NamedTicket name) = value.Ticket ticket
numbered ticket other = other

-- whether the command makes a ticket, which can have a name
abbrev pub makes_ticket : Verb → Bool
makes_ticket verb.MakeTicket = true
makes_ticket verb.MakeFunded = true
makes_ticket other = false

-- the name of a new ticket in the tokens after a command's arguments, if they are `as` and a name
abbrev pub name_at_end : Reading → Verb → List (List ℕ) → Result (Option (List ℕ)) InputRefusal
name_at_end r v [] = Ok None
name_at_end r v (word ∷ token ∷ []) = if makes_ticket v && names_ticket r word then Ok (Some token) else Err BadLine
name_at_end r v other = Err BadLine

-- The reading after this command, if there is one: the ticket that it makes has this name, or it names a ticket in
-- these arguments.
abbrev pub add_made : Reading → Option (List ℕ) → List Value → Option Command → Result Reading InputRefusal
add_made r name values None = Err BadLine
add_made r None values (Some c) = add_naming r (name_in values) c
add_made r (Some token) values (Some c) = add_named r token c

-- The reading after a line of a command: its arguments, one token each, and for a new ticket perhaps a name.
abbrev pub command_line : Reading → Verb → List (List ℕ) → Result Reading InputRefusal
command_line r v tokens = do
  given ← checked ((nat_lt (length tokens) (length (form v)), BadLine) ∷ []) tokens
  name ← name_at_end r v (drop (length (form v)) given)
  values ← values_from r (form v) given
  add_made r name values (command_from v (map (numbered 0) values))

-- ---- other lines of the body

-- several turns of one actor in a row
pub record ActorRun : Type 0 where
  pub actor : ℕ
  pub count : ℕ

-- an actor and its number of turns in a row, from their tokens
abbrev pub run_of : ℕ → List ℕ → List ℕ → Result ActorRun InputRefusal
run_of processors first second = do
  actor ← actor_below processors first
  count ← number_between 1 1000000 second
  Ok (record { actor = actor; count = count })

-- the actors of the runs, in order
abbrev pub actors_of : List ActorRun → List ℕ
actors_of runs = flat_map (λ run. replicate run.count run.actor) runs

-- the schedule with the actors of these runs at its end
abbrev pub add_runs : Reading → List ActorRun → Result Reading InputRefusal
add_runs r runs = do
  fitting ← checked ((nat_lt 1000000 (length r.schedule + sum_by (λ run. run.count) runs), TooLong) ∷ []) runs
  Ok (record r { schedule = r.schedule ++ actors_of fitting })

-- The reading after a line of the body. An input with unit 1 has no runs, and a timed input neither runs nor a
-- schedule. Times never decrease.
abbrev pub body_line : ℕ → Reading → BodyWord → List (List ℕ) → Result Reading InputRefusal
body_line n r body.Port tokens = do
  name ← only_token (new_name r.ports) tokens
  checked ((nat_le 256 (length r.ports), TooLong) ∷ []) (record r { ports = r.ports ++ name ∷ [] })
body_line n r body.Mutex tokens = do
  name ← only_token (new_name r.mutexes) tokens
  checked ((nat_le 256 (length r.mutexes), TooLong) ∷ []) (record r { mutexes = r.mutexes ++ name ∷ [] })
body_line n r body.Script tokens = do
  name ← only_token (new_name (script_names r)) tokens
  checked ((nat_le 256 (length r.scripts), TooLong) ∷ []) (record r { unclosed = Some (record { name = name; begins = n; lines = []; loops = 0 }) })
body_line n r (body.Command v) tokens = command_line r v tokens
body_line n r body.At tokens = do
  time ← only_token (number_between r.time 4294967295) tokens
  Ok (record r { time = time })
body_line n r body.Schedule (first ∷ others) = do
  tokens ← checked ((r.is_timed, BadLine) ∷ []) (first ∷ others)
  actors ← each (actor_below r.processors) tokens
  checked ((nat_lt 1000000 (length r.schedule + length actors), TooLong) ∷ []) (record r { schedule = r.schedule ++ actors })
body_line n r body.Runs (first ∷ others) = do
  tokens ← checked ((r.unit == 1 || r.is_timed, BadLine) ∷ (length (first ∷ others) % 2 == 1, BadLine) ∷ []) (first ∷ others)
  runs ← each_pair (run_of r.processors) tokens
  add_runs r runs
body_line n r word tokens = Err BadLine

-- a line of the body, which ends the header
abbrev pub body_after_header : ℕ → Reading → BodyWord → List (List ℕ) → Result Reading InputRefusal
body_after_header n r word tokens = do
  after ← body_line n r word tokens
  Ok (record after { place = body_place })

-- ---- a line

-- a line within a script, or one phrase of it
abbrev pub line_inside : Reading → OpenScript → Option ScriptWord → List (List ℕ) → Result Reading InputRefusal
line_inside r s None tokens = Err BadLine
line_inside r s (Some word) tokens = script_line r s word tokens

-- one phrase within a script; nothing may follow `endscript`
abbrev pub phrase_inside : Reading → Option OpenScript → Phrase → Result Reading InputRefusal
phrase_inside r None phrase = Err BadLine
phrase_inside r (Some s) phrase = line_inside r s (word_in timed_script_words phrase.word) phrase.tokens

-- the phrases of a line within a script, from left to right
abbrev pub phrases_inside : Reading → List Phrase → Result Reading InputRefusal
phrases_inside r [] = Ok r
phrases_inside r (phrase ∷ phrases) = do
  after ← phrase_inside r r.unclosed phrase
  phrases_inside after phrases

-- A line outside scripts. The first line of the body must come after the duration, in a timed input.
abbrev pub line_outside : ℕ → Reading → Option HeaderWord → Option BodyWord → List (List ℕ) → Result Reading InputRefusal
line_outside n r (Some word) other tokens = header_in_order r word tokens
line_outside n r None (Some word) tokens = do
  before ← checked ((lacks_duration r, BadHeader) ∷ []) r
  body_after_header n before word tokens
line_outside n r None None tokens = Err BadLine

-- the words that may begin header lines of this input
abbrev pub header_words_of : Reading → List (List ℕ × HeaderWord)
header_words_of r = words_for r.is_timed header_table

-- the words that may begin body lines of this input
abbrev pub body_words_of : Reading → List (List ℕ × BodyWord)
body_words_of r = words_for r.is_timed body_table

-- A line after the first, by its first token. A line within a script is one phrase, or several in a timed input.
abbrev pub later_line : ℕ → Reading → Option OpenScript → List ℕ → List (List ℕ) → Result Reading InputRefusal
later_line n r (Some s) word tokens = if r.is_timed then phrases_inside r (phrases_of (word ∷ tokens)) else line_inside r s (word_in script_words word) tokens
later_line n r None word tokens = line_outside n r (word_in (header_words_of r) word) (word_in (body_words_of r) word) tokens

-- a line that isn't ignored, by its tokens; the first one has no reading before it
abbrev pub token_line : ℕ → Option Reading → List (List ℕ) → Result Reading InputRefusal
token_line n None tokens = first_line tokens
token_line n (Some r) [] = Ok r
token_line n (Some r) (word ∷ tokens) = later_line n r r.unclosed word tokens

-- whether these tokens say that the input is timed: they are `lottery` and `3`
abbrev pub are_timed : List (List ℕ) → Bool
are_timed (word ∷ version ∷ []) = bytes_eq word (codes "lottery") && bytes_eq version (codes "3")
are_timed other = false

-- whether the line, which isn't ignored, begins a timed input
abbrev pub begins_timed : List ℕ → Bool
begins_timed line = is_printable Blanks line && are_timed (tokens_of Blanks line)

-- The separators in a line are those of its input. Before there is a reading, only the line that begins a timed input
-- has blanks.
abbrev pub separators_of : Option Reading → List ℕ → Separators
separators_of None line = separators_in (begins_timed line)
separators_of (Some r) line = separators_in r.is_timed

-- a line with this number that isn't too long, by whether it is ignored
abbrev pub fitting_line : ℕ → Option Reading → Separators → List ℕ → Bool → Result (Option Reading) InputRefusal
fitting_line n reading separators line true = Ok reading
fitting_line n reading separators line false = do
  printable ← checked ((not (is_printable separators line), BadLine) ∷ []) line
  after ← token_line n reading (tokens_of separators printable)
  Ok (Some after)

-- The reading after the line with this number; the input up to its end has this many bytes.
abbrev pub read_line : ℕ → ℕ → Option Reading → List ℕ → Result (Option Reading) InputRefusal
read_line n end reading line = do
  fitting ← checked ((nat_lt 4096 (length line) || nat_lt 16777216 end, TooLong) ∷ []) line
  fitting_line n reading (separators_of reading fitting) fitting (is_ignored (tokens_of (separators_of reading fitting) fitting))

-- the result, with this line number in a refusal
abbrev pub refused_on : {A : Type 0} → ℕ → Result A InputRefusal → Result A InputFault
refused_on n (Ok x) = Ok x
refused_on n (Err refusal) = Err (record { line = n; refusal = refusal })

-- The reading after these lines, the first of which has this number and begins after this many bytes. The first
-- faulty line is refused.
abbrev pub read_lines : ℕ → ℕ → Option Reading → List (List ℕ) → Result (Option Reading) InputFault
read_lines n start reading [] = Ok reading
read_lines n start reading (line ∷ lines) = do
  after ← refused_on n (read_line n (start + length line) reading (without_end line))
  read_lines (n + 1) (start + length line) after lines

-- ---- a whole input

-- the limits in the header
abbrev pub limits_of : Reading → Sizes
limits_of r = record {
  tickets = r.tickets;
  currencies = r.currencies;
  threads = r.threads;
  ports = length r.ports;
  mutexes = length r.mutexes;
  processors = r.processors;
  scripts = length r.scripts;
  quantum = r.quantum;
  unit = r.unit;
  reuse = r.options.reuse;
  plain_names = false;
  without_compensation = r.options.without_compensation;
  without_lending = r.options.without_lending;
  queued_lend = false;
}

-- The seeds unless the input gives them: seed p for processor p, or its mixed seed in a timed input.
abbrev pub default_seeds : Reading → List ℕ
default_seeds r = if r.is_timed then map mixed_seed (range_with_len 1 r.processors) else range_with_len 1 r.processors

-- the program of this reading
abbrev pub program_of : Reading → Program
program_of r = record {
  limits = limits_of r;
  seeds = unwrap_or r.seeds (default_seeds r);
  turns = r.turns;
  scripts = map (λ s. s.lines) r.scripts;
  commands = r.commands;
  schedule = r.schedule;
  duration = r.duration;
  times = r.times;
  ticket_names = length r.ticket_names;
  names = r.names;
  options = r.options;
}

-- A script left open is refused on the line where it begins.
abbrev pub closed_program : Reading → Option OpenScript → Result Program InputFault
closed_program r None = Ok (program_of r)
closed_program r (Some s) = Err (record { line = s.begins; refusal = ScriptIsOpen })

-- An input whose lines are all ignored is refused on its last line, or on line 1 if it has none. So is a header alone
-- that lacks the duration of a timed input.
abbrev pub whole_program : ℕ → Option Reading → Result Program InputFault
whole_program count None = Err (record { line = max 1 count; refusal = BadHeader })
whole_program count (Some r) = if lacks_duration r then Err (record { line = max 1 count; refusal = BadHeader }) else closed_program r r.unclosed

-- the program in these bytes, or the line on which they are refused and why
abbrev pub program_in : List ℕ → Result Program InputFault
program_in bytes = do
  reading ← read_lines 1 0 None (lines_of bytes)
  whole_program (length (lines_of bytes)) reading
