-- The part of an input read so far, and the meaning of tokens.
use Rattle.std.specs.Prelude.{ℕ, ◌+◌, ◌-◌, ◌^◌, nat_lt, Bool, not, ◌&&◌, ◌||◌, Option, Some, None, is_none, Result, Ok, Err, List, [], ◌∷◌, length, position, option_map, unwrap_or, if◌then◌else◌}
use Rattle.std.specs.Str.{bytes_eq}
use Rattle.lot_simulation.specs.declared.script.ScriptLine.{ScriptLine}
use Rattle.lot_machine.specs.declared.command.Command.{Command}
use Rattle.lot_machine.specs.Arguments.{Value, NamedTicket, Ticket}
use Rattle.lot_simulation.specs.declared.input.HeaderWord.{HeaderWord}
use Rattle.lot_simulation.specs.declared.input.Options.{Options}
use Rattle.lot_simulation.specs.declared.input.InputRefusal.{InputRefusal}
use Rattle.lot_simulation.specs.declared.input.InputRefusal.TheVariants.{BadLine, BadNumber, UnknownName, TooLong, BadActor}
use Rattle.lot_machine.specs.Commands.{first_failing, is_good_name}
pub use Rattle.lot_machine.specs.Verbs.{◌>>=◌}
use Rattle.lot_simulation.specs.Lines.{number_of}
use Rattle.lot_simulation.specs.Words.{no_options}

-- a closed script
pub record NamedScript : Type 0 where
  pub name : List ℕ
  pub lines : List ScriptLine

-- an open script: the line where it begins, its lines so far, and the number of its open loops
pub record OpenScript : Type 0 where
  pub name : List ℕ
  pub begins : ℕ
  pub lines : List ScriptLine
  pub loops : ℕ

-- The contents of the lines read so far. Header lines up to the place come too late: the place is that of the last
-- header line, or 0 in a timed input, and that of the body from there on.
pub record Reading : Type 0 where
  pub place : ℕ
  pub given : List HeaderWord  -- the words of the header lines so far, after the first line
  pub is_timed : Bool  -- whether the input is timed
  pub unit : ℕ
  pub processors : ℕ
  pub quantum : ℕ
  pub turns : ℕ
  pub duration : Option ℕ  -- in ticks
  pub seeds : Option (List ℕ)
  pub tickets : ℕ
  pub currencies : ℕ
  pub threads : ℕ
  pub options : Options
  pub ports : List (List ℕ)  -- names, as for mutexes
  pub mutexes : List (List ℕ)
  pub scripts : List NamedScript
  pub unclosed : Option OpenScript
  pub commands : List Command
  pub time : ℕ  -- the time of the next commands
  pub times : List ℕ  -- the times of the commands so far
  pub ticket_names : List (List ℕ)  -- the names that tickets can have
  pub names : List (Option ℕ)  -- the number of the name that each command so far has for its ticket
  pub schedule : List ℕ

-- the reading after the first line, which gives the unit and says whether the input is timed
abbrev pub opening_reading : Bool → ℕ → Reading
opening_reading is_timed unit = record {
  place = 0;
  given = [];
  is_timed = is_timed;
  unit = unit;
  processors = 1;
  quantum = 100;
  turns = 0;
  duration = None;
  seeds = None;
  tickets = 65535;
  currencies = 4096;
  threads = 4096;
  options = no_options;
  ports = [];
  mutexes = [];
  scripts = [];
  unclosed = None;
  commands = [];
  time = 0;
  times = [];
  ticket_names = [];
  names = [];
  schedule = [];
}

-- ---- results

-- x, or the refusal of the first check that fails
abbrev pub checked : {A : Type 0} → List (Bool × InputRefusal) → A → Result A InputRefusal
checked {A} checks x = made (first_failing checks)
  where
    made : Option InputRefusal → Result A InputRefusal
    made None = Ok x
    made (Some refusal) = Err refusal

-- reads the only token; none and several are refused
abbrev pub only_token : {A : Type 0} → (List ℕ → Result A InputRefusal) → List (List ℕ) → Result A InputRefusal
only_token read (token ∷ []) = read token
only_token read tokens = Err BadLine

-- reads each token, from left to right
abbrev pub each : {A : Type 0} → (List ℕ → Result A InputRefusal) → List (List ℕ) → Result (List A) InputRefusal
each read [] = Ok []
each read (token ∷ tokens) = do
  x ← read token
  xs ← each read tokens
  Ok (x ∷ xs)

-- reads each pair of tokens, from left to right; a last token without a partner is ignored
abbrev pub each_pair : {A : Type 0} → (List ℕ → List ℕ → Result A InputRefusal) → List (List ℕ) → Result (List A) InputRefusal
each_pair read [] = Ok []
each_pair read (token ∷ []) = Ok []
each_pair read (first ∷ second ∷ tokens) = do
  x ← read first second
  xs ← each_pair read tokens
  Ok (x ∷ xs)

-- ---- tokens

-- a number in this range, both ends included
abbrev pub number_between : ℕ → ℕ → List ℕ → Result ℕ InputRefusal
number_between first last token = made (number_of token)
  where
    made : Option ℕ → Result ℕ InputRefusal
    made None = Err BadNumber
    made (Some n) = checked ((nat_lt n first || nat_lt last n, BadNumber) ∷ []) n

-- an amount in a command: any 64-bit number, which the kernel then judges
abbrev pub any_number : List ℕ → Result ℕ InputRefusal
any_number token = number_between 0 (2 ^ 64 - 1) token

-- an actor: 0 is the console, and each other number a processor
abbrev pub actor_below : ℕ → List ℕ → Result ℕ InputRefusal
actor_below processors token = made (number_of token)
  where
    made : Option ℕ → Result ℕ InputRefusal
    made None = Err BadNumber
    made (Some n) = checked ((nat_lt processors n, BadActor) ∷ []) n

-- whether the name has more than 16 bytes
abbrev pub is_long_name : List ℕ → Bool
is_long_name token = nat_lt 16 (length token)

-- the number of the first of these with this name, from 1
abbrev pub number_named : List (List ℕ) → List ℕ → Option ℕ
number_named names token = option_map (λ place. place + 1) (position (bytes_eq token) names)

-- a name in a command: any of at most 16 bytes, which the kernel then judges
abbrev pub any_name : List ℕ → Result (List ℕ) InputRefusal
any_name token = checked ((is_long_name token, TooLong) ∷ []) token

-- the ticket that these names mean, in a timed input
abbrev pub named_ticket : Option ℕ → Result Value InputRefusal
named_ticket None = Err UnknownName
named_ticket (Some name) = Ok (NamedTicket name)

-- A ticket in a command: its number, which the kernel then judges, or in a timed input a name that an earlier line
-- gave.
abbrev pub any_ticket : Reading → List ℕ → Result Value InputRefusal
any_ticket r token = made (number_of token)
  where
    made : Option ℕ → Result Value InputRefusal
    made (Some number) = Ok (Ticket number)
    made None = if r.is_timed && is_good_name token then named_ticket (number_named r.ticket_names token) else Err BadNumber

-- the name of a new port, mutex, script or ticket: a good one that no other of its kind has
abbrev pub new_name : List (List ℕ) → List ℕ → Result (List ℕ) InputRefusal
new_name names token =
    checked ((is_long_name token, TooLong) ∷ (not (is_good_name token) || not (is_none (number_named names token)), BadLine) ∷ []) token

-- the number of the port or mutex with this name, in a line of a script
abbrev pub known_name : List (List ℕ) → List ℕ → Result ℕ InputRefusal
known_name names token =
    checked ((is_long_name token, TooLong) ∷ (is_none (number_named names token), UnknownName) ∷ []) (unwrap_or (number_named names token) 0)

-- the number of the script with this name, in a command; 0 if there is none so far
abbrev pub script_number : List (List ℕ) → List ℕ → Result ℕ InputRefusal
script_number names token = checked ((is_long_name token, TooLong) ∷ []) (unwrap_or (number_named names token) 0)
