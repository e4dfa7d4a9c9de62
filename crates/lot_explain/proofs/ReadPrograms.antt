-- Every accepted program has sizes within their bounds, short names of threads, and times of 32 bits.
use Rattle.lot_explain.proofs.Common.{ActorRun, All, All-nil, All-push, BadHeader, BadLine, BadNumber, BodyWord, Bool, Command, Err, HasShortName, HeaderWord, IfOk, IfSome, InputRefusal, IsBetween, IsUnit, IsWithinBounds, List, None, Ok, OpenScript, Option, Phrase, Program, Reading, Result, ScriptLine, ScriptWord, Separators, Slot, Some, TooDeep, TooLong, UnknownName, Value, Verb, actor_below, actors_of, add_line, add_made, add_named, add_naming, add_runs, all-pass, any_name, any_number, any_ticket, ap, arith, body_after_header, body_line, body_words_of, bytes_eq, checked, closed_program, codes, command_from, command_line, cond, drop, each, each_pair, end_of, false, first_failing, first_line, fitting_line, form, header_in_order, header_line, header_words_of, if◌then◌else◌, in_time, is_full, is_good_name, is_ignored, is_late, is_long_name, lacks_duration, later_line, leb-false, length, length-append, line_inside, line_outside, lines_of, ltb-false, map, max, name_at_end, name_in, named_ticket, nat_le, nat_lt, new_name, not, number_between, number_named, numbered, opening_reading, or_parts, phrase_inside, phrases_inside, phrases_of, program_in, program_of, read_line, read_lines, refl, refused_on, run_of, script_line, script_names, script_number, script_words, separators_of, subst, sym, timed_script_words, token_line, tokens_of, true, unwrap_or, value_from, values_from, whole_program, with_header_word, with_line, without_end, word_in, ℕ, [], ⊤, ◌%◌, ◌&&◌, ◌++◌, ◌+◌, ◌-◌, ◌<◌, ◌==◌, ◌>>=◌, ◌^◌, ◌||◌, ◌∙◌, ◌∷◌, ◌≡◌, ◌≤◌}
use Rattle.lot_machine.specs.declared.reference.CurrencyRef.{CurrencyRef}
use Rattle.lot_machine.specs.declared.reference.CurrencyRef.TheVariants as currency_ref
use Rattle.lot_machine.specs.declared.reference.ThreadRef.{ThreadRef}
use Rattle.lot_machine.specs.declared.reference.ThreadRef.TheVariants as thread_ref
use Rattle.lot_machine.specs.declared.reference.TargetRef.{TargetRef}
use Rattle.lot_machine.specs.declared.reference.TargetRef.TheVariants as target_ref
use Rattle.lot_machine.specs.declared.arguments.Slot.TheVariants as slot
use Rattle.lot_machine.specs.Arguments as value
use Rattle.lot_machine.specs.declared.command.Verb.TheVariants as verb
use Rattle.lot_simulation.specs.declared.input.BodyWord.TheVariants as body
use Rattle.lot_simulation.specs.declared.input.HeaderWord.TheVariants as header
use Rattle.lot_simulation.specs.declared.input.InputRefusal.TheVariants.{OpenScript as ScriptIsOpen}
use Rattle.lot_simulation.specs.declared.input.Options.{Options}
use Rattle.lot_simulation.specs.declared.input.ScriptWord.TheVariants as script
use Rattle.lot_simulation.specs.declared.script.ScriptLine.TheVariants as line
use Rattle.lot_simulation.specs.Grammar.{option_line}
use Rattle.lot_simulation.specs.Lines.{number_of}
use Rattle.lot_simulation.specs.Words.{options_with}
use Rattle.lot_machine.specs.Actions.{with_numbers}

-- ---- answers

-- it holds of what is read, if anything is
record Reads {A E : Type 0} (read : Result A E) (P : A → Type 0) : Type 0 where
  pub holds : IfOk read P

-- it holds of a value that is read
reads : {A E : Type 0} (P : A → Type 0) (x : A) → P x → Reads {E = E} (Ok x) P
reads P x is = record { holds = is }

-- and where nothing is
refuses : {A E : Type 0} (P : A → Type 0) (e : E) → Reads {A = A} (Err e) P
refuses P e = record { holds = tt }

-- what is read after something of which this holds
then-read : {A B E : Type 0} {read : Result A E} {next : A → Result B E} (P : A → Type 0) (Q : B → Type 0)
    → Reads read P → ((x : A) → P x → Reads (next x) Q) → Reads (read >>= next) Q
then-read {read = Ok x} P Q first after = after x first.holds
then-read {read = Err e} P Q first after = refuses Q e

-- what is read after anything
any-read : {A B E : Type 0} (read : Result A E) {next : A → Result B E} (Q : B → Type 0) → ((x : A) → Reads (next x) Q)
    → Reads (read >>= next) Q
any-read (Ok x) Q after = after x
any-read (Err e) Q after = refuses Q e

-- what is read if no check fails
if-passes : {A : Type 0} (P : A → Type 0) (checks : List (Bool × InputRefusal)) (x : A)
    → (first_failing checks ≡ None → P x) → Reads (checked checks x) P
if-passes P checks x holds = at (first_failing checks) refl
  where
    at : (o : Option InputRefusal) → first_failing checks ≡ o → Reads (checked checks x) P
    at None is = rw is (reads P x (holds is))
    at (Some refusal) is = rw is (refuses P refusal)

-- where a count of at most 256 isn't full there is room for one more
room-for : (count : ℕ) → first_failing ((nat_le 256 count, TooLong) ∷ []) ≡ None → count < 256
room-for count passes = leb-false 256 count (all-pass ((nat_le 256 count, TooLong) ∷ []) passes).0

-- ---- tokens

-- a number is within its bounds
number-within : (first last : ℕ) (token : List ℕ) → Reads (number_between first last token) (IsBetween first last)
number-within first last token = at (number_of token) refl
  where
    at : (o : Option ℕ) → number_of token ≡ o → Reads (number_between first last token) (IsBetween first last)
    at None is = rw is (refuses (IsBetween first last) BadNumber)
    at (Some n) is =
        let checks = (nat_lt n first || nat_lt last n, BadNumber) ∷ [] in
        rw is
        (if-passes (IsBetween first last) checks n (λ passes.
        let parts = or_parts (nat_lt n first) (nat_lt last n) (all-pass checks passes).0 in
        (ltb-false n first parts.0, ltb-false last n parts.1)))

-- a name has at most 16 bytes
abbrev IsShortName : List ℕ → Type 0
IsShortName name = length name ≤ 16

-- and so is a name in a command
name-short : (token : List ℕ) → Reads (any_name token) IsShortName
name-short token =
    let checks = (is_long_name token, TooLong) ∷ [] in
    if-passes IsShortName checks token (λ passes. ltb-false 16 (length token) (all-pass checks passes).0)

-- ---- arguments

-- an argument of this kind; a name has at most 16 bytes
abbrev Given : Slot → Type 0
Given slot.Currency = CurrencyRef
Given slot.Target = TargetRef
Given slot.Thread = ThreadRef
Given slot.Name = (name : List ℕ) × IsShortName name
Given number = ℕ

-- as a value
abbrev as_value : (kind : Slot) → Given kind → Value
as_value slot.Amount amount = value.Amount amount
as_value slot.Ticket ticket = value.Ticket ticket
as_value slot.Currency currency = value.Currency currency
as_value slot.Target target = value.Target target
as_value slot.Thread thread = value.Thread thread
as_value slot.Name name = value.Name name.0
as_value slot.Script number = value.Script number

-- an argument of each kind
abbrev AllGiven : List Slot → Type 0
AllGiven [] = ⊤
AllGiven (kind ∷ kinds) = Given kind × AllGiven kinds

-- as values
abbrev as_values : (kinds : List Slot) → AllGiven kinds → List Value
as_values [] given = []
as_values (kind ∷ kinds) given = as_value kind given.0 ∷ as_values kinds given.1

-- the value is an argument of this kind, with a number in the place of a ticket's name
abbrev IsGiven : Slot → Value → Type 0
IsGiven kind w = (given : Given kind) × (numbered 0 w ≡ as_value kind given)

-- so is each, for its kind
abbrev AreGiven : List Slot → List Value → Type 0
AreGiven kinds values = (given : AllGiven kinds) × (map (numbered 0) values ≡ as_values kinds given)

-- the command with these arguments gives a thread a short name
command-short : (v : Verb) (given : AllGiven (form v)) → IfSome (command_from v (as_values (form v) given)) HasShortName
command-short verb.MakeThread given = given.0.1
command-short verb.MakeFunded given = given.1.1.0.1
command-short other given = tt

-- ---- what every reading has

-- the sizes that the header says, and how long the input runs
record AreSizes (processors quantum tickets currencies threads unit : ℕ) (duration : Option ℕ) : Type 0 where
  pub of_processors : IsBetween 1 64 processors
  pub of_quantum : IsBetween 1 1000 quantum
  pub of_tickets : IsBetween 1 65535 tickets
  pub of_currencies : IsBetween 1 4096 currencies
  pub of_threads : IsBetween 1 4096 threads
  pub of_unit : IsUnit unit
  pub time : unwrap_or duration 0 < 2 ^ 32

-- there are at most 256 scripts, with the one that isn't closed yet
abbrev HasScripts : ℕ → Option OpenScript → Type 0
HasScripts count unclosed = (count ≤ 256) × IfSome unclosed (λ _. count < 256)

-- Sizes are within their bounds, there are no more ports, mutexes and scripts than there may be, and names are short. It is no record, so
-- that a reading keeps it whose other fields alone have changed.
abbrev IsRead : Reading → Type 0
IsRead r =
    AreSizes r.processors r.quantum r.tickets r.currencies r.threads r.unit r.duration × (length r.ports ≤ 256)
    × (length r.mutexes ≤ 256) × HasScripts (length r.scripts) r.unclosed
    × All HasShortName r.commands

-- at the start
opening-read : (is_timed : Bool) (unit : ℕ) → IsUnit unit → IsRead (opening_reading is_timed unit)
opening-read is_timed unit is = (
  record {
    of_processors = omega arith;
    of_quantum = omega arith;
    of_tickets = omega arith;
    of_currencies = omega arith;
    of_threads = omega arith;
    of_unit = is;
    time = omega arith;
  },
  omega arith,
  omega arith,
  (omega arith, tt),
  All-nil HasShortName,
)

-- one command more, with a short name
naming-kept : (r : Reading) → IsRead r → (name : Option ℕ) (c : Command) → HasShortName c
    → Reads (add_naming r name c) IsRead
naming-kept r kept name c short =
    if-passes IsRead ((nat_le 100000 (length r.commands), TooLong) ∷ [])
    (record r { commands = r.commands ++ c ∷ []; names = r.names ++ in_time r name; times = r.times ++ in_time r r.time })
    (λ _. (kept.0, kept.1, kept.2, kept.3, All-push HasShortName r.commands c kept.4 short))

module _ (r : Reading) (kept : IsRead r) where
  -- ---- the header

  -- a reading with other sizes
  resized : (processors quantum tickets currencies threads : ℕ) (duration : Option ℕ)
      → AreSizes processors quantum tickets currencies threads r.unit duration
      → Reads {E = InputRefusal} (Ok (record r { processors = processors; quantum = quantum; tickets = tickets; currencies = currencies; threads = threads; duration = duration })) IsRead
  resized processors quantum tickets currencies threads duration sizes =
      reads IsRead (record r { processors = processors; quantum = quantum; tickets = tickets; currencies = currencies; threads = threads; duration = duration })
      (sizes, kept.1, kept.2, kept.3, kept.4)

  -- a line of the header that chooses options, if it chooses any
  option-kept : (tokens : List (List ℕ)) (chosen : Option Options) → Reads (option_line r tokens chosen) IsRead
  option-kept [] (Some options) =
      if-passes IsRead ((not r.is_timed, BadLine) ∷ []) (record r { options = options }) (λ _. kept)
  option-kept tokens chosen = refuses IsRead BadLine

  -- a line of the header
  header-kept : (word : HeaderWord) (tokens : List (List ℕ)) → Reads (header_line r word tokens) IsRead
  header-kept header.Processors (p ∷ []) =
      then-read (IsBetween 1 64) IsRead (number-within 1 64 p) (λ n within.
      let old = kept.0 in
      resized n r.quantum r.tickets r.currencies r.threads r.duration
      (record { of_processors = within; of_quantum = old.of_quantum; of_tickets = old.of_tickets; of_currencies = old.of_currencies; of_threads = old.of_threads; of_unit = old.of_unit; time = old.time }))
  header-kept header.Quantum (q ∷ []) =
      then-read (IsBetween 1 1000) IsRead (number-within 1 1000 q) (λ n within.
      let old = kept.0 in
      resized r.processors n r.tickets r.currencies r.threads r.duration
      (record { of_processors = old.of_processors; of_quantum = within; of_tickets = old.of_tickets; of_currencies = old.of_currencies; of_threads = old.of_threads; of_unit = old.of_unit; time = old.time }))
  header-kept header.Turns (t ∷ []) = any-read _ IsRead (λ n. reads IsRead (record r { turns = n }) kept)
  header-kept header.For (t ∷ []) =
      any-read (checked ((not r.is_timed, BadLine) ∷ []) t) IsRead
      (λ given. then-read (IsBetween 1 4294967295) IsRead (number-within 1 4294967295 given) (λ n within.
      let old = kept.0 in
      resized r.processors r.quantum r.tickets r.currencies r.threads (Some n)
      (record { of_processors = old.of_processors; of_quantum = old.of_quantum; of_tickets = old.of_tickets; of_currencies = old.of_currencies; of_threads = old.of_threads; of_unit = old.of_unit; time = omega (arith, within.1) })))
  header-kept header.Seed tokens =
      any-read (checked ((not (length tokens == r.processors), BadLine) ∷ []) tokens) IsRead (λ given. any-read
      (each (number_between 1 2147483646) given) IsRead (λ seeds. reads IsRead (record r { seeds = Some seeds }) kept))
  header-kept header.Limits (t ∷ c ∷ h ∷ []) =
      then-read (IsBetween 1 65535) IsRead (number-within 1 65535 t) (λ tickets of_tickets.
      then-read (IsBetween 1 4096) IsRead (number-within 1 4096 c) (λ currencies of_currencies.
      then-read (IsBetween 1 4096) IsRead (number-within 1 4096 h) (λ threads of_threads.
      let old = kept.0 in
      resized r.processors r.quantum tickets currencies threads r.duration
      (record { of_processors = old.of_processors; of_quantum = old.of_quantum; of_tickets = of_tickets; of_currencies = of_currencies; of_threads = of_threads; of_unit = old.of_unit; time = old.time }))))
  header-kept header.Without (mechanism ∷ []) = compensates (bytes_eq mechanism (codes "compensation"))
    where
      lends : (named : Bool)
          → Reads (if named then checked ((not r.is_timed, BadLine) ∷ (r.options.without_lending, BadHeader) ∷ [])
          (record r { options = record r.options { without_lending = true } }) else Err BadLine) IsRead
      lends true = if-passes IsRead ((not r.is_timed, BadLine) ∷ (r.options.without_lending, BadHeader) ∷ [])
          (record r { options = record r.options { without_lending = true } }) (λ _. kept)
      lends false = refuses IsRead BadLine

      compensates : (named : Bool)
          → Reads (if named then checked ((not r.is_timed, BadLine) ∷ (r.options.without_compensation, BadHeader) ∷ [])
          (record r { options = record r.options { without_compensation = true } })
          else if bytes_eq mechanism (codes "lending")
          then checked ((not r.is_timed, BadLine) ∷ (r.options.without_lending, BadHeader) ∷ [])
          (record r { options = record r.options { without_lending = true } })
          else Err BadLine) IsRead
      compensates true = if-passes IsRead ((not r.is_timed, BadLine) ∷ (r.options.without_compensation, BadHeader) ∷ [])
          (record r { options = record r.options { without_compensation = true } }) (λ _. kept)
      compensates false = lends (bytes_eq mechanism (codes "lending"))
  header-kept word tokens = option-kept tokens (options_with r.options word)

  -- if it doesn't come too late
  header-ordered : (word : HeaderWord) (tokens : List (List ℕ)) → Reads (header_in_order r word tokens) IsRead
  header-ordered word tokens = at (is_late r word)
    where
      at : (late : Bool) → Reads (checked ((late, BadHeader) ∷ []) r >>= λ before.
          header_line before word tokens >>= λ after. Ok (with_header_word after word)) IsRead
      at true = refuses IsRead BadHeader
      at false = then-read IsRead IsRead (header-kept word tokens) (λ after is. reads IsRead _ is)

  -- ---- scripts

  module _ (s : OpenScript) (room : length r.scripts < 256) where
    -- a script that isn't closed yet goes on
    script-goes_on : (next : OpenScript) (checks : List (Bool × InputRefusal))
        → Reads (checked checks (record r { unclosed = Some next })) IsRead
    script-goes_on next checks = if-passes IsRead checks (record r { unclosed = Some next })
        (λ _. (kept.0, kept.1, kept.2, (kept.3.0, room), kept.4))

    -- by a line
    line-kept : (l : ScriptLine) → Reads (add_line r s l) IsRead
    line-kept l = script-goes_on (with_line s l) ((is_full s, TooLong) ∷ [])

    -- a line of a script
    script-kept : (word : ScriptWord) (tokens : List (List ℕ)) → Reads (script_line r s word tokens) IsRead
    script-kept script.Compute (n ∷ []) = any-read _ IsRead (λ ticks. line-kept (line.Compute ticks))
    script-kept script.Set (n ∷ []) = any-read _ IsRead (λ number. line-kept (line.Set number))
    script-kept script.Add (n ∷ []) = any-read _ IsRead (λ number. line-kept (line.Add number))
    script-kept script.Loop (n ∷ []) =
        any-read _ IsRead (λ times. script-goes_on (record (with_line s (line.Loop times)) { loops = s.loops + 1 })
        ((nat_le 8 s.loops, TooDeep) ∷ (is_full s, TooLong) ∷ []))
    script-kept script.End [] = script-goes_on (record (with_line s line.End) { loops = s.loops - 1 })
        ((s.loops == 0, BadLine) ∷ (is_full s, TooLong) ∷ [])
    script-kept (script.Trap kind) tokens =
        any-read _ IsRead (λ number. line-kept (line.Trap (with_numbers kind number tt tt number)))
    script-kept script.EndScript [] =
        let closed = record { name = s.name; lines = s.lines } ∷ [] in
        if-passes IsRead ((nat_lt 0 s.loops, BadLine) ∷ [])
        (record r { unclosed = None; scripts = r.scripts ++ closed })
        (λ _. (kept.0, kept.1, kept.2, (omega (arith, room, length-append r.scripts closed), tt), kept.4))
    script-kept word tokens = refuses IsRead BadLine

    -- if its word is known
    inside-kept : (o : Option ScriptWord) (tokens : List (List ℕ)) → Reads (line_inside r s o tokens) IsRead
    inside-kept None tokens = refuses IsRead BadLine
    inside-kept (Some word) tokens = script-kept word tokens

  -- ---- the body

  -- a command that makes a ticket with a name
  named-kept : (token : List ℕ) (c : Command) → HasShortName c → Reads (add_named r token c) IsRead
  named-kept token c short =
      then-read IsRead IsRead
      (any-read (new_name r.ticket_names token) IsRead
      (λ name. if-passes IsRead ((nat_le 4096 (length r.ticket_names), TooLong) ∷ [])
      (record r { ticket_names = r.ticket_names ++ name ∷ [] }) (λ _. kept)))
      (λ named is. naming-kept named is (Some (length named.ticket_names)) c short)

  -- a command, if it is one
  made-kept : (name : Option (List ℕ)) (values : List Value) (made : Option Command) → IfSome made HasShortName
      → Reads (add_made r name values made) IsRead
  made-kept name values None short = refuses IsRead BadLine
  made-kept None values (Some c) short = naming-kept r kept (name_in values) c short
  made-kept (Some token) values (Some c) short = named-kept token c short

  -- a ticket
  ticket-given : (token : List ℕ) → Reads (any_ticket r token) (IsGiven slot.Ticket)
  ticket-given token = at (number_of token) refl
    where
      known : (o : Option ℕ) → Reads (named_ticket o) (IsGiven slot.Ticket)
      known None = refuses (IsGiven slot.Ticket) UnknownName
      known (Some name) = reads (IsGiven slot.Ticket) (value.NamedTicket name) (0, refl)

      named : (good : Bool) → Reads (if good then named_ticket (number_named r.ticket_names token) else Err BadNumber)
          (IsGiven slot.Ticket)
      named true = known (number_named r.ticket_names token)
      named false = refuses (IsGiven slot.Ticket) BadNumber

      at : (o : Option ℕ) → number_of token ≡ o → Reads (any_ticket r token) (IsGiven slot.Ticket)
      at (Some number) is = rw is (reads (IsGiven slot.Ticket) (value.Ticket number) (number, refl))
      at None is = rw is (named (r.is_timed && is_good_name token))

  -- an argument of a command
  value-given : (kind : Slot) (token : List ℕ) → Reads (value_from r kind token) (IsGiven kind)
  value-given slot.Amount token = any-read (any_number token) (IsGiven slot.Amount)
      (λ amount. reads (IsGiven slot.Amount) (value.Amount amount) (amount, refl))
  value-given slot.Ticket token = ticket-given token
  value-given slot.Currency token = any-read (any_name token) (IsGiven slot.Currency)
      (λ name. reads (IsGiven slot.Currency) (value.Currency (currency_ref.Named name)) (currency_ref.Named name, refl))
  value-given slot.Target token = any-read (any_name token) (IsGiven slot.Target)
      (λ name. reads (IsGiven slot.Target) (value.Target (target_ref.Named name)) (target_ref.Named name, refl))
  value-given slot.Thread token = any-read (any_name token) (IsGiven slot.Thread)
      (λ name. reads (IsGiven slot.Thread) (value.Thread (thread_ref.Named name)) (thread_ref.Named name, refl))
  value-given slot.Name token = then-read IsShortName (IsGiven slot.Name) (name-short token)
      (λ name short. reads (IsGiven slot.Name) (value.Name name) ((name, short), refl))
  value-given slot.Script token = any-read (script_number (script_names r) token) (IsGiven slot.Script)
      (λ number. reads (IsGiven slot.Script) (value.Script number) (number, refl))

  -- its arguments
  values-given : (kinds : List Slot) (tokens : List (List ℕ)) → Reads (values_from r kinds tokens) (AreGiven kinds)
  values-given [] tokens = reads (AreGiven []) [] (tt, refl)
  values-given (kind ∷ kinds) [] = refuses (AreGiven (kind ∷ kinds)) BadLine
  values-given (kind ∷ kinds) (token ∷ tokens) =
      then-read (IsGiven kind) (AreGiven (kind ∷ kinds)) (value-given kind token) (λ first (x, is).
      then-read (AreGiven kinds) (AreGiven (kind ∷ kinds)) (values-given kinds tokens) (λ others (xs, are).
      reads (AreGiven (kind ∷ kinds)) (first ∷ others)
      ((x, xs), ap (λ w. w ∷ map (numbered 0) others) is ∙ ap (λ ws. as_value kind x ∷ ws) are)))

  -- a line of a command
  command-kept : (v : Verb) (tokens : List (List ℕ)) → Reads (command_line r v tokens) IsRead
  command-kept v tokens =
      any-read (checked ((nat_lt (length tokens) (length (form v)), BadLine) ∷ []) tokens) IsRead
      (λ given. any-read (name_at_end r v (drop (length (form v)) given)) IsRead (λ name.
      then-read (AreGiven (form v)) IsRead (values-given (form v) given) (λ values (arguments, are).
      made-kept name values (command_from v (map (numbered 0) values))
      (subst (λ ws. IfSome (command_from v ws) HasShortName) (sym are) (command-short v arguments)))))

  -- a schedule that goes on by runs
  runs-kept : (runs : List ActorRun) → Reads (add_runs r runs) IsRead
  runs-kept runs =
      any-read _ IsRead (λ fitting. reads IsRead (record r { schedule = r.schedule ++ actors_of fitting }) kept)

  -- a line of the body
  body-kept : (n : ℕ) (word : BodyWord) (tokens : List (List ℕ)) → Reads (body_line n r word tokens) IsRead
  body-kept n body.Port (token ∷ []) =
      any-read _ IsRead (λ name. if-passes IsRead ((nat_le 256 (length r.ports), TooLong) ∷ [])
      (record r { ports = r.ports ++ name ∷ [] }) (λ passes.
      (kept.0, omega (arith, room-for (length r.ports) passes, length-append r.ports (name ∷ [])), kept.2, kept.3, kept.4)))
  body-kept n body.Mutex (token ∷ []) =
      any-read _ IsRead (λ name. if-passes IsRead ((nat_le 256 (length r.mutexes), TooLong) ∷ [])
      (record r { mutexes = r.mutexes ++ name ∷ [] }) (λ passes.
      (kept.0, kept.1, omega (arith, room-for (length r.mutexes) passes, length-append r.mutexes (name ∷ [])), kept.3, kept.4)))
  body-kept n body.Script (token ∷ []) =
      any-read _ IsRead (λ name. if-passes IsRead ((nat_le 256 (length r.scripts), TooLong) ∷ [])
      (record r { unclosed = Some (record { name = name; begins = n; lines = []; loops = 0 }) }) (λ passes.
      (kept.0, kept.1, kept.2, (kept.3.0, room-for (length r.scripts) passes), kept.4)))
  body-kept n (body.Command v) tokens = command-kept v tokens
  body-kept n body.At (t ∷ []) = any-read _ IsRead (λ time. reads IsRead (record r { time = time }) kept)
  body-kept n body.Schedule (first ∷ others) =
      any-read (checked ((r.is_timed, BadLine) ∷ []) (first ∷ others)) IsRead
      (λ tokens. any-read (each (actor_below r.processors) tokens) IsRead (λ actors.
      if-passes IsRead ((nat_lt 1000000 (length r.schedule + length actors), TooLong) ∷ [])
      (record r { schedule = r.schedule ++ actors }) (λ _. kept)))
  body-kept n body.Runs (first ∷ others) =
      any-read (checked ((r.unit == 1 || r.is_timed, BadLine) ∷ (length (first ∷ others) % 2 == 1, BadLine) ∷ [])
      (first ∷ others)) IsRead (λ tokens.
      any-read (each_pair (run_of r.processors) tokens) IsRead (λ runs. runs-kept runs))
  body-kept n word tokens = refuses IsRead BadLine

  -- which ends the header
  after-header : (n : ℕ) (word : BodyWord) (tokens : List (List ℕ)) → Reads (body_after_header n r word tokens) IsRead
  after-header n word tokens = then-read IsRead IsRead (body-kept n word tokens) (λ after is. reads IsRead _ is)

  -- a line outside scripts
  outside-kept : (n : ℕ) (word : Option HeaderWord) (other : Option BodyWord) (tokens : List (List ℕ))
      → Reads (line_outside n r word other tokens) IsRead
  outside-kept n (Some word) other tokens = header-ordered word tokens
  outside-kept n None (Some word) tokens = at (lacks_duration r)
    where
      at : (lacks : Bool)
          → Reads (checked ((lacks, BadHeader) ∷ []) r >>= λ before. body_after_header n before word tokens) IsRead
      at true = refuses IsRead BadHeader
      at false = after-header n word tokens
  outside-kept n None None tokens = refuses IsRead BadLine

-- ---- lines

-- a word of a line within a script, with what belongs to it
phrase-kept : (r : Reading) → IsRead r → (phrase : Phrase) → Reads (phrase_inside r r.unclosed phrase) IsRead
phrase-kept r kept phrase = at r.unclosed kept.3.1
  where
    at : (o : Option OpenScript) → IfSome o (λ _. length r.scripts < 256) → Reads (phrase_inside r o phrase) IsRead
    at None room = refuses IsRead BadLine
    at (Some s) room = inside-kept r kept s room (word_in timed_script_words phrase.word) phrase.tokens

-- the words of such a line, from left to right
phrases-kept : (r : Reading) → IsRead r → (phrases : List Phrase) → Reads (phrases_inside r phrases) IsRead
phrases-kept r kept [] = reads IsRead r kept
phrases-kept r kept (phrase ∷ phrases) =
    then-read IsRead IsRead (phrase-kept r kept phrase) (λ after is. phrases-kept after is phrases)

-- a line after the first
later-kept : (n : ℕ) (r : Reading) → IsRead r → (o : Option OpenScript) → IfSome o (λ _. length r.scripts < 256)
    → (word : List ℕ) (tokens : List (List ℕ)) → Reads (later_line n r o word tokens) IsRead
later-kept n r kept None room word tokens =
    outside-kept r kept n (word_in (header_words_of r) word) (word_in (body_words_of r) word) tokens
later-kept n r kept (Some s) room word tokens = at r.is_timed
  where
    at : (b : Bool) → Reads (cond b (phrases_inside r (phrases_of (word ∷ tokens)))
        (line_inside r s (word_in script_words word) tokens)) IsRead
    at true = phrases-kept r kept (phrases_of (word ∷ tokens))
    at false = inside-kept r kept s room (word_in script_words word) tokens

-- the first line
first-kept : (tokens : List (List ℕ)) → Reads (first_line tokens) IsRead
first-kept [] = refuses IsRead BadHeader
first-kept (word ∷ []) = refuses IsRead BadHeader
first-kept (word ∷ version ∷ []) =
    at (bytes_eq word (codes "lottery") && bytes_eq version (codes "1")) (bytes_eq word
    (codes "lottery") && bytes_eq version (codes "2")) (bytes_eq word (codes "lottery") && bytes_eq version (codes "3"))
  where
    at : (a b c : Bool) → Reads (cond a (Ok (opening_reading false 1))
        (cond b (Ok (opening_reading false 256)) (cond c (Ok (opening_reading true 256)) (Err BadHeader)))) IsRead
    at true b c = reads IsRead (opening_reading false 1) (opening-read false 1 refl)
    at false true c = reads IsRead (opening_reading false 256) (opening-read false 256 refl)
    at false false true = reads IsRead (opening_reading true 256) (opening-read true 256 refl)
    at false false false = refuses IsRead BadHeader
first-kept (word ∷ version ∷ more ∷ others) = refuses IsRead BadHeader

-- a line that isn't ignored
token-kept : (n : ℕ) (reading : Option Reading) → IfSome reading IsRead → (tokens : List (List ℕ))
    → Reads (token_line n reading tokens) IsRead
token-kept n None is tokens = first-kept tokens
token-kept n (Some r) kept [] = reads IsRead r kept
token-kept n (Some r) kept (word ∷ tokens) = later-kept n r kept r.unclosed kept.3.1 word tokens

-- what has been read, if anything has
abbrev IsReadSoFar : Option Reading → Type 0
IsReadSoFar reading = IfSome reading IsRead

-- a line, ignored or not
fitting-kept : (n : ℕ) (reading : Option Reading) (s : Separators) (line : List ℕ) (is_skipped : Bool)
    → IsReadSoFar reading → Reads (fitting_line n reading s line is_skipped) IsReadSoFar
fitting-kept n reading s line true is = reads IsReadSoFar reading is
fitting-kept n reading s line false is = any-read _ IsReadSoFar (λ whole. then-read IsRead IsReadSoFar
    (token-kept n reading is (tokens_of s whole)) (λ after so_far. reads IsReadSoFar (Some after) so_far))

-- a line that may be too long
line-read : (n end : ℕ) (reading : Option Reading) (line : List ℕ) → IsReadSoFar reading
    → Reads (read_line n end reading line) IsReadSoFar
line-read n end reading line is =
    let checks = (nat_lt 4096 (length line) || nat_lt 16777216 end, TooLong) ∷ [] in
    any-read (checked checks line) IsReadSoFar (λ whole. fitting-kept n reading (separators_of reading whole) whole
    (is_ignored (tokens_of (separators_of reading whole) whole)) is)

-- what is refused is refused on a line
refused-kept : {A : Type 0} (P : A → Type 0) (n : ℕ) (read : Result A InputRefusal) → Reads read P
    → Reads (refused_on n read) P
refused-kept P n (Ok x) is = reads P x is.holds
refused-kept P n (Err refusal) is = refuses P (record { line = n; refusal = refusal })

-- all lines
lines-read : (n start : ℕ) (reading : Option Reading) (lines : List (List ℕ)) → IsReadSoFar reading
    → Reads (read_lines n start reading lines) IsReadSoFar
lines-read n start reading [] is = reads IsReadSoFar reading is
lines-read n start reading (line ∷ lines) is =
    let read = read_line n (start + length line) reading (without_end line) in
    then-read IsReadSoFar IsReadSoFar
    (refused-kept IsReadSoFar n read (line-read n (start + length line) reading (without_end line) is))
    (λ after so_far. lines-read (n + 1) (start + length line) after lines so_far)

-- ---- a whole input

-- what this file shows of every program that is read
pub record IsReadProgram (program : Program) : Type 0 where
  pub bounds : IsWithinBounds program.limits
  pub names : All HasShortName program.commands
  pub time : end_of program < 2 ^ 32

-- the program of a reading
program-of : (r : Reading) → IsRead r → IsReadProgram (program_of r)
program-of r kept = record {
  bounds = record {
    of_tickets = kept.0.of_tickets;
    of_currencies = kept.0.of_currencies;
    of_threads = kept.0.of_threads;
    of_ports = (omega arith, kept.1);
    of_mutexes = (omega arith, kept.2);
    of_processors = kept.0.of_processors;
    of_scripts = (omega arith, kept.3.0);
    of_quantum = kept.0.of_quantum;
    of_unit = kept.0.of_unit;
  };
  names = kept.4;
  time = kept.0.time;
}

-- what was read of a whole input
whole-read : (count : ℕ) (reading : Option Reading) → IsReadSoFar reading
    → Reads (whole_program count reading) IsReadProgram
whole-read count None is = refuses IsReadProgram (record { line = max 1 count; refusal = BadHeader })
whole-read count (Some r) kept = at (lacks_duration r) r.unclosed
  where
    at : (lacks : Bool) (o : Option OpenScript) → Reads
        (cond lacks (Err (record { line = max 1 count; refusal = BadHeader })) (closed_program r o)) IsReadProgram
    at true o = refuses IsReadProgram (record { line = max 1 count; refusal = BadHeader })
    at false None = reads IsReadProgram (program_of r) (program-of r kept)
    at false (Some s) = refuses IsReadProgram (record { line = s.begins; refusal = ScriptIsOpen })

-- every program that is read
pub program-read : (bytes : List ℕ) (program : Program) → program_in bytes ≡ Ok program → IsReadProgram program
program-read bytes program is =
    let read : Reads (program_in bytes) IsReadProgram = then-read IsReadSoFar IsReadProgram
    (lines-read 1 0 None (lines_of bytes) tt) (whole-read (length (lines_of bytes))) in
    subst (λ result. IfOk result IsReadProgram) is read.holds
