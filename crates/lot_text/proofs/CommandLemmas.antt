-- Lines of commands, by their tokens.
use Rattle.lot_text.proofs.Common.{BadLine, Bool, Command, Err, InputRefusal, List, None, Ok, Option, Reading, Result, Slot, Some, Value, Verb, add_made, add_named, add_naming, ap, arith, checked, command_from, command_line, drop, false, false≢true, form, le-ltb, length, map, name_at_end, name_in, nat_lt, numbered, refl, sym, true, values_from, ℕ, [], ◌>>=◌, ◌∙◌, ◌∷◌, ◌≡◌, ◌≤◌}
use Rattle.std.specs.Prelude.{is_err}
use Rattle.lot_machine.specs.Arguments.{NamedTicket}
use Rattle.lot_machine.specs.Verbs.{command_given, values_given}
use Rattle.lot_simulation.specs.Grammar.{value_from}
use Rattle.lot_text.specs.LineArguments.{LineTokens, name_with, token_given}

-- ---- the arguments one after the other

-- the number of the name of the first ticket that has one, with these arguments after those so far
abbrev names : List Value → Option ℕ → Option ℕ
names [] so_far = so_far
names (v ∷ values) so_far = names values (name_with v so_far)

-- the first name stays
names-kept : (values : List Value) (name : ℕ) → names values (Some name) ≡ Some name
names-kept [] name = refl
names-kept (v ∷ values) name = ap (names values) (kept v) ∙ names-kept values name
  where
    kept : (v : Value) → name_with v (Some name) ≡ Some name
    kept (NamedTicket other) = refl
    kept other = refl

names-first : (values : List Value) → names values None ≡ name_in values
names-first [] = refl
names-first (NamedTicket name ∷ values) = names-kept values name
names-first (other ∷ values) = names-first values

-- these arguments as the line gives them, and what is left of the line
abbrev given-of : Reading → List (List ℕ) → Option ℕ → List Value → Result (List Value × LineTokens) InputRefusal
given-of r rest name values =
    Ok (map (numbered 0) values, record { reading = r; tokens = rest; name = names values name })

-- one argument more in front
abbrev onto : Value → List Value × LineTokens → Result (List Value × LineTokens) InputRefusal
onto v given = Ok (v ∷ given.0, given.1)

-- the arguments from their tokens are those that are given one after the other
values-given : (r : Reading) (kinds : List Slot) (tokens : List (List ℕ)) (name : Option ℕ)
    → values_given token_given kinds (record { reading = r; tokens = tokens; name = name })
    ≡ (values_from r kinds tokens >>= given-of r (drop (length kinds) tokens) name)
values-given r [] tokens name = refl
values-given r (kind ∷ kinds) [] name = refl
values-given r (kind ∷ kinds) (token ∷ tokens) name =
    at (λ v. values-given r kinds tokens (name_with v name)) (value_from r kind token) refl
  where
    at : ((v : Value)
        → values_given token_given kinds (record { reading = r; tokens = tokens; name = name_with v name })
        ≡ (values_from r kinds tokens >>= given-of r (drop (length kinds) tokens) (name_with v name)))
        → (first : Result Value InputRefusal) → value_from r kind token ≡ first
        → values_given token_given (kind ∷ kinds) (record { reading = r; tokens = token ∷ tokens; name = name })
        ≡ (values_from r (kind ∷ kinds) (token ∷ tokens) >>= given-of r (drop (length kinds) tokens) name)
    at others (Err refusal) is = rw is refl
    at others (Ok v) is = rw (is, others v) (rest (values_from r kinds tokens))
      where
        rest : (others : Result (List Value) InputRefusal)
            → ((others >>= given-of r (drop (length kinds) tokens) (name_with v name)) >>= onto (numbered 0 v))
            ≡ ((others >>= λ values. Ok (v ∷ values)) >>= given-of r (drop (length kinds) tokens) name)
        rest (Err refusal) = refl
        rest (Ok values) = refl

-- the reading after this command, whose ticket has this name, or which names the ticket with this number of a name
abbrev pub add_given : Reading → Option (List ℕ) → Option ℕ → Option Command → Result Reading InputRefusal
add_given r name named None = Err BadLine
add_given r None named (Some c) = add_naming r named c
add_given r (Some token) named (Some c) = add_named r token c

add-given : (r : Reading) (name : Option (List ℕ)) (values : List Value) (c : Option Command)
    → add_made r name values c ≡ add_given r name (name_in values) c
add-given r name values None = refl
add-given r None values (Some c) = refl
add-given r (Some token) values (Some c) = refl

-- the command of these arguments
abbrev made-of : Verb → List Value × LineTokens → Result (Option Command × LineTokens) InputRefusal
made-of v given = Ok (command_from v given.0, given.1)

-- as many arguments are read as there are kinds
values-count : (r : Reading) (kinds : List Slot) (tokens : List (List ℕ)) (values : List Value)
    → values_from r kinds tokens ≡ Ok values → length kinds ≤ length tokens
values-count r [] tokens values is = omega arith
values-count r (kind ∷ kinds) [] values is = absurd (false≢true (ap is_err (sym is)))
values-count r (kind ∷ kinds) (token ∷ tokens) values is =
    at (values-count r kinds tokens) (value_from r kind token) refl (values_from r kinds tokens) refl
  where
    at : ((others : List Value) → values_from r kinds tokens ≡ Ok others → length kinds ≤ length tokens)
        → (first : Result Value InputRefusal) → value_from r kind token ≡ first
        → (others : Result (List Value) InputRefusal) → values_from r kinds tokens ≡ others
        → length (kind ∷ kinds) ≤ length (token ∷ tokens)
    at count (Err refusal) first others rest = absurd (false≢true (ap is_err (sym is ∙ failed)))
      where
        failed : values_from r (kind ∷ kinds) (token ∷ tokens) ≡ Err refusal
        failed = rw first refl
    at count (Ok v) first (Err refusal) rest = absurd (false≢true (ap is_err (sym is ∙ failed)))
      where
        failed : values_from r (kind ∷ kinds) (token ∷ tokens) ≡ Err refusal
        failed = rw (first, rest) refl
    at count (Ok v) first (Ok others) rest = omega (arith, count others rest)

-- why a line is refused of which an argument is: it ends too early or badly, or for that argument
abbrev pub refused : Reading → Verb → List (List ℕ) → InputRefusal → Result Reading InputRefusal
refused r v tokens refusal = checked ((nat_lt (length tokens) (length (form v)), BadLine) ∷ []) tokens >>= λ given.
    name_at_end r v (drop (length (form v)) given) >>= λ name. Err refusal

-- the reading after a line, by the command that its arguments make and what they leave of it
abbrev pub read-of : Reading → Verb → List (List ℕ) → Result (Option Command × LineTokens) InputRefusal
    → Result Reading InputRefusal
read-of r v tokens (Ok made) = name_at_end r v made.1.tokens >>= λ name. add_given r name made.1.name made.0
read-of r v tokens (Err refusal) = refused r v tokens refusal

-- a line of a command is read from left to right
pub line-read : (r : Reading) (v : Verb) (tokens : List (List ℕ))
    → command_line r v tokens
    ≡ read-of r v tokens (command_given token_given v (record { reading = r; tokens = tokens; name = None }))
line-read r v tokens =
    let made : command_given token_given v (record { reading = r; tokens = tokens; name = None })
    ≡ ((values_from r (form v) tokens >>= given-of r (drop (length (form v)) tokens) None) >>= made-of v) =
    ap (λ all. all >>= made-of v) (values-given r (form v) tokens None) in
    rw made (at (values_from r (form v) tokens) refl)
  where
    at : (all : Result (List Value) InputRefusal) → values_from r (form v) tokens ≡ all
        → command_line r v tokens
        ≡ read-of r v tokens ((all >>= given-of r (drop (length (form v)) tokens) None) >>= made-of v)
    at (Err refusal) is = early (nat_lt (length tokens) (length (form v))) refl
      where
        early : (e : Bool) → nat_lt (length tokens) (length (form v)) ≡ e
            → command_line r v tokens ≡ refused r v tokens refusal
        early true short = rw short refl
        early false long = rw (long, is) refl
    at (Ok values) is =
        let enough : nat_lt (length tokens) (length (form v)) ≡ false =
        le-ltb (length tokens) (length (form v)) (values-count r (form v) tokens values is) in
        rw (enough, is) (rest (name_at_end r v (drop (length (form v)) tokens)))
      where
        rest : (end : Result (Option (List ℕ)) InputRefusal)
            → (end >>= λ name. add_made r name values (command_from v (map (numbered 0) values)))
            ≡ (end >>= λ name. add_given r name (names values None) (command_from v (map (numbered 0) values)))
        rest (Err refusal) = refl
        rest (Ok name) = add-given r name values (command_from v (map (numbered 0) values))
            ∙ ap (λ named. add_given r name named (command_from v (map (numbered 0) values))) (sym (names-first values))

-- a line with enough
pub refused-behind : (r : Reading) (v : Verb) (tokens rest : List (List ℕ)) (refusal : InputRefusal)
    → (rest ≡ drop (length (form v)) tokens) × (length (form v) ≤ length tokens)
    → refused r v tokens refusal ≡ (name_at_end r v rest >>= λ name. Err refusal)
refused-behind r v tokens rest refusal (is, long) = rw (is, le-ltb (length tokens) (length (form v)) long) refl
