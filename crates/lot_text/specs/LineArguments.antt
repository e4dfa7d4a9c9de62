-- The arguments on a line.
use Rattle.std.specs.Prelude.{ℕ, ⊤, Option, Some, unwrap_or, Result, Ok, Err, List, [], ◌∷◌}
use Rattle.lot_machine.specs.declared.arguments.Slot.{Slot}
use Rattle.lot_machine.specs.Arguments.{Value, NamedTicket}
use Rattle.lot_machine.specs.Bounds.{IsBetween}
use Rattle.lot_simulation.specs.declared.forms.Argument.{Argument}
use Rattle.lot_simulation.specs.declared.forms.Argument.TheVariants.{Number}
use Rattle.lot_simulation.specs.declared.input.InputRefusal.{InputRefusal}
use Rattle.lot_simulation.specs.declared.input.InputRefusal.TheVariants.{BadLine}
use Rattle.lot_simulation.specs.Reading.{Reading, ◌>>=◌}
use Rattle.lot_simulation.specs.Grammar.{numbered, value_from}

-- The arguments that are left: their tokens, which mean what they do after this reading, and the number of the name of
-- the first ticket so far that has one.
pub record LineTokens : Type 0 where
  pub reading : Reading
  pub tokens : List (List ℕ)
  pub name : Option ℕ

-- the number of the name of the first ticket that has one, with this argument after those so far
abbrev pub name_with : Value → Option ℕ → Option ℕ
name_with (NamedTicket name) so_far = Some (unwrap_or so_far name)
name_with other so_far = so_far

-- the argument of this kind that the next token means; a ticket that has a name is given as ticket 0
abbrev pub token_given : LineTokens → Slot → Result (Value × LineTokens) InputRefusal
token_given line kind = first line.tokens
  where
    first : List (List ℕ) → Result (Value × LineTokens) InputRefusal
    first [] = Err BadLine
    first (token ∷ tokens) = do
      given ← value_from line.reading kind token
      Ok (numbered 0 given, record line { tokens = tokens; name = name_with given line.name })

-- whether a word of a script with these arguments can have the number that they give
abbrev pub Fits : List Argument → ℕ → Type 0
Fits (Number range ∷ []) n = IsBetween range.first range.last n
Fits other n = ⊤
