-- A command read as a verb with arguments one after the other, and written as one.
use Rattle.std.specs.Prelude.{ℕ, Option, Result, Ok, Err, List, [], ◌∷◌, map, unwrap_or}
use Rattle.lot_machine.specs.declared.arguments.Slot.{Slot}
use Rattle.lot_machine.specs.declared.command.Command.{Command}
use Rattle.lot_machine.specs.declared.command.Verb.{Verb}
use Rattle.lot_machine.specs.Arguments.{Value}
use Rattle.lot_machine.specs.Arguments as value
use Rattle.lot_machine.specs.Commands.{command_from, form, parts}

infixl 10 ◌>>=◌
-- continues with the value; a refusal stops here
abbrev pub ◌>>=◌ : {A B E : Type 0} → Result A E → (A → Result B E) → Result B E
(Ok x) >>= f = f x
(Err e) >>= f = Err e

-- what is made of the value, and the rest behind it
abbrev pub with_rest : {A B S E : Type 0} → (A → B) → S → Result A E → Result (B × S) E
with_rest make rest result = do
  x ← result
  Ok (make x, rest)

-- the arguments of these kinds that a source gives, and what comes after them
abbrev pub values_given : {S E : Type 0} → (S → Slot → Result (Value × S) E) → List Slot → S → Result (List Value × S) E
values_given gives [] source = Ok ([], source)
values_given gives (kind ∷ kinds) source = do
  first ← gives source kind
  others ← values_given gives kinds first.1
  Ok (first.0 ∷ others.0, others.1)

-- the command with this verb, of the arguments that a source gives, and what comes after them
abbrev pub command_given : {S E : Type 0} → (S → Slot → Result (Value × S) E) → Verb → S → Result (Option Command × S) E
command_given gives v source = do
  given ← values_given gives (form v) source
  Ok (command_from v given.0, given.1)

-- the fact holds of each argument, for its kind
abbrev pub EachTaken : (Slot → Value → Type 0) → List Slot → List Value → Type 0
EachTaken taken [] [] = Unit {0}
EachTaken taken (kind ∷ kinds) (v ∷ values) = taken kind v × EachTaken taken kinds values
EachTaken taken kinds values = ⊥

-- ---- another ticket

-- this ticket in the place of an argument that is a ticket
abbrev pub with_other_ticket : ℕ → Value → Value
with_other_ticket ticket (value.Ticket t) = value.Ticket ticket
with_other_ticket ticket other = other

-- the command for this ticket, if it is one for a ticket
abbrev pub for_ticket : ℕ → Command → Command
for_ticket ticket c = unwrap_or (command_from (parts c).0 (map (with_other_ticket ticket) (parts c).1)) c
