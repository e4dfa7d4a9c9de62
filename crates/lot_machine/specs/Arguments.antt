-- The arguments of commands.
use Rattle.std.specs.Prelude.{ℕ, List}
use Rattle.lot_machine.specs.declared.reference.CurrencyRef.{CurrencyRef}
use Rattle.lot_machine.specs.declared.reference.TargetRef.{TargetRef}
use Rattle.lot_machine.specs.declared.reference.ThreadRef.{ThreadRef}

-- An argument of a command. A named ticket is one whose number is open: it has the number of its name among the names
-- of tickets, from 1.
pub data Value : Type 0 where
  Amount : ℕ → Value
  Ticket : ℕ → Value
  NamedTicket : ℕ → Value
  Currency : CurrencyRef → Value
  Target : TargetRef → Value
  Thread : ThreadRef → Value
  Name : List ℕ → Value
  Script : ℕ → Value
