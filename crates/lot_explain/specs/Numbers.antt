-- The numbers of each lot.
use Rattle.std.specs.Prelude.{◌≡◌, ℕ, ◌+◌, ◌<◌, ◌≤◌, Option, Some, None, List, ◌∷◌, ◌++◌}
use Rattle.lot_machine.specs.declared.reply.Outcome.TheVariants.{Passed}
use Rattle.lot_machine.specs.declared.reply.Reply.{Reply}
use Rattle.lot_machine.specs.declared.reply.Reply.TheVariants.{Trapped, Winner}
use Rattle.lot_print.specs.declared.lots.Lot.{Lot}
use Rattle.lot_explain.specs.Lots.{total_of}

-- the drawn number, if the reply is that of a lottery
abbrev pub number_in : Reply → Option ℕ
number_in (Winner t number total delivered) = Some number
number_in (Trapped t ticks (Passed to (Some drawn)) ends) = Some drawn.0
number_in other = None

-- The number is one of this lot's: these start with the total weight of the lots before it, and are as many as its own
-- weight.
pub record HasNumber (lots : List Lot) (number : ℕ) (lot : Lot) : Type 0 where
  pub before : List Lot
  pub after : List Lot
  pub place : lots ≡ before ++ lot ∷ after
  pub from : total_of before ≤ number
  pub below : number < total_of before + lot.weight
