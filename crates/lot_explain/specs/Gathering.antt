-- Lots and loans gathered before a turn.
use Rattle.std.specs.Prelude.{ℕ, List, [], ◌∷◌, if◌then◌else◌}
use Rattle.lot_machine.specs.Numbered.{option_any}
use Rattle.lot_machine.specs.State.{State, is_ready, status_of}
use Rattle.lot_print.specs.declared.loans.Loan.{Loan}
use Rattle.lot_print.specs.declared.lots.Lot.{Lot}
use Rattle.lot_explain.specs.Lots.{ready_lot}

-- the gathered lots and loans, and the capacity in threads
pub record Gathered : Type 0 where
  pub lots : List Lot
  pub loans : List Loan
  pub room : ℕ

-- the list of the thread's lot if it is Ready, and the empty list otherwise
abbrev pub lot_if_ready : State → ℕ → List Lot
lot_if_ready s t = if option_any is_ready (status_of s.records t) then ready_lot s t ∷ [] else []
