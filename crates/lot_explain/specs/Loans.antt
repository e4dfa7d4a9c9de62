-- The loans at a lottery: the values that blocked threads lend, and the borrowers.
use Rattle.std.specs.Prelude.{◌≡◌, ℕ, ◌<◌, ◌==◌, ◌||◌, Option, Some, None, is_none, List, [], ◌∷◌, if◌then◌else◌}
use Rattle.std.specs.List.{flat_map}
use Rattle.lot_machine.specs.declared.record.Status.{Status}
use Rattle.lot_machine.specs.declared.record.Status.TheVariants.{Served, Waiting}
use Rattle.lot_machine.specs.declared.row.ThreadRow.{ThreadRow}
use Rattle.lot_machine.specs.Lends.{LendsTo}
use Rattle.lot_machine.specs.Mutexes.{mutex_at}
use Rattle.lot_machine.specs.Numbered.{numbers}
use Rattle.lot_machine.specs.Rows.{thread_row}
use Rattle.lot_machine.specs.State.{State, funding_of, value_of}
use Rattle.lot_simulation.specs.declared.style.LineStyle.{LineStyle}
use Rattle.lot_simulation.specs.declared.style.LineStyle.TheVariants.{Whole, Timed}
use Rattle.lot_print.specs.declared.loans.Loan.{Loan}
use Rattle.lot_print.specs.Loans.{loan_line}

-- the direct borrower from a thread with this status: its server, or the owner of the mutex (4.6, 6.1)
abbrev pub lends_to : State → Status → Option ℕ
lends_to s (Served server) = Some server
lends_to s (Waiting m) = (mutex_at s.mutexes m).owner
lends_to s other = None

-- the loan of a thread with this row to another, if its value is above 0 and the other exists
abbrev pub loan_to : State → ℕ → ThreadRow → Option ℕ → List Loan
loan_to s t row None = []
loan_to s t row (Some to) =
    if (row.value == 0) || is_none (thread_row s to) then [] else record { thread = t; name = row.name; value = row.value; to = to } ∷ []

-- the loan of a thread with this row: all its value, to its borrower (4.6, 6.1)
abbrev pub loan_in : State → ℕ → Option ThreadRow → List Loan
loan_in s t None = []
loan_in s t (Some row) = loan_to s t row (lends_to s row.status)

-- the thread's loan, if it lends
abbrev pub loan_of : State → ℕ → List Loan
loan_of s t = loan_in s t (thread_row s t)

-- all loans, by ascending number of the lender
abbrev pub all_loans : State → List Loan
all_loans s = flat_map (loan_of s) (numbers s.records)

-- the thread lends its value, which isn't 0, to this borrower (4.6, 6.1)
pub record IsLent (s : State) (loan : Loan) : Type 0 where
  pub lends : LendsTo (funding_of s) loan.thread loan.to
  pub value : loan.value ≡ value_of s loan.thread
  pub some : 0 < loan.value

-- the lines of loans, in timed style
abbrev pub loan_lines : LineStyle → ℕ → ℕ → List Loan → List ℕ
loan_lines Whole unit actor loans = []
loan_lines (Timed time) unit actor loans = flat_map (loan_line (Timed time) unit actor) loans
