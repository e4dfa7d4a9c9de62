-- The text of blocked threads' loans.
use Rattle.std.specs.Prelude.{ℕ, List, ◌++◌, codes}
use Rattle.std.specs.Fmt.{decimal}
use Rattle.lot_simulation.specs.declared.style.LineStyle.{LineStyle}
use Rattle.lot_simulation.specs.Texts.{front, newline, value_text}
use Rattle.lot_print.specs.declared.loans.Loan.{Loan}

-- the line of a thread that lends: its value, as in listings, and the borrower (4.6, 6.1)
abbrev pub loan_line : LineStyle → ℕ → ℕ → Loan → List ℕ
loan_line style unit actor loan =
    front style ++ (decimal actor ++ (codes " lent thread " ++ (decimal loan.thread ++ (codes " " ++ (loan.name
    ++ (codes " value " ++ (value_text style unit loan.value ++ (codes " to thread " ++ (decimal loan.to ++ newline)))))))))
