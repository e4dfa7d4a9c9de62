-- The currencies above a thread.
use Rattle.std.specs.Prelude.{ℕ, Bool, List, length, drop}
use Rattle.std.specs.List.{list_any}
use Rattle.lot_machine.specs.Funding.{Funding, backing_thread, reaches_within}
use Rattle.lot_machine.specs.Numbered.{numbers}
use Rattle.lot_machine.specs.State.{State, funding_of, live_of}
use Rattle.lot_machine.specs.Value.{currency_value, lenders_to}

-- whether a chain of tickets, active or not, leads from the currency to the thread (4.4)
abbrev pub funds_thread : Funding → ℕ → ℕ → Bool
funds_thread f c t = list_any (λ ticket. reaches_within (length f.currencies) f c ticket.issuer) (backing_thread f t)

-- whether the thread stands below the currency: a chain of tickets leads from the currency to it, or to a thread whose
-- lends lead to it (4.4, 4.6, 6.1)
abbrev pub stands_below : State → ℕ → ℕ → Bool
stands_below s c t = list_any (funds_thread (funding_of s) c) (lenders_to (funding_of s) t)

-- the numbers that currencies other than base have had
abbrev pub currency_numbers : State → List ℕ
currency_numbers s = numbers (drop 1 s.currencies)

-- the currency's value, in base units (4.4)
abbrev pub worth_of : State → ℕ → ℕ
worth_of s c = currency_value s.limits.unit (funding_of s) (live_of s) c
