-- The funding at a lottery: the active tickets, and the currencies that issue them.
use Rattle.std.specs.Prelude.{ℕ, ◌==◌, Option, Some, None, List, [], ◌++◌, length, if◌then◌else◌}
use Rattle.std.specs.List.{flat_map, range_with_len}
use Rattle.lot_machine.specs.declared.row.CurrencyRow.{CurrencyRow}
use Rattle.lot_machine.specs.declared.row.TicketRow.{TicketRow}
use Rattle.lot_machine.specs.Numbered.{numbers}
use Rattle.lot_machine.specs.Rows.{currency_row, ticket_row}
use Rattle.lot_machine.specs.State.{State}
use Rattle.lot_simulation.specs.declared.style.LineStyle.{LineStyle}
use Rattle.lot_simulation.specs.declared.style.LineStyle.TheVariants.{Whole, Timed}
use Rattle.lot_print.specs.declared.lots.Lottery.{Lottery}
use Rattle.lot_print.specs.declared.lots.Lottery.TheVariants.{OfProcessor, OfMutex}
use Rattle.lot_print.specs.Funds.{currency_funds_line, ticket_funds_line}
use Rattle.lot_explain.specs.declared.detail.Detail.{Detail}
use Rattle.lot_explain.specs.declared.detail.Detail.TheVariants.{Lots, Funding}
use Rattle.lot_explain.specs.declared.won.Won.{Won}

-- the line of a ticket with this row, if it exists and is active
abbrev pub row_funds : LineStyle → ℕ → ℕ → ℕ → Option TicketRow → List ℕ
row_funds style unit actor n None = []
row_funds style unit actor n (Some row) = if row.is_active then ticket_funds_line style unit actor n row else []

-- the line of the ticket with this number
abbrev pub ticket_funds : LineStyle → ℕ → ℕ → State → ℕ → List ℕ
ticket_funds style unit actor s n = row_funds style unit actor n (ticket_row s n)

-- the line of a currency with this row, if it exists and has an active amount
abbrev pub row_shared : LineStyle → ℕ → ℕ → ℕ → Option CurrencyRow → List ℕ
row_shared style unit actor c None = []
row_shared style unit actor c (Some row) = if row.active_amount == 0 then [] else currency_funds_line style unit actor c row

-- the line of the currency with this number
abbrev pub currency_funds : LineStyle → ℕ → ℕ → State → ℕ → List ℕ
currency_funds style unit actor s c = row_shared style unit actor c (currency_row s c)

-- the lines of the active tickets, and then those of the currencies with an active amount, base first (4.4)
abbrev pub funding_lines : LineStyle → ℕ → ℕ → State → List ℕ
funding_lines style unit actor s =
    flat_map (ticket_funds style unit actor s) (numbers s.tickets) ++ flat_map (currency_funds style unit actor s) (range_with_len 0 (length s.currencies))

-- the funding in timed style
abbrev pub funding_text : LineStyle → ℕ → ℕ → State → List ℕ
funding_text Whole unit actor s = []
funding_text (Timed time) unit actor s = funding_lines (Timed time) unit actor s

-- the funding at a processor's lottery
abbrev pub funding_at : Lottery → LineStyle → ℕ → ℕ → State → List ℕ
funding_at OfProcessor style unit actor s = funding_text style unit actor s
funding_at OfMutex style unit actor s = []

-- the funding at a lottery that was won
abbrev pub funding_if_won : Option Won → LineStyle → ℕ → ℕ → State → List ℕ
funding_if_won None style unit actor s = []
funding_if_won (Some won) style unit actor s = funding_at won.lottery style unit actor s

-- the same, if this detail has it
abbrev pub funding_in : Detail → Option Won → LineStyle → ℕ → ℕ → State → List ℕ
funding_in Lots won style unit actor s = []
funding_in Funding won style unit actor s = funding_if_won won style unit actor s
