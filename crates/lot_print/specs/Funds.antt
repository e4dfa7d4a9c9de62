-- Lines that show how tickets and currencies fund a lottery.
use Rattle.std.specs.Prelude.{ℕ, List, [], ◌++◌, codes, unwrap_or}
use Rattle.std.specs.Fmt.{decimal}
use Rattle.lot_machine.specs.declared.row.CurrencyRow.{CurrencyRow}
use Rattle.lot_machine.specs.declared.row.TicketRow.{TicketRow}
use Rattle.lot_machine.specs.declared.ticket.Target.{Target}
use Rattle.lot_machine.specs.declared.ticket.Target.TheVariants.{Unfunded, Currency, Thread}
use Rattle.lot_simulation.specs.declared.style.LineStyle.{LineStyle}
use Rattle.lot_simulation.specs.Texts.{currency_value, front, newline, value_text}

-- a ticket's target, by its number and its name
abbrev pub funded_text : Target → List ℕ → List ℕ
funded_text Unfunded name = codes "-"
funded_text (Currency c) name = codes "currency " ++ (decimal c ++ (codes " " ++ name))
funded_text (Thread t) name = codes "thread " ++ (decimal t ++ (codes " " ++ name))

-- a ticket's number, its amount, and the currency that issues it
abbrev pub ticket_amount_text : ℕ → TicketRow → List ℕ
ticket_amount_text n row = codes " ticket " ++ (decimal n ++ (codes " amount " ++ (decimal row.amount ++ (codes " of " ++ row.issuer))))

-- the line of a ticket: its target, and its value, which is its amount's part of its currency's value (4.4)
abbrev pub ticket_funds_line : LineStyle → ℕ → ℕ → ℕ → TicketRow → List ℕ
ticket_funds_line style unit actor n row =
    front style ++ (decimal actor ++ (codes " funds " ++ (funded_text row.funds (unwrap_or row.target [])
    ++ (ticket_amount_text n row ++ (codes " value " ++ (value_text style unit row.value ++ newline))))))

-- the line of a currency: its value, and the active amount that shares it (4.4)
abbrev pub currency_funds_line : LineStyle → ℕ → ℕ → ℕ → CurrencyRow → List ℕ
currency_funds_line style unit actor c row =
    front style ++ (decimal actor ++ (codes " " ++ (codes "currency " ++ (decimal c ++ (codes " " ++ (row.name
    ++ (codes " value " ++ (currency_value style unit c row.value ++ (codes " active " ++ (decimal row.active_amount ++ newline))))))))))
