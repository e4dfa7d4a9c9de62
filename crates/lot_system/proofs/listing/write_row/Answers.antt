-- The line is printed with the unit of the limits, which are those of the world.
use Rattle.lot_system.proofs.Common.{List, Option, Sizes, Some, Written, ap, currency_line, currency_row, option_map_or, subst, sym, thread_line, thread_row, ticket_line, ticket_row, ℕ, [], ◌∙◌, ◌≡◌}
use Rattle.lot_system.proofs.listing.write_row.Goals as goal

-- the line of a row that there is, with the same unit
line-is : {A : Type 0} (line : ℕ → ℕ → A → List ℕ) (given sizes : Sizes) (n : ℕ) (o : Option A) (row : A)
    → given ≡ sizes → o ≡ Some row → line given.unit n row ≡ option_map_or (line sizes.unit n) o []
line-is line given sizes n o row unit is = ap (λ (l : Sizes). line l.unit n row) unit
    ∙ ap (λ r. option_map_or (line sizes.unit n) r []) (sym is)

pub returns-in-Some : goal.returns-in-Some
returns-in-Some g c =
    let s = c.args.settled.kernel.now.state in
    let text = line-is (ticket_line c.args.style) _ s.limits c.args.number
    (ticket_row s c.args.number) c.in-Some.row c.limits-limits.ensures (sym c.ticket_row.ensures ∙ c.in-Some.is) in
    rw c.in-Tickets.is
    (subst (Written (g.W.Write.contents c.args.writer.now.inner) (g.W.Write.contents c.write_ticket.new.writer.inner)
    c.write_ticket.new.writer.failed c.write_ticket.result) text c.write_ticket.ensures)

pub returns-in-Some-currency_row : goal.returns-in-Some-currency_row
returns-in-Some-currency_row g c =
    let s = c.args.settled.kernel.now.state in
    let text = line-is (currency_line c.args.style) _ s.limits c.args.number (currency_row s c.args.number)
    c.in-Some-currency_row.row c.limits-limits.ensures (sym c.currency_row.ensures ∙ c.in-Some-currency_row.is) in
    rw c.in-Currencies.is
    (subst (Written (g.W.Write.contents c.args.writer.now.inner) (g.W.Write.contents c.write_currency.new.writer.inner)
    c.write_currency.new.writer.failed c.write_currency.result) text c.write_currency.ensures)

pub returns-in-Some-thread_row : goal.returns-in-Some-thread_row
returns-in-Some-thread_row g c =
    let s = c.args.settled.kernel.now.state in
    let text = line-is (thread_line c.args.style) _ s.limits c.args.number (thread_row s c.args.number)
    c.in-Some-thread_row.row c.limits-limits.ensures (sym c.thread_row.ensures ∙ c.in-Some-thread_row.is) in
    rw c.in-Threads.is
    (subst (Written (g.W.Write.contents c.args.writer.now.inner) (g.W.Write.contents c.write_thread.new.writer.inner)
    c.write_thread.new.writer.failed c.write_thread.result) text c.write_thread.ensures)
