use Rattle.lot_explain.proofs.Common.{Err, begins-front, currency_funds, flat_map, length, numbers, range_with_len, rules, ticket_funds, writes-after, ◌≡◌}
use Rattle.lot_explain.proofs.funding.write_funding.Goals as goal

pub returns-in_err-write_tickets : goal.returns-in_err-write_tickets
returns-in_err-write_tickets g c =
    let is : c.from_residual.result ≡ Err c.in_err-write_tickets.field-0.0 = search rules in
    let told = c.in_err-write_tickets.ensures in
    let h = c.args.heading in
    let s = c.args.settled.kernel.now.state in
    let tickets = flat_map (ticket_funds h.style h.unit h.actor s) (numbers s.tickets) in
    let currencies = flat_map (currency_funds h.style h.unit h.actor s) (range_with_len 0 (length s.currencies)) in
    rw is (told.0, told.1, begins-front (g.W.Write.contents c.args.writer.now.inner) (g.W.Write.contents c.write_tickets.new.writer.inner) tickets currencies told.2)

pub returns : goal.returns
returns g c =
    let h = c.args.heading in
    let s = c.args.settled.kernel.now.state in
    let tickets = flat_map (ticket_funds h.style h.unit h.actor s) (numbers s.tickets) in
    let currencies = flat_map (currency_funds h.style h.unit h.actor s) (range_with_len 0 (length s.currencies)) in
    writes-after (g.W.Write.contents c.args.writer.now.inner) (g.W.Write.contents c.write_tickets.new.writer.inner)
    (g.W.Write.contents c.write_currencies.new.writer.inner) c.write_currencies.new.writer.failed
    c.write_currencies.result tickets currencies
    c.in_ok-write_tickets.ensures.1 c.write_currencies.ensures
