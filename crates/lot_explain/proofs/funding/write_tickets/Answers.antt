use Rattle.lot_explain.proofs.Common.{Err, arith, length, range-more, range-stops, rules, ticket_funds, ◌+◌, ◌≡◌}
use Rattle.lot_explain.proofs.funding.write_tickets.Goals as goal

pub returns-in_err-write_ticket : goal.returns-in_err-write_ticket
returns-in_err-write_ticket g c =
    let is : c.from_residual.result ≡ Err c.in_err-write_ticket.field-0.0 = search rules in
    let i = c.loop-place.invariant in
    let told = c.in_err-write_ticket.ensures in
    let h = c.args.heading in
    let s = c.args.settled.kernel.now.state in
    rw is (
      told.0,
      told.1,
      range-stops (g.W.Write.contents c.args.writer.now.inner) (g.W.Write.contents c.loop-place.writer.inner)
          (g.W.Write.contents c.write_ticket.new.writer.inner)
          (ticket_funds h.style h.unit h.actor s) 1 c.loop-place.place
          (length s.tickets) (c.loop-place.place + 1)
          (omega (arith, c.loop-place-test.true, c.ticket_count-place-end.ensures)) (omega arith) i.bytes told.2,
    )

pub loop-place-preserved : goal.loop-place-preserved
loop-place-preserved g c =
    let i = c.loop-place.invariant in
    let told = c.in_ok-write_ticket.ensures in
    let h = c.args.heading in
    let s = c.args.settled.kernel.now.state in
    record {
      working = told.0;
      bytes = range-more (g.W.Write.contents c.args.writer.now.inner) (g.W.Write.contents c.loop-place.writer.inner)
          (g.W.Write.contents c.write_ticket.new.writer.inner)
          (ticket_funds h.style h.unit h.actor s) 1 c.loop-place.place (c.loop-place.place + 1)
          (omega arith) i.bytes told.1;
    }
