use Rattle.lot_kernel.proofs.Lemmas.{Ticket, ap, arith, count-failed, count-passed, is_currency, length, option_any, sym, ◌<◌, ◌∙◌}
use Rattle.lot_kernel.proofs.counts.count_backing.Goals.{then-is_backing, else-is_backing}
use Rattle.lot_kernel.proofs.counts.count_backing.Goals as goal

pub loop-place-preserved : goal.loop-place-preserved
loop-place-preserved c =
    let tickets = c.args.graph.now.funding.tickets in
    let below : c.loop-place.place < length tickets =
    omega (arith, c.loop-place-test.true, c.ticket_count-place-end.ensures) in
    let seen = ap (option_any (λ (t : Ticket). is_currency c.args.currency t.target)) (sym c.ticket.ensures.ticket)
    ∙ sym c.is_backing.ensures in
    elim c.if-is_backing.branch [
      | then-is_backing w ↦
          let step = count-passed (λ (t : Ticket). is_currency c.args.currency t.target) tickets c.loop-place.place
          below (seen ∙ w.if-is_backing.true) in
          record { all = omega (arith, step, w.count-is, c.loop-place.invariant.all); few = omega (arith, w.count-is, c.loop-place.invariant.few) }
      | else-is_backing w ↦
          let step = count-failed (λ (t : Ticket). is_currency c.args.currency t.target) tickets c.loop-place.place
          below (seen ∙ w.if-is_backing.false) in
          record { all = omega (arith, step, w.count-is, c.loop-place.invariant.all); few = omega (arith, w.count-is, c.loop-place.invariant.few) }
    ]
