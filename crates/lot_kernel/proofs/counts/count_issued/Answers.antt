use Rattle.lot_kernel.proofs.Lemmas.{Ticket, ap, arith, count-failed, count-passed, length, option_any, sym, ◌<◌, ◌==◌, ◌∙◌}
use Rattle.lot_kernel.proofs.counts.count_issued.Goals.{then-is_issued, else-is_issued}
use Rattle.lot_kernel.proofs.counts.count_issued.Goals as goal

pub loop-place-preserved : goal.loop-place-preserved
loop-place-preserved c =
    let tickets = c.args.graph.now.funding.tickets in
    let below : c.loop-place.place < length tickets =
    omega (arith, c.loop-place-test.true, c.ticket_count-place-end.ensures) in
    let seen = ap (option_any (λ (t : Ticket). t.issuer == c.args.currency)) (sym c.ticket.ensures.ticket)
    ∙ sym c.is_issued.ensures in
    elim c.if-is_issued.branch [
      | then-is_issued w ↦
          let step = count-passed (λ (t : Ticket). t.issuer == c.args.currency) tickets c.loop-place.place below
          (seen ∙ w.if-is_issued.true) in
          record { all = omega (arith, step, w.count-is, c.loop-place.invariant.all); few = omega (arith, w.count-is, c.loop-place.invariant.few) }
      | else-is_issued w ↦
          let step = count-failed (λ (t : Ticket). t.issuer == c.args.currency) tickets c.loop-place.place below
          (seen ∙ w.if-is_issued.false) in
          record { all = omega (arith, step, w.count-is, c.loop-place.invariant.all); few = omega (arith, w.count-is, c.loop-place.invariant.few) }
    ]
