use Rattle.lot_value.proofs.Lemmas.{LimitedFunding, ap, arith, holders, sizes_of, together-new}
use Rattle.lot_value.proofs.valued_graph.ValuedGraph.new.Goals as goal

pub invariant_of-result : goal.invariant_of-result
invariant_of-result c =
    let start = c.in_ok-graph.ensures in
    let bounds = c.args.limits.now.within_bounds in
    together-new c.in_ok-graph.graph c.in_ok-active.active c.in_ok-values.values
    (holders (sizes_of c.args.limits.now)) c.args.limits.now.unit (ap (λ (w : LimitedFunding). w.funding) start)
    (omega (arith, ap (λ (w : LimitedFunding). w.ticket_limit) start, bounds.of_tickets.1)) bounds.of_unit
    c.in_ok-active.ensures.kept
    c.in_ok-values.ensures
