use Rattle.lot_graph.proofs.Lemmas.{Currency, FitsLimits, HasEachOnce, LeadsOutOf, LimitedFunding, Node, ap, append-nil, funding_edges, graph-fits, length, out-once, out-short, own-once, own-short, own_edges, subst, sym, ◌<◌, ◌^◌, ◌∙◌}
use Rattle.lot_graph.proofs.graph.Graph.edges_out_of.Goals as goal

pub returns-in-Currency-clause-edges : goal.returns-in-Currency-clause-edges
returns-in-Currency-clause-edges c =
    subst (λ (node : Node). HasEachOnce (funding_edges c.self.inside.tickets.tickets c.iter.result)
    (LeadsOutOf c.args.self.now.funding node)) (sym c.in-Currency.is)
    (subst (λ (v : LimitedFunding). HasEachOnce (funding_edges c.self.inside.tickets.tickets c.iter.result)
    (LeadsOutOf v.funding (Currency c.in-Currency.currency))) c.self.view_is
    (rw c.iter.ensures.nodes (out-once _ c.self.invariant c.in-Currency.currency)))

pub returns-in-Currency-clause-count : goal.returns-in-Currency-clause-count
returns-in-Currency-clause-count c = rw c.iter.ensures.nodes (out-short _ c.self.invariant c.in-Currency.currency)

pub returns-in-Currency-clause-fits : goal.returns-in-Currency-clause-fits
returns-in-Currency-clause-fits c = subst FitsLimits c.self.view_is (graph-fits _ c.self.invariant)

pub returns-in_default-clause-edges : goal.returns-in_default-clause-edges
returns-in_default-clause-edges c =
    subst (λ es. HasEachOnce es (LeadsOutOf c.args.self.now.funding c.args.node))
    (ap own_edges (sym c.own_edge.ensures) ∙ sym (append-nil (own_edges c.own_edge.result)))
    (own-once c.args.self.now.funding c.args.node c.in_default.not-Currency)

pub returns-in_default-clause-count : goal.returns-in_default-clause-count
returns-in_default-clause-count c = subst (λ (es : _). length es < 2 ^ 32)
    (sym (append-nil (own_edges c.own_edge.result))) (own-short c.own_edge.result)

pub returns-in_default-clause-fits : goal.returns-in_default-clause-fits
returns-in_default-clause-fits c = subst FitsLimits c.self.view_is (graph-fits _ c.self.invariant)
