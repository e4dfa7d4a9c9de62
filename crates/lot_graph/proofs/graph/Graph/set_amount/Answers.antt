use Rattle.lot_graph.proofs.Lemmas.{LimitedFunding, Some, Unfunded, arith, graph-fits, set_amount-held, subst, sym, target_of, ◌≡◌}
use Rattle.lot_graph.proofs.graph.Graph.set_amount.Goals as goal

pub invariant_of-self : goal.invariant_of-self
invariant_of-self c =
    set_amount-held _ c.self.invariant c.args.ticket c.args.amount _ (subst (λ (v : LimitedFunding).
    target_of v.funding c.args.ticket ≡ Some Unfunded) (sym c.self.view_is) c.requires.unfunded)
    c.requires.amount (omega arith) c.set_amount.ensures

pub returns-clause-sound : goal.returns-clause-sound
returns-clause-sound c = (invariant_of-self c).sound

pub returns-clause-fits : goal.returns-clause-fits
returns-clause-fits c = graph-fits _ (invariant_of-self c)
