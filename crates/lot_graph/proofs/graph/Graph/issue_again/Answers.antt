use Rattle.lot_graph.proofs.Lemmas.{Currency, IsCurrency, LimitedFunding, None, Some, Ticket, Unfunded, again-free, again-held, ap, arith, at_number, graph-fits, node-within, number-within, set_number, subst, sym, with_pushed, with_tickets, ◌∙◌, ◌≡◌, ◌≤◌}
use Rattle.lot_graph.proofs.graph.Graph.issue_again.Goals as goal

pub push_back-requires-clause-free : goal.push_back-requires-clause-free
push_back-requires-clause-free c =
    rw c.index_of.ensures (again-free _ c.self.invariant c.args.ticket (subst (λ (v : LimitedFunding).
    at_number v.funding.tickets c.args.ticket ≡ Some None) (sym c.self.view_is) c.requires.gap))

pub invariant_of-self : goal.invariant_of-self
invariant_of-self c =
    again-held _ c.self.invariant c.args.ticket c.args.amount c.args.currency _ _ c.requires.amount (omega arith)
    (subst (λ (v : LimitedFunding). at_number v.funding.tickets c.args.ticket ≡ Some None)
    (sym c.self.view_is) c.requires.gap)
    (subst (λ (v : LimitedFunding). IsCurrency v.funding c.args.currency) (sym c.self.view_is) c.requires.currency)
    c.put.ensures
    (c.push_back.ensures.pushed ∙ ap (with_pushed c.self.inside.issued c.args.currency) c.index_of.ensures)
    c.push_back.ensures.consistent c.push_back.ensures.same_size.0 c.push_back.ensures.same_size.1

pub returns-clause-sound : goal.returns-clause-sound
returns-clause-sound c = (invariant_of-self c).sound

pub returns-clause-fits : goal.returns-clause-fits
returns-clause-fits c = graph-fits _ (invariant_of-self c)

pub put-requires-clause-issuer : goal.put-requires-clause-issuer
put-requires-clause-issuer c =
    let low : c.args.currency ≤ c.self.inside.layout.currencies =
    node-within _ c.self.invariant (Currency c.args.currency)
    (subst (λ (v : LimitedFunding). IsCurrency v.funding c.args.currency) (sym c.self.view_is) c.requires.currency) in
    omega (arith, low, c.self.invariant.currencies_short)

pub index_of-requires : goal.index_of-requires
index_of-requires c = (number-within c.self.inside.tickets.tickets c.args.ticket None (subst (λ (v : LimitedFunding).
    at_number v.funding.tickets c.args.ticket ≡ Some None) (sym c.self.view_is) c.requires.gap)).0

pub push_back-requires-clause-list_exists : goal.push_back-requires-clause-list_exists
push_back-requires-clause-list_exists c =
    let low : c.args.currency ≤ c.self.inside.layout.currencies =
    node-within _ c.self.invariant (Currency c.args.currency)
    (subst (λ (v : LimitedFunding). IsCurrency v.funding c.args.currency) (sym c.self.view_is) c.requires.currency) in
    omega (arith, low, c.self.invariant.issued_lists)

pub push_back-requires-clause-node_exists : goal.push_back-requires-clause-node_exists
push_back-requires-clause-node_exists c =
    let low = number-within c.self.inside.tickets.tickets c.args.ticket None (subst (λ (v : LimitedFunding).
    at_number v.funding.tickets c.args.ticket ≡ Some None) (sym c.self.view_is) c.requires.gap) in
    omega (arith, low.0, low.1, c.index_of.ensures, c.self.invariant.tickets_fit, c.self.invariant.issued_nodes)

pub returns-clause-issued : goal.returns-clause-issued
returns-clause-issued c =
    let again : Ticket = record { amount = c.args.amount; issuer = c.args.currency; target = Unfunded } in
    rw c.put.ensures (ap
    (λ (v : LimitedFunding). with_tickets v (set_number v.funding.tickets c.args.ticket (Some again))) c.self.view_is)
