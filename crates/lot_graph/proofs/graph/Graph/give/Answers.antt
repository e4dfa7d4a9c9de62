use Rattle.lot_graph.proofs.Lemmas.{Funding, IsCycle, IsFree, IsSome, IsTarget, LimitedFunding, OfTicket, Some, Target, Unfunded, ap, ap₂, fund-kept, graph-fits, is_some, length, place-low, refl, subst, sym, target-low, target-ticket, target_node, target_of, ticket_in, unfunded-free, unfunded-within, with_pushed, with_target, with_tickets, ◌<◌, ◌∙◌, ◌≡◌}
use Rattle.lot_machine.specs.declared.ticket.Target.TheVariants.{Currency, Thread}
use Rattle.lot_graph.proofs.graph.Graph.give.Goals as goal

-- an existing target is a node
target-funded : (f : Funding) (to : Target) → IsTarget f to → IsSome (target_node to)
target-funded f Unfunded there = absurd there
target-funded f (Currency c) there = refl
target-funded f (Thread t) there = refl

pub place_of-requires : goal.place_of-requires
place_of-requires c =
    unfunded-within _ c.self.invariant c.args.ticket (subst (λ (v : LimitedFunding). target_of v.funding c.args.ticket
    ≡ Some Unfunded) (sym c.self.view_is) c.requires.unfunded)

pub push_back-requires-clause-list_exists : goal.push_back-requires-clause-list_exists
push_back-requires-clause-list_exists c =
    let there =
    subst (λ (v : LimitedFunding). IsTarget v.funding c.args.target) (sym c.self.view_is) c.requires.target in
    subst (λ list. list < length c.self.inside.into.lists) (sym c.list_of-list.ensures)
    (target-low _ c.self.invariant c.args.target c.target_node.result there c.target_node.ensures)

pub push_back-requires-clause-node_exists : goal.push_back-requires-clause-node_exists
push_back-requires-clause-node_exists c =
    let unfunded = subst (λ (v : LimitedFunding). target_of v.funding c.args.ticket ≡ Some Unfunded)
    (sym c.self.view_is) c.requires.unfunded in
    subst (λ place. place < c.self.inside.into.nodes) (sym c.place_of.ensures)
    (place-low _ c.self.invariant (OfTicket c.args.ticket) (unfunded-within _ c.self.invariant c.args.ticket unfunded))

pub push_back-requires-clause-free : goal.push_back-requires-clause-free
push_back-requires-clause-free c =
    let unfunded = subst (λ (v : LimitedFunding). target_of v.funding c.args.ticket ≡ Some Unfunded)
    (sym c.self.view_is) c.requires.unfunded in
    subst (IsFree c.self.inside.into) (sym c.place_of.ensures) (unfunded-free _ c.self.invariant c.args.ticket unfunded)

pub invariant_of-self : goal.invariant_of-self
invariant_of-self c =
    let unfunded = subst (λ (v : LimitedFunding). target_of v.funding c.args.ticket ≡ Some Unfunded)
    (sym c.self.view_is) c.requires.unfunded in
    let there =
    subst (λ (v : LimitedFunding). IsTarget v.funding c.args.target) (sym c.self.view_is) c.requires.target in
    let apart = subst (λ (v : LimitedFunding). ¬ IsCycle v.funding c.args.ticket c.args.target)
    (sym c.self.view_is) c.requires.apart in
    fund-kept _ c.self.invariant c.args.ticket c.args.target c.target_node.result _ _ unfunded there apart
    c.target_node.ensures c.set_target.ensures
    (c.push_back.ensures.pushed ∙ ap₂ (with_pushed c.self.inside.into) c.list_of-list.ensures c.place_of.ensures)
    c.push_back.ensures.consistent c.push_back.ensures.same_size.0 c.push_back.ensures.same_size.1

pub returns-clause-sound : goal.returns-clause-sound
returns-clause-sound c = (invariant_of-self c).sound

pub returns-clause-fits : goal.returns-clause-fits
returns-clause-fits c = graph-fits _ (invariant_of-self c)

pub set_target-requires : goal.set_target-requires
set_target-requires c =
    let r = target-ticket c.args.self.now.funding c.args.ticket Unfunded c.requires.unfunded in
    record { there = subst (λ (v : LimitedFunding). IsSome (ticket_in v.funding.tickets c.args.ticket)) (sym c.self.view_is) (ap is_some r.1) }

pub target_node-requires : goal.target_node-requires
target_node-requires c = target-funded c.args.self.now.funding c.args.target c.requires.target
