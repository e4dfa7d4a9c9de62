use Rattle.lot_value.proofs.Lemmas.{Currency, HasEachOnce, IsIssuedIn, IsStaleList, Layout, List, OfTicket, Some, ap, arith, each-done, each-here, each-next, ends_of, funded-all, funded-ends, funded-none, funded-skip, layout_of, list-low, node_place, subst, sym, targets-none, ticket-of, ℕ, ◌∙◌, ◌≡◌}
use Rattle.lot_value.proofs.Spreading.{funded-more}
use Rattle.lot_value.proofs.marking.add_funded.Goals as goal
use Rattle.lot_value.proofs.marking.add_funded.Goals.{In_default, After-list_of}

pub loop-number-init : goal.loop-number-init
loop-number-init c = record {
  split = subst (λ (numbers : List ℕ). HasEachOnce numbers (IsIssuedIn c.args.graph.now.funding c.args.currency))
      (sym c.into_iter-number-iterator.ensures.into_iter_gives) c.tickets_of-number-items.ensures.tickets;
  list = c.requires.list;
  spread =
      targets-none (layout_of c.args.graph.now) c.args.graph.now.funding (Currency c.args.currency) c.args.stale.now;
}

pub unreachable-requires : goal.unreachable-requires
unreachable-requires c =
    let w = c.args.graph.now in
    let issued = each-here (IsIssuedIn w.funding c.args.currency) c.loop-number.yielded _ _ c.in-Some.number
    c.in-Some.ensures.steps c.loop-number.invariant.split in
    let (t, at, is) = ticket-of w.funding c.in-Some.number c.args.currency issued in
    c.in_default.not-Some t (c.ticket.ensures.ticket ∙ at)

-- where the next ticket leads, and the place of that node
next-target : (c : After-list_of)
    → (ends_of c.args.graph.now.funding (OfTicket c.in-Some.number)
    ≡ Some (Currency c.args.currency, c.in-Some-funded_node.to))
    × (c.list_of.result ≡ node_place (layout_of c.args.graph.now) c.in-Some-funded_node.to)
next-target c =
    let w = c.args.graph.now in
    let number = c.in-Some.number in
    let to = c.in-Some-funded_node.to in
    let issued = each-here (IsIssuedIn w.funding c.args.currency) c.loop-number.yielded _ _ number
    c.in-Some.ensures.steps c.loop-number.invariant.split in
    let at = sym c.ticket.ensures.ticket ∙ c.in-Some-ticket.is in
    let funds = sym c.funded_node.ensures ∙ c.in-Some-funded_node.is in
    (funded-ends w.funding c.args.currency number c.in-Some-ticket.ticket to issued at funds, c.list_of.ensures ∙ ap (λ (l : Layout). node_place l to) c.layout-layout.ensures.layout)

pub add-requires-clause-place : goal.add-requires-clause-place
add-requires-clause-place c =
    let (ends, place) = next-target c in
    let low = list-low (layout_of c.args.graph.now) c.in-Some-funded_node.to (c.layout-layout.ensures.fits.to
    (OfTicket c.in-Some.number) (Currency c.args.currency) c.in-Some-funded_node.to ends) in
    omega (arith, place, low, c.loop-number.invariant.list.nodes)

pub loop-number-preserved-in-Some-funded_node : goal.loop-number-preserved-in-Some-funded_node
loop-number-preserved-in-Some-funded_node c =
    let w = c.args.graph.now in
    let number = c.in-Some.number in
    let (ends, place) = next-target (goal.at.loop-number-preserved-in-Some-funded_node c).After-list_of in record {
      split = each-next (IsIssuedIn w.funding c.args.currency) c.loop-number.yielded _ _ number c.in-Some.ensures.steps
          c.loop-number.invariant.split;
      list = subst (IsStaleList c.add.new.stale) c.loop-number.invariant.list.nodes c.add.ensures.list;
      spread = funded-more (layout_of w) w.funding c.args.currency c.loop-number.yielded number c.in-Some-funded_node.to
          c.list_of.result c.args.stale.now c.loop-number.stale c.add.new.stale ends place
          c.loop-number.invariant.spread c.add.ensures.spreads;
    }

pub loop-number-preserved : goal.loop-number-preserved
loop-number-preserved c =
    let w = c.args.graph.now in
    let number = c.in-Some.number in
    let none = funded-none w.funding c.args.currency number c.in-Some-ticket.ticket (sym c.ticket.ensures.ticket
    ∙ c.in-Some-ticket.is) (sym c.funded_node.ensures ∙ c.in_default-funded_node.is) in record {
      split = each-next (IsIssuedIn w.funding c.args.currency) c.loop-number.yielded _ _ number c.in-Some.ensures.steps
          c.loop-number.invariant.split;
      list = c.loop-number.invariant.list;
      spread = funded-skip (layout_of w) w.funding c.args.currency c.loop-number.yielded number c.args.stale.now
          c.loop-number.stale none c.loop-number.invariant.spread;
    }

pub returns-clause-spreads : goal.returns-clause-spreads
returns-clause-spreads c =
    let w = c.args.graph.now in
    let all = each-done (IsIssuedIn w.funding c.args.currency) c.loop-number.yielded _ c.in-None.ensures.steps.0
    c.loop-number.invariant.split in
    funded-all (layout_of w) w.funding c.args.currency c.loop-number.yielded c.args.stale.now c.loop-number.stale all
    c.loop-number.invariant.spread
