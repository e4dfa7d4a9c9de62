use Rattle.lot_explain.proofs.Common.{All, HasRow, Seen, all_loans, ap, loans_among, lots_among, map, subst, sym, waiter_lot, world_of, ◌∙◌}
use Rattle.lot_explain.proofs.gathering.Lots.gather.Goals as goal

pub push_waiters-requires-clause-there : goal.push_waiters-requires-clause-there
push_waiters-requires-clause-there c =
    rw c.settle.ensures.state
    (subst (All (HasRow (world_of c.args.system.now).state)) (sym c.deref.ensures.value) c.list_waiters.ensures.shown)

pub returns-in-Nobody-clause-lots : goal.returns-in-Nobody-clause-lots
returns-in-Nobody-clause-lots c event reply is =
    c.clear.ensures.items
    ∙ ap (lots_among (world_of c.args.system.now).state) (sym c.in-Nobody.is ∙ c.next_entrants.ensures event reply is)

pub returns-in-Ready-clause-lots : goal.returns-in-Ready-clause-lots
returns-in-Ready-clause-lots c event reply is =
    c.push_all_ready.ensures.lots
    ∙ ap (lots_among (world_of c.args.system.now).state) (sym c.in-Ready.is ∙ c.next_entrants.ensures event reply is)

pub returns-in-Waiters-clause-lots : goal.returns-in-Waiters-clause-lots
returns-in-Waiters-clause-lots c event reply is =
    let s = (world_of c.args.system.now).state in
    (rw c.settle.ensures.state at c.push_waiters.ensures.lots)
    ∙ ap (map (waiter_lot s)) (c.deref.ensures.value ∙ c.list_waiters.ensures.waiters)
    ∙ ap (lots_among s) (sym c.in-Waiters.is ∙ c.next_entrants.ensures event reply is)

pub returns-in-Nobody-clause-loans : goal.returns-in-Nobody-clause-loans
returns-in-Nobody-clause-loans c event reply is =
    c.clear-2.ensures.items
    ∙ ap (loans_among (world_of c.args.system.now).state) (sym c.in-Nobody.is ∙ c.next_entrants.ensures event reply is)

pub returns-in-Ready-clause-loans : goal.returns-in-Ready-clause-loans
returns-in-Ready-clause-loans c event reply is =
    c.push_all_loans.ensures.loans ∙ ap (λ (x : Seen). all_loans (world_of x).state) c.push_all_ready.ensures.same
    ∙ ap (loans_among (world_of c.args.system.now).state) (sym c.in-Ready.is ∙ c.next_entrants.ensures event reply is)

pub returns-in-Waiters-clause-loans : goal.returns-in-Waiters-clause-loans
returns-in-Waiters-clause-loans c event reply is =
    c.clear-2.ensures.items
    ∙ ap (loans_among (world_of c.args.system.now).state) (sym c.in-Waiters.is ∙ c.next_entrants.ensures event reply is)
