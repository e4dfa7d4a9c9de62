use Rattle.lot_draw.proofs.Lemmas.{AreWeights, Queued, nodes_of, rules, set_number, subst, sym, weights-set, ◌≡◌}
use Rattle.lot_draw.proofs.run_queue.RunQueue.set_competitor.Goals as goal

pub returns-clause-listed : goal.returns-clause-listed
returns-clause-listed c = rw (← c.self.view_is) (rw c.index_of-place.ensures at c.list.ensures.listed)

pub returns-clause-weights : goal.returns-clause-weights
returns-clause-weights c known =
    let i = c.self.inside in
    let new = c.list.new.self in
    let q : Queued = record { quantum = i.quantum; competitors = i.competitors.items; weights = i.tree; changed = nodes_of i.changed 0; visits = i.visits } in
    let set : new
    ≡ record q { competitors = set_number q.competitors c.args.thread c.args.competitor; changed = new.changed } =
    search rules in
    rw (← c.self.view_is)
    (λ weights. subst (λ (x : Queued). AreWeights x known) (sym set) (weights-set q c.args.thread c.args.competitor
    new.changed known (λ x there. (rw c.index_of-place.ensures at c.list.ensures.listed x).1 there) weights))
