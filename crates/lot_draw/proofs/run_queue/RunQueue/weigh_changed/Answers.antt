use Rattle.lot_draw.proofs.Lemmas.{AreWeights, List, Queued, Thread, ap, first-none, remove, set, subst, sym, value_in, weight_among, weights-weighed, ℕ, ◌+◌, ◌∙◌, ◌≡◌}
use Rattle.lot_draw.proofs.run_queue.RunQueue.weigh_changed.Goals as goal

pub loop-place-preserved : goal.loop-place-preserved
loop-place-preserved c =
    let inv = c.loop-place.invariant in
    let old = c.loop-place.self in
    let new = c.weigh.new.self in
    let known = c.args.graph.now.known in
    let place = c.in-Some.place in
    let weight = weight_among old.quantum old.competitors (λ t. value_in known (Thread t)) (place + 1) in
    let is : new ≡ record old { weights = set old.weights place weight; changed = remove old.changed 0 } =
    c.weigh.ensures.others
    ∙ ap (λ (ws : List ℕ). record old { weights = ws; changed = new.changed }) c.weigh.ensures.weight
    ∙ ap
    (λ (xs : List ℕ). record old { weights = set old.weights place weight; changed = xs }) c.weigh.ensures.changed in
    record {
      queue = c.weigh.ensures.others
          ∙ ap (λ (q : Queued). record q { weights = new.weights; changed = new.changed }) inv.queue;
      weights = subst (λ (q : Queued). AreWeights q known) (sym is) (weights-weighed old known place
          c.in-Some.ensures.places c.in-Some.ensures.place (sym c.in-Some.ensures.first) inv.weights);
    }

pub returns-clause-queue : goal.returns-clause-queue
returns-clause-queue c =
    let now = c.loop-place.self in
    c.loop-place.invariant.queue ∙ ap (λ (xs : List ℕ). record c.args.self.now { weights = now.weights; changed = xs })
    (first-none now.changed (sym c.first_changed.ensures.first ∙ c.in_default.is))
