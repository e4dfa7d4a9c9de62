use Rattle.lot_draw.proofs.Lemmas.{All-set, CompetesIn, Queued, Some, Thread, ap, arith, competitor-place, contains-at, length, length-set, nodes_of, set, slice_get, subst, sum-light, sym, there-at, value_in, weight_with, ◌+◌, ◌<◌, ◌^◌, ◌∙◌, ◌≡◌}
use Rattle.lot_draw.proofs.run_queue.RunQueue.weigh.Goals as goal

pub weight_at-weight-requires-clause-there : goal.weight_at-weight-requires-clause-there
weight_at-weight-requires-clause-there c =
    let i = c.self.inside in
    let low : c.args.place < length i.competitors.items =
    subst (λ (q : Queued). c.args.place < length q.competitors) (sym c.self.view_is) c.requires.place in
    there-at i.competitors.items c.args.graph.now c.args.place c.index.result.now low c.index.ensures
    (subst (λ (q : Queued). CompetesIn q.competitors c.args.graph.now) (sym c.self.view_is) c.requires.competes)

pub set-requires-clause-limited : goal.set-requires-clause-limited
set-requires-clause-limited c =
    let i = c.self.inside in
    let weight = c.weight_at-weight.result in
    sum-light (set i.tree c.args.place weight)
    (omega (arith, length-set i.tree c.args.place weight, c.self.invariant.places, c.self.invariant.few))
    (All-set (λ w. w < 2 ^ 96) i.tree c.args.place weight c.weight_at-weight.ensures.small c.self.invariant.light)

pub remove-requires : goal.remove-requires
remove-requires c =
    let first : slice_get (nodes_of c.self.inside.changed 0) 0 ≡ Some c.args.place =
    subst (λ (q : Queued). slice_get q.changed 0 ≡ Some c.args.place) (sym c.self.view_is) c.requires.first in
    record { listed = record { list = 0; contains = contains-at (nodes_of c.self.inside.changed 0) 0 c.args.place first } }

pub returns-clause-weight : goal.returns-clause-weight
returns-clause-weight c =
    let i = c.self.inside in
    let low : c.args.place < length i.competitors.items =
    subst (λ (q : Queued). c.args.place < length q.competitors) (sym c.self.view_is) c.requires.place in
    rw (← c.self.view_is)
    (c.set.ensures
    ∙ ap (λ w. set i.tree c.args.place w)
    (c.weight_at-weight.ensures.weight ∙ ap (weight_with (value_in c.args.graph.now.known (Thread (c.args.place + 1)))
    i.quantum) (sym (competitor-place i.competitors.items c.args.place c.index.result.now low c.index.ensures))))
