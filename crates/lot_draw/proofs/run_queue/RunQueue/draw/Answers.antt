use Rattle.lot_draw.proofs.Lemmas.{AreWeights, CountsReads, IfSome, IsSome, List, MatchOption, Option, Queued, Winner, ap, competitor_at, draws, length, same-drawn, still-competes, subst, sym, thread_value, winner-competes, ℕ, [], ◌∙◌, ◌≡◌}
use Rattle.lot_draw.proofs.run_queue.RunQueue.draw.Goals as goal
use Rattle.lot_draw.proofs.run_queue.RunQueue.draw.Goals.{After-weigh_changed}

pub returns-clause-winner : goal.returns-clause-winner
returns-clause-winner c =
    let old = c.args.self.now in
    let new = c.weigh_changed.new.self in
    let v = c.settle.new.graph in
    let competitors : new.competitors ≡ old.competitors = ap (λ (q : Queued). q.competitors)
    (c.weigh_changed.ensures.queue) ∙ ap (λ (q : Queued). q.competitors) c.settle.ensures.queue in
    let quantum : new.quantum ≡ old.quantum = ap (λ (q : Queued). q.quantum) (c.weigh_changed.ensures.queue)
    ∙ ap (λ (q : Queued). q.quantum) c.settle.ensures.queue in
    let competes = still-competes old.competitors new.competitors c.args.graph.now v (sym competitors)
    (sym c.settle.ensures.now) c.requires.competes in
    c.hold_lottery.ensures.winner ∙ draws new v c.weigh_changed.ensures.places competes c.settle.ensures.settled
    (ap (λ (q : Queued). q.changed) c.weigh_changed.ensures.queue) c.weigh_changed.ensures.weights c.args.d
    ∙ same-drawn new.quantum old.quantum new.competitors old.competitors v c.args.graph.now c.args.d quantum competitors
    c.settle.ensures.unit c.settle.ensures.now c.settle.ensures.live

pub returns-clause-competes : goal.returns-clause-competes
returns-clause-competes c =
    let old = c.args.self.now in
    let v = c.args.graph.now in
    subst (λ (o : Option Winner). IfSome o (λ w. IsSome (competitor_at old.competitors w.thread)))
    (sym (returns-clause-winner c))
    (winner-competes old.quantum old.competitors (thread_value v.known.unit v.now.funding v.live) c.args.d)

-- the queue before the lottery
settled-queue : (c : After-weigh_changed)
    → c.weigh_changed.new.self ≡ record c.args.self.now { weights = c.weigh_changed.new.self.weights; changed = [] }
settled-queue c = c.weigh_changed.ensures.queue
    ∙ ap (λ (q : Queued). record q { weights = c.weigh_changed.new.self.weights; changed = [] }) c.settle.ensures.queue

pub returns-clause-queue : goal.returns-clause-queue
returns-clause-queue c =
    let visits = c.hold_lottery.new.self.visits in
    c.hold_lottery.ensures.queue ∙ ap (λ (q : Queued). record q { visits = visits })
    (settled-queue (goal.at.returns-clause-queue c).After-weigh_changed)
    ∙ ap (λ (ws : List ℕ). record c.args.self.now { weights = ws; changed = []; visits = visits })
    (sym (ap (λ (q : Queued). q.weights) c.hold_lottery.ensures.queue))

pub returns-clause-weights : goal.returns-clause-weights
returns-clause-weights c = subst (λ (q : Queued). AreWeights q c.settle.new.graph.known)
    (sym c.hold_lottery.ensures.queue) c.weigh_changed.ensures.weights

pub returns-clause-visits : goal.returns-clause-visits
returns-clause-visits c =
    let now = c.hold_lottery.new.self.visits in
    subst (λ (q : Queued). MatchOption c.hold_lottery.result (now ≡ q.visits) (λ w. CountsReads (length q.competitors)
    q.visits now)) (settled-queue (goal.at.returns-clause-visits c).After-weigh_changed) c.hold_lottery.ensures.visits
