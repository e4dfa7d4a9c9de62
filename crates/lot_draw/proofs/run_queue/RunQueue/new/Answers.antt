use Rattle.lot_draw.proofs.Lemmas.{None, replicate, rules, weights-none, ◌≡◌}
use Rattle.lot_draw.proofs.run_queue.RunQueue.new.Goals as goal

pub returns-clause-weights : goal.returns-clause-weights
returns-clause-weights c =
    let items : c.in_ok-filled.field-0.items ≡ replicate c.args.limits.now.threads None = search rules in
    weights-none (record { quantum = _; competitors = _; weights = _; changed = _; visits = 0 })
    c.args.limits.now.threads items c.in_ok-new.ensures
