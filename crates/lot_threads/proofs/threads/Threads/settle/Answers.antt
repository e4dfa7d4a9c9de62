use Rattle.lot_threads.proofs.Lemmas.{LimitedFunding, settled-of, subst, sym, ◌≡◌}
use Rattle.lot_threads.proofs.threads.Threads.settle.Goals as goal

pub settle-requires-clause-places : goal.settle-requires-clause-places
settle-requires-clause-places c = c.self.invariant.together.competes.places

pub settle-requires-clause-weights : goal.settle-requires-clause-weights
settle-requires-clause-weights c = c.self.invariant.together.weights

pub invariant_of-self : goal.invariant_of-self
invariant_of-self c =
    let i = c.self.inside in
    let settled = c.settle.ensures in
    record {
      together = settled-of i.graph c.settle.new.graph i.queue c.settle.new.self i.threads.items i.records.items
          i.runners.items c.self.invariant.together settled.queue settled.weights settled.now settled.live;
      thread_room = subst (λ (w : LimitedFunding). i.threads.room ≡ w.thread_limit)
          (sym settled.now) c.self.invariant.thread_room;
      record_room = subst (λ (w : LimitedFunding). i.records.room ≡ w.thread_limit)
          (sym settled.now) c.self.invariant.record_room;
    }
