use Rattle.lot_threads.proofs.Lemmas.{Bool, CanApply, Known, LimitedFunding, List, Threaded, ap, graph-is, limited_in, live_in, reached-then, room-then, subst, sym, together-then, ◌∙◌}
use Rattle.lot_threads.proofs.threads.Threads.apply.Goals as goal

pub apply-requires : goal.apply-requires
apply-requires c =
    let i = c.self.inside in
    let was = graph-is i.graph i.queue i.threads.items i.records.items i.runners.items c.self.invariant.together
    ∙ ap limited_in c.self.view_is in
    let live = c.self.invariant.together.live ∙ ap (λ (x : Threaded). live_in x.records) c.self.view_is in
    record { allowed = subst (λ (w : LimitedFunding). CanApply w i.graph.live c.args.change) (sym was) (subst (λ (lives : List Bool). CanApply (limited_in c.args.self.now) lives c.args.change) (sym live) c.requires.allowed) }

pub invariant_of-self : goal.invariant_of-self
invariant_of-self c =
    let i = c.self.inside in
    let room = room-then i.graph c.apply.new.self i.queue i.threads.items i.records.items i.runners.items
    c.self.invariant.together c.args.change c.requires.others c.apply.ensures.applied c.apply.ensures.stale in
    record {
      together = together-then i.graph c.apply.new.self i.queue i.threads.items i.records.items i.runners.items
          c.self.invariant.together c.args.change c.requires.others c.apply.ensures.applied c.apply.ensures.stale;
      thread_room = room _ c.self.invariant.thread_room;
      record_room = room _ c.self.invariant.record_room;
    }

pub returns-clause-stale : goal.returns-clause-stale
returns-clause-stale c =
    let i = c.self.inside in
    let stale = c.apply.ensures.stale in
    rw (← c.self.view_is) (record {
      kept = stale.kept;
      reached = reached-then i.graph c.apply.new.self i.queue i.threads.items i.records.items i.runners.items
          c.self.invariant.together c.args.change c.requires.others c.apply.ensures.applied stale;
      same = λ moves. ap (λ (k : Known). k.stale) (stale.same moves);
      owners = stale.owners;
    })
