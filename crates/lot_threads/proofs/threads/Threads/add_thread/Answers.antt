use Rattle.lot_threads.proofs.Lemmas.{AreOf, Competitor, Contains, HasTicks, Known, LimitedFunding, List, Option, Record, Some, Thread, Threaded, added-of, ap, arith, graph-is, lends_in, length, live_in, made-stale, newborn, number-made, set_number, sizes_of, stale-of, subst, sym, with_lends, [], ◌++◌, ◌+◌, ◌<◌, ◌∙◌, ◌∷◌, ◌≡◌}
use Rattle.lot_threads.proofs.threads.Threads.add_thread.Goals as goal
use Rattle.lot_threads.proofs.threads.Threads.add_thread.Goals.{After-threads-number, After-set_competitor}

-- as many threads as the graph has now, and one more than there were records
counted : (c : After-threads-number) → (c.threads-number.result ≡ length c.add_thread.new.self.now.funding.lends)
    × (c.threads-number.result ≡ length c.self.inside.records.items + 1)
counted c =
    let i = c.self.inside in
    let seen = c.threads-number.ensures.count ∙ ap (λ (w : LimitedFunding). length w.funding.lends) c.graph.ensures in
    (seen, number-made i.graph c.add_thread.new.self i.queue i.threads.items i.records.items i.runners.items c.threads-number.result c.self.invariant.together c.add_thread.ensures.added seen)

-- there was room for it
room : (c : After-threads-number) → length c.self.inside.records.items < c.self.inside.graph.now.thread_limit
room c = subst (λ (x : Threaded). length x.records < x.thread_limit) (sym c.self.view_is) c.requires.room

-- all is kept together with it
added : (c : After-set_competitor)
    → AreOf (sizes_of c.self.inside.lending) c.set_live.new.self c.set_competitor.new.self (c.self.inside.threads.items
    ++ Some c.args.thread ∷ []) (c.self.inside.records.items ++ newborn ∷ []) c.self.inside.runners.items
added c =
    let i = c.self.inside in
    let n = c.threads-number.result in
    let seen = c.threads-number.ensures.count ∙ ap (λ (w : LimitedFunding). length w.funding.lends) c.graph.ensures in
    let count = number-made i.graph c.add_thread.new.self i.queue i.threads.items i.records.items i.runners.items n
    c.self.invariant.together c.add_thread.ensures.added seen in
    let set = c.set_competitor.ensures.set ∙ ap (λ (o : Option Competitor).
    record i.queue { competitors = set_number i.queue.competitors n o; changed = c.set_competitor.new.self.changed })
    c.competitor_of.ensures in
    let live = c.set_live.ensures.follows in
    added-of i.graph c.add_thread.new.self c.set_live.new.self i.queue c.set_competitor.new.self i.threads.items
    i.records.items i.runners.items c.args.thread n c.self.invariant.together
    (subst (λ (x : Threaded). length x.records < x.thread_limit) (sym c.self.view_is) c.requires.room) count
    c.add_thread.ensures.added c.add_thread.ensures.live c.add_thread.ensures.known live.now live.live live.known
    live.kept set c.set_competitor.ensures.weights

pub set_live-requires : goal.set_live-requires
set_live-requires c = let (seen, count) = counted (goal.at.set_live-requires c).After-threads-number in
    record { thread = (omega (arith, count), omega (arith, seen)) }

pub set_competitor-requires-clause-thread : goal.set_competitor-requires-clause-thread
set_competitor-requires-clause-thread c =
    let here = (goal.at.set_competitor-requires-clause-thread c).After-threads-number in
    let (seen, count) = counted here in
    (omega (arith, count), omega (arith, count, room here, c.self.invariant.together.competes.places))

pub set_competitor-requires-clause-ticks : goal.set_competitor-requires-clause-ticks
set_competitor-requires-clause-ticks c = subst HasTicks (sym c.competitor_of.ensures) tt

pub invariant_of-self : goal.invariant_of-self
invariant_of-self c =
    let i = c.self.inside in
    let limit =
    ap (λ (w : LimitedFunding). w.thread_limit) (c.set_live.ensures.follows.now ∙ c.add_thread.ensures.added) in
    record {
      together = subst (λ (ts : List (Option Thread)). AreOf (sizes_of i.lending) c.set_live.new.self
          c.set_competitor.new.self ts c.push-2.new.self.items i.runners.items) (sym c.push.ensures.items)
          (subst (λ (rs : List Record). AreOf (sizes_of i.lending) c.set_live.new.self c.set_competitor.new.self
          (i.threads.items ++ Some c.args.thread ∷ []) rs i.runners.items) (sym c.push-2.ensures.items)
          (added (goal.at.invariant_of-self c).After-set_competitor));
      thread_room = omega (arith, limit, c.push.ensures.room, c.self.invariant.thread_room);
      record_room = omega (arith, limit, c.push-2.ensures.room, c.self.invariant.record_room);
    }

pub returns-clause-stale : goal.returns-clause-stale
returns-clause-stale c =
    let i = c.self.inside in
    let together = added (goal.at.returns-clause-stale c).After-set_competitor in
    let makes =
    made-stale i.graph c.add_thread.new.self c.set_live.new.self c.add_thread.ensures.added c.add_thread.ensures.live
    c.add_thread.ensures.known c.set_live.ensures.follows.now c.set_live.ensures.follows.reached in
    let was = graph-is i.graph i.queue i.threads.items i.records.items i.runners.items c.self.invariant.together in
    let now = graph-is c.set_live.new.self c.set_competitor.new.self (i.threads.items ++ Some c.args.thread ∷ [])
    (i.records.items ++ newborn ∷ []) i.runners.items together ∙ ap (λ (rs : List Record).
    with_lends c.set_live.new.self.now (lends_in (sizes_of i.lending) rs)) (sym c.push-2.ensures.items) in
    rw (← c.self.view_is) (stale-of i.graph c.set_live.new.self
    (with_lends i.graph.now (lends_in (sizes_of i.lending) i.records.items)) (with_lends c.set_live.new.self.now
    (lends_in (sizes_of i.lending) c.push-2.new.self.items)) (live_in i.records.items) (live_in c.push-2.new.self.items)
    was now c.self.invariant.together.live (together.live ∙ ap live_in (sym c.push-2.ensures.items)) makes)

pub returns-clause-number : goal.returns-clause-number
returns-clause-number c = rw (← c.self.view_is) (counted (goal.at.returns-clause-number c).After-threads-number).1

pub returns-clause-kept : goal.returns-clause-kept
returns-clause-kept c = λ node stale.
    c.set_live.ensures.follows.kept node (subst (λ (k : Known). Contains k.stale node) (sym c.add_thread.ensures.known)
    (subst (λ (x : Threaded). Contains x.stale node) (sym c.self.view_is) stale))
