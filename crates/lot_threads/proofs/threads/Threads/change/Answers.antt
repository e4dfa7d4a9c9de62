use Rattle.lot_threads.proofs.Lemmas.{AreOf, Bool, CanLend, CanRun, Competitor, Contains, Funding, IsBetween, IsThreadOf, IsTimely, Lend, LimitedFunding, List, Option, Record, Running, Some, Status, Threaded, ap, arith, at_number, at_number-map, changed-of, funding_in, graph-is, is_live_status, lend_of, lends_in, length, length-map, live_in, number-read, option_map, runner-within, set_number, sizes_of, stale-of, status_of, subst, sym, with_lends, with_runner, without_runner, ℕ, ◌∙◌, ◌≡◌}
use Rattle.lot_threads.proofs.threads.Threads.change.Goals as goal
use Rattle.lot_threads.proofs.threads.Threads.change.Goals.{After-set_competitor}

-- who runs may run there
run-on : (v : Threaded) (t : ℕ) (s : Status) (p used : ℕ) → s ≡ Running p used → CanRun v t s
    → IsBetween 1 v.processors p × ((u more : ℕ) → status_of v.records u ≡ Some (Running p more) → u ≡ t)
run-on v t s p used is run = subst (λ (x : Status). CanRun v t x) is run

pub follow_status-requires-clause-thread : goal.follow_status-requires-clause-thread
follow_status-requires-clause-thread c =
    let i = c.self.inside in
    let thread = subst (λ (x : Threaded). IsThreadOf x c.args.thread.number) (sym c.self.view_is) c.requires.there in
    let count = ap (length {A = Lend}) c.self.invariant.together.lends
    ∙ length-map i.records.items (λ (r : Record). lend_of (sizes_of i.lending) r.status) in
    (omega (arith, thread.0), omega (arith, thread.1, count))

pub set_competitor-requires-clause-thread : goal.set_competitor-requires-clause-thread
set_competitor-requires-clause-thread c =
    let thread = subst (λ (x : Threaded). IsThreadOf x c.args.thread.number) (sym c.self.view_is) c.requires.there in
    (omega (arith, thread.0), omega (arith, thread.1, c.self.invariant.together.ready.few))

pub move_runner-requires-clause-now : goal.move_runner-requires-clause-now
move_runner-requires-clause-now c p used is =
    subst (λ (x : Threaded). IsBetween 1 x.processors p) (sym c.self.view_is)
    (run-on c.args.self.now c.args.thread.number c.args.next.status p used is c.requires.run).0

pub returns-clause-kept : goal.returns-clause-kept
returns-clause-kept c = λ node stale. c.follow_status.ensures.follows.kept node
    (subst (λ (x : Threaded). Contains x.stale node) (sym c.self.view_is) stale)

pub move_runner-requires-clause-before : goal.move_runner-requires-clause-before
move_runner-requires-clause-before c p used is =
    let i = c.self.inside in
    let thread = subst (λ (x : Threaded). IsThreadOf x c.args.thread.number) (sym c.self.view_is) c.requires.there in
    let there : at_number i.records.items c.args.thread.number ≡ Some c.index.result.now = number-read i.records.items
    c.args.thread.number c.index.result.now thread.0 thread.1 (rw c.index_of-place.ensures at c.index.ensures) in
    runner-within i.runners.items p c.args.thread.number (c.self.invariant.together.runs.all c.args.thread.number p used
    (ap (λ (o : Option Record). option_map (λ (r : Record). r.status) o) there ∙ ap Some is))

-- what is kept together after the change
kept-after : (c : After-set_competitor)
    → AreOf (sizes_of c.self.inside.lending) c.follow_status.new.graph c.set_competitor.new.self
    c.self.inside.threads.items (set_number c.self.inside.records.items c.args.thread.number c.args.next) (with_runner
    c.args.thread.number c.args.next.status (without_runner c.index.result.now.status c.self.inside.runners.items))
kept-after c =
    let i = c.self.inside in
    let t = c.args.thread.number in
    let next = c.args.next in
    let thread = subst (λ (x : Threaded). IsThreadOf x t) (sym c.self.view_is) c.requires.there in
    let timely = subst (λ (x : Threaded). IsTimely x.quantum next) (sym c.self.view_is) c.requires.timely in
    let there = number-read i.records.items t c.index.result.now thread.0 thread.1
    (rw c.index_of-place.ensures at c.index.ensures) in
    let set = c.set_competitor.ensures.set ∙ ap (λ (o : Option Competitor).
    record i.queue { competitors = set_number i.queue.competitors t o; changed = c.set_competitor.new.self.changed })
    c.competitor_of.ensures in
    let follows = c.follow_status.ensures.follows in
    changed-of i.graph c.follow_status.new.graph i.queue c.set_competitor.new.self i.threads.items i.records.items
    i.runners.items t next c.self.invariant.together thread.0 thread.1 c.index.result.now there follows.now follows.live
    follows.known follows.kept set c.set_competitor.ensures.weights timely
    (λ p used is. subst (λ (x : Threaded). IsBetween 1 x.processors p × ((u more : ℕ) → status_of x.records u ≡ Some
    (Running p more) → u ≡ t)) (sym c.self.view_is) (run-on c.args.self.now t next.status p used is c.requires.run))

pub invariant_of-self : goal.invariant_of-self
invariant_of-self c =
    let i = c.self.inside in
    let now = c.follow_status.ensures.follows.now in
    let together = kept-after (goal.at.invariant_of-self c).After-set_competitor in
    record {
      together = rw c.index_of-place.ensures (subst (λ (rs : List (Option ℕ)).
          AreOf (sizes_of i.lending) c.follow_status.new.graph c.set_competitor.new.self i.threads.items
          (set_number i.records.items c.args.thread.number c.args.next) rs) (sym c.move_runner.ensures.table) together);
      thread_room =
          subst (λ (w : LimitedFunding). i.threads.room ≡ w.thread_limit) (sym now) c.self.invariant.thread_room;
      record_room =
          subst (λ (w : LimitedFunding). i.records.room ≡ w.thread_limit) (sym now) c.self.invariant.record_room;
    }

pub returns-clause-stale : goal.returns-clause-stale
returns-clause-stale c =
    let i = c.self.inside in
    let after = set_number i.records.items c.args.thread.number c.args.next in
    let together = kept-after (goal.at.returns-clause-stale c).After-set_competitor in
    let was = graph-is i.graph i.queue i.threads.items i.records.items i.runners.items c.self.invariant.together in
    let then = graph-is c.follow_status.new.graph c.set_competitor.new.self i.threads.items after (with_runner
    c.args.thread.number c.args.next.status (without_runner c.index.result.now.status i.runners.items)) together in
    rw c.index_of-place.ensures (rw (← c.self.view_is)
    (stale-of i.graph c.follow_status.new.graph (with_lends i.graph.now (lends_in (sizes_of i.lending) i.records.items))
    (with_lends c.follow_status.new.graph.now (lends_in (sizes_of i.lending) after)) (live_in i.records.items)
    (live_in after) was then c.self.invariant.together.live together.live c.follow_status.ensures.follows.reached))

pub follow_status-requires-clause-lend : goal.follow_status-requires-clause-lend
follow_status-requires-clause-lend c =
    let i = c.self.inside in
    let was = graph-is i.graph i.queue i.threads.items i.records.items i.runners.items c.self.invariant.together in
    let same = ap (λ (w : LimitedFunding). w.funding) was in
    subst (λ (f : Funding). CanLend f c.args.thread.number (lend_of (sizes_of i.lending) c.args.next.status)) (sym same)
    (subst (λ (x : Threaded). CanLend (funding_in x) c.args.thread.number (lend_of x.lending c.args.next.status))
    (sym c.self.view_is) c.requires.lend)

pub follow_status-requires-clause-lent : goal.follow_status-requires-clause-lent
follow_status-requires-clause-lent c =
    let i = c.self.inside in
    let thread = subst (λ (x : Threaded). IsThreadOf x c.args.thread.number) (sym c.self.view_is) c.requires.there in
    let there = number-read i.records.items c.args.thread.number c.index.result.now thread.0 thread.1
    (rw c.index_of-place.ensures at c.index.ensures) in
    subst (λ (ls : List Lend). at_number ls c.args.thread.number
    ≡ Some (lend_of (sizes_of i.lending) c.index.result.now.status)) (sym c.self.invariant.together.lends)
    (at_number-map (λ (r : Record). lend_of (sizes_of i.lending) r.status) i.records.items c.args.thread.number
    ∙ ap (option_map (λ (r : Record). lend_of (sizes_of i.lending) r.status)) there)

pub follow_status-requires-clause-lived : goal.follow_status-requires-clause-lived
follow_status-requires-clause-lived c =
    let i = c.self.inside in
    let thread = subst (λ (x : Threaded). IsThreadOf x c.args.thread.number) (sym c.self.view_is) c.requires.there in
    let there = number-read i.records.items c.args.thread.number c.index.result.now thread.0 thread.1
    (rw c.index_of-place.ensures at c.index.ensures) in
    subst (λ (ls : List Bool). at_number ls c.args.thread.number ≡ Some (is_live_status c.index.result.now.status))
    (sym c.self.invariant.together.live) (at_number-map (λ (r : Record). is_live_status r.status) i.records.items
    c.args.thread.number ∙ ap (option_map (λ (r : Record). is_live_status r.status)) there)
