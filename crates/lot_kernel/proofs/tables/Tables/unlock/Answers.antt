use Rattle.lot_kernel.proofs.Lemmas.{Effect, HasHolders, IsThere, MutexTrap, NoMutex, NotOwner, QueueLists, Snapshot, Some, Threaded, ap, false, freed_in, held, held-mutexes, holders-unlock, is_no_mutex, keeps-both, length, makes-held, mutex_at, mutexes-state, nat_eq, not, not-owner, of_mutexes, option_eq, owns, refl, refused-shows, rules, settled_in, sizes_of, subst, sym, the_view, unlock, unlock-count, unlock-counts, unlock-done, unlock-same, waiters-queue, worth_in, ◌∙◌, ◌≡◌, ◌≤◌}
use Rattle.lot_machine.specs.declared.trap.Trap.TheVariants as action
use Rattle.lot_kernel.proofs.tables.Tables.unlock.Goals as goal

pub invariant_of-self : goal.invariant_of-self
invariant_of-self c =
    let i = c.self.inside in
    let there : IsThere i.queues.mutexes c.args.mutex.number = subst (λ (x : Snapshot). IsThere x.state.mutexes
    c.args.mutex.number) (sym c.self.view_is) (c.has_mutex.ensures.there c.if-not-has_mutex.false) in
    let low : c.args.mutex.number ≤ i.limits.mutexes = subst (λ (x : Snapshot). c.args.mutex.number
    ≤ x.state.limits.mutexes) (sym c.self.view_is) (c.has_mutex.ensures.within c.if-not-has_mutex.false) in
    let left = unlock i.threads.records i.queues.mutexes (worth_in i.threads) c.args.mutex.number c.args.d in
    let count = unlock-count i.threads.records i.queues.mutexes (worth_in i.threads) c.args.mutex.number c.args.d in
    let threads = held-mutexes (sizes_of i.limits)
    (freed_in i.freed) i.currencies.items i.threads c.unlock.new.threads i.queues c.self.invariant.threads left
    c.unlock.new.queues c.unlock.new.threads.meter c.unlock.ensures.trap.threads c.unlock.ensures.trap.queues in
    let kept = keeps-both i c.self.invariant c.unlock.new.threads c.unlock.new.queues threads
    (ap (λ (v : Threaded). length v.records) c.unlock.ensures.trap.threads ∙ count)
    (ap (λ (v : Threaded). v.threads) c.unlock.ensures.trap.threads)
    (ap (λ (q : QueueLists). length q.clients) c.unlock.ensures.trap.queues)
    (ap (λ (q : QueueLists). q.room) c.unlock.ensures.trap.queues)
    (subst (HasHolders (sizes_of i.limits)) (sym c.unlock.ensures.trap.queues)
    (holders-unlock (sizes_of i.limits) i.queues c.self.invariant.holders c.args.mutex.number there.0 low
    i.threads.records (worth_in i.threads) c.args.d)) in
    record { threads = kept.threads; count = kept.count; few = kept.few; clients = kept.clients; currencies = kept.currencies; currency_room = kept.currency_room; currency_index = kept.currency_index; currency_places = kept.currency_places; thread_index = kept.thread_index; thread_places = kept.thread_places; queue_room = kept.queue_room; lottery_room = c.unlock.ensures.room ∙ c.self.invariant.lottery_room; freed_room = kept.freed_room; none_freed = kept.none_freed; holders = kept.holders }

pub returns-clause-outcome : goal.returns-clause-outcome
returns-clause-outcome c =
    let i = c.self.inside in
    let s = (the_view i).state in
    let there : IsThere i.queues.mutexes c.args.mutex.number = subst (λ (x : Snapshot). IsThere x.state.mutexes
    c.args.mutex.number) (sym c.self.view_is) (c.has_mutex.ensures.there c.if-not-has_mutex.false) in
    let low : c.args.mutex.number ≤ i.limits.mutexes = subst (λ (x : Snapshot). c.args.mutex.number
    ≤ x.state.limits.mutexes) (sym c.self.view_is) (c.has_mutex.ensures.within c.if-not-has_mutex.false) in
    let owned : (mutex_at i.queues.mutexes c.args.mutex.number).owner ≡ Some c.args.thread.number = search rules in
    rw (← c.self.view_is) (c.unlock.ensures.trap.outcome
    ∙ ap (λ (e : MutexTrap). e.outcome) (unlock-same (sizes_of i.limits)
    (freed_in i.freed) i.currencies.items i.threads i.queues c.self.invariant.threads c.args.mutex.number c.args.d)
    ∙ sym
    (ap (λ (e : Effect). e.outcome) (unlock-done s c.args.thread.number c.args.mutex.number c.args.d there low owned)))

pub returns-clause-after : goal.returns-clause-after
returns-clause-after c =
    let i = c.self.inside in
    let s = (the_view i).state in
    let there : IsThere i.queues.mutexes c.args.mutex.number = subst (λ (x : Snapshot). IsThere x.state.mutexes
    c.args.mutex.number) (sym c.self.view_is) (c.has_mutex.ensures.there c.if-not-has_mutex.false) in
    let low : c.args.mutex.number ≤ i.limits.mutexes = subst (λ (x : Snapshot). c.args.mutex.number
    ≤ x.state.limits.mutexes) (sym c.self.view_is) (c.has_mutex.ensures.within c.if-not-has_mutex.false) in
    let owned : (mutex_at i.queues.mutexes c.args.mutex.number).owner ≡ Some c.args.thread.number = search rules in
    rw (← c.self.view_is) (c.unlock.ensures.trap.after
    ∙ ap (λ (e : MutexTrap). e.after) (unlock-same (sizes_of i.limits)
    (freed_in i.freed) i.currencies.items i.threads i.queues c.self.invariant.threads c.args.mutex.number c.args.d)
    ∙ sym
    (ap (λ (e : Effect). e.after) (unlock-done s c.args.thread.number c.args.mutex.number c.args.d there low owned)))

pub returns-clause-state : goal.returns-clause-state
returns-clause-state c =
    let i = c.self.inside in
    let s = (the_view i).state in
    let left = unlock i.threads.records i.queues.mutexes (worth_in i.threads) c.args.mutex.number c.args.d in
    let there : IsThere i.queues.mutexes c.args.mutex.number = subst (λ (x : Snapshot). IsThere x.state.mutexes
    c.args.mutex.number) (sym c.self.view_is) (c.has_mutex.ensures.there c.if-not-has_mutex.false) in
    let low : c.args.mutex.number ≤ i.limits.mutexes = subst (λ (x : Snapshot). c.args.mutex.number
    ≤ x.state.limits.mutexes) (sym c.self.view_is) (c.has_mutex.ensures.within c.if-not-has_mutex.false) in
    let owned : (mutex_at i.queues.mutexes c.args.mutex.number).owner ≡ Some c.args.thread.number = search rules in
    rw (← c.self.view_is) (mutexes-state (sizes_of i.limits)
    (freed_in i.freed) i.currencies.items i.threads c.unlock.new.threads i.queues c.unlock.new.queues
    c.self.invariant.threads left c.unlock.new.threads.meter c.unlock.ensures.trap.threads c.unlock.ensures.trap.queues
    ∙ ap (λ (e : MutexTrap). (of_mutexes s e).state) (unlock-same (sizes_of i.limits)
    (freed_in i.freed) i.currencies.items i.threads i.queues c.self.invariant.threads c.args.mutex.number c.args.d)
    ∙ sym
    (ap (λ (e : Effect). e.state) (unlock-done s c.args.thread.number c.args.mutex.number c.args.d there low owned)))

pub returns-clause-stale : goal.returns-clause-stale
returns-clause-stale c =
    let i = c.self.inside in
    let left = unlock i.threads.records i.queues.mutexes (worth_in i.threads) c.args.mutex.number c.args.d in
    let threads = held-mutexes (sizes_of i.limits)
    (freed_in i.freed) i.currencies.items i.threads c.unlock.new.threads i.queues c.self.invariant.threads left
    c.unlock.new.queues c.unlock.new.threads.meter c.unlock.ensures.trap.threads c.unlock.ensures.trap.queues in
    rw (← c.self.view_is) (makes-held (sizes_of i.limits) (freed_in i.freed) i.currencies.items i.currencies.items
    i.threads c.unlock.new.threads i.queues c.unlock.new.queues c.self.invariant.threads threads c.unlock.ensures.stale)

pub returns-clause-counts : goal.returns-clause-counts
returns-clause-counts c =
    let i = c.self.inside in
    let owned : (mutex_at i.queues.mutexes c.args.mutex.number).owner ≡ Some c.args.thread.number = search rules in
    let reads = ap (λ (v : Threaded). (settled_in v).meter) c.self.invariant.threads in
    rw (← c.self.view_is)
    (unlock-counts i.threads.records i.queues.mutexes (worth_in i.threads) c.args.mutex.number c.args.d (the_view i)
    (record { state = held (sizes_of i.limits) (freed_in i.freed) i.currencies.items c.unlock.new.threads c.unlock.new.queues; stale = c.unlock.new.threads.stale; meter = c.unlock.new.threads.meter }) c.unlock.result.outcome
    c.unlock.ensures.trap.outcome c.unlock.ensures.settles.kept c.unlock.ensures.settles.uncounted
    (λ some. c.unlock.ensures.settles.counted some
    ∙ reads) c.unlock.ensures.settles.once c.args.thread.number owned c.unlock.ensures.owners)

pub unlock-requires-clause-mutex : goal.unlock-requires-clause-mutex
unlock-requires-clause-mutex c = subst (λ (x : Snapshot). IsThere x.state.mutexes c.args.mutex.number)
    (sym c.self.view_is) (c.has_mutex.ensures.there c.if-not-has_mutex.false)

pub unlock-requires-clause-waiters : goal.unlock-requires-clause-waiters
unlock-requires-clause-waiters c =
    let i = c.self.inside in
    let order = rw (← c.self.view_is) at c.requires.order in
    let runs = rw (← c.self.view_is) at c.requires.runs in
    waiters-queue i.threads.records c.args.thread.number runs.0 runs.1.0 runs.1.1 i.queues.clients i.queues.ports
    i.queues.mutexes order.queues c.args.mutex.number

pub unlock-requires-clause-same : goal.unlock-requires-clause-same
unlock-requires-clause-same c = sym c.self.invariant.clients

pub unlock-requires-clause-owners : goal.unlock-requires-clause-owners
unlock-requires-clause-owners c = sym (ap (λ (v : Threaded). v.owners) c.self.invariant.threads)

pub unlock-requires-clause-room : goal.unlock-requires-clause-room
unlock-requires-clause-room c = c.self.invariant.queue_room ∙ sym c.self.invariant.lottery_room

pub returns-then-not-has_mutex : goal.returns-then-not-has_mutex
returns-then-not-has_mutex c =
    let missing = c.has_mutex.ensures.missing ∙ ap not c.if-not-has_mutex.true in
    let shown = refused-shows c.args.self.now c.args.thread.number
    (action.Unlock c.args.mutex.number c.args.d) NoMutex c.refused.result.outcome c.refused.result.after
    (rw missing refl) c.refused.ensures.outcome c.refused.ensures.after in
    record { outcome = shown.outcome; after = shown.after; state = shown.state; stale = shown.stale; counts = rw c.refused.ensures.outcome (record { kept = shown.kept; meter = shown.meter }) }

pub returns-then-ne : goal.returns-then-ne
returns-then-ne c =
    let old = the_view c.self.inside in
    let missing = ap (λ (x : Snapshot). is_no_mutex x.state c.args.mutex.number) c.self.view_is
    ∙ c.has_mutex.ensures.missing ∙ ap not c.if-not-has_mutex.false in
    let other : owns old.state c.args.thread.number c.args.mutex.number ≡ false =
    not-owner (mutex_at old.state.mutexes c.args.mutex.number).owner c.args.thread.number
    (c.if-ne.ensures ∙ ap (λ o. not (option_eq nat_eq o (Some c.args.thread.number))) c.owner.ensures) in
    let shown = refused-shows old c.args.thread.number (action.Unlock c.args.mutex.number c.args.d) NotOwner
    c.refused-then-ne.result.outcome c.refused-then-ne.result.after
    (rw (missing, other) refl) c.refused-then-ne.ensures.outcome c.refused-then-ne.ensures.after in
    rw (← c.self.view_is)
    (record { outcome = shown.outcome; after = shown.after; state = shown.state; stale = shown.stale; counts = rw c.refused-then-ne.ensures.outcome (record { kept = shown.kept; meter = shown.meter }) })
