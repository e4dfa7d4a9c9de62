use Rattle.lot_kernel.proofs.Lemmas.{Contains, HasHolders, MakesStale, None, QueueLists, Snapshot, State, Threaded, ap, before_lock, cut-queues, cut-runs, cut-there, freed_in, held-mutexes, holders-lock, keeps-both, length, lock, lock-count, lock-there, makes-held, makes-locked, mutexes-state, nowhere-running, sizes_of, snapshot_of, subst, sym, the_view, trap_refusal, ◌∙◌, ◌≡◌}
use Rattle.lot_machine.specs.declared.trap.Trap.TheVariants as action
use Rattle.lot_kernel.proofs.tables.Tables.lock.Goals as goal

pub lock-requires-clause-nowhere : goal.lock-requires-clause-nowhere
lock-requires-clause-nowhere c =
    let i = c.self.inside in
    let t = c.args.thread.number in
    let m = c.args.mutex.number in
    let s : State = c.args.self.now.state in
    let mid : State = (the_view i).state in
    let none : trap_refusal s t (action.Lock m) ≡ None = sym c.in_default.ensures.refusal in
    let state : mid ≡ record s { mutexes = before_lock s t m } =
    ap (λ (x : Snapshot). x.state) c.self.view_is ∙ c.cut_before_lock.ensures.state
    ∙ ap (λ (x : Snapshot). record x.state { mutexes = before_lock x.state t m }) c.lock_refusal.ensures.unchanged in
    let runs = cut-runs s mid t m c.requires.order c.requires.runs none state in
    nowhere-running i.threads.records i.queues t runs.0 runs.1.0
    (cut-queues s mid t m c.requires.order c.requires.runs none state) runs.1.1

pub invariant_of-self : goal.invariant_of-self
invariant_of-self c =
    let i = c.self.inside in
    let t = c.args.thread.number in
    let m = c.args.mutex.number in
    let s : State = c.args.self.now.state in
    let mid : State = (the_view i).state in
    let none : trap_refusal s t (action.Lock m) ≡ None = sym c.in_default.ensures.refusal in
    let state : mid ≡ record s { mutexes = before_lock s t m } =
    ap (λ (x : Snapshot). x.state) c.self.view_is ∙ c.cut_before_lock.ensures.state
    ∙ ap (λ (x : Snapshot). record x.state { mutexes = before_lock x.state t m }) c.lock_refusal.ensures.unchanged in
    let there = cut-there s mid t m c.requires.order c.requires.runs none state in
    let left = lock i.threads.records i.queues.mutexes t m in
    let count = lock-count i.threads.records i.queues.mutexes t m in
    let threads = held-mutexes (sizes_of i.limits)
    (freed_in i.freed) i.currencies.items i.threads c.lock.new.threads i.queues c.self.invariant.threads left
    c.lock.new.queues i.threads.meter c.lock.ensures.trap.threads c.lock.ensures.trap.queues in
    keeps-both i c.self.invariant c.lock.new.threads c.lock.new.queues threads (ap (λ (v : Threaded). length v.records)
    c.lock.ensures.trap.threads ∙ count) (ap (λ (v : Threaded). v.threads) c.lock.ensures.trap.threads)
    (ap (λ (q : QueueLists). length q.clients) c.lock.ensures.trap.queues)
    (ap (λ (q : QueueLists). q.room) c.lock.ensures.trap.queues)
    (subst (HasHolders (sizes_of i.limits)) (sym c.lock.ensures.trap.queues)
    (holders-lock (sizes_of i.limits) i.queues c.self.invariant.holders m there.0.0 there.1 i.threads.records t))

pub returns-clause-stale : goal.returns-clause-stale
returns-clause-stale c =
    let i = c.self.inside in
    let t = c.args.thread.number in
    let m = c.args.mutex.number in
    let s : State = c.args.self.now.state in
    let mid : State = (the_view i).state in
    let none : trap_refusal s t (action.Lock m) ≡ None = sym c.in_default.ensures.refusal in
    let state : mid ≡ record s { mutexes = before_lock s t m } =
    ap (λ (x : Snapshot). x.state) c.self.view_is ∙ c.cut_before_lock.ensures.state
    ∙ ap (λ (x : Snapshot). record x.state { mutexes = before_lock x.state t m }) c.lock_refusal.ensures.unchanged in
    let there = lock-there s t m none in
    let left = lock i.threads.records i.queues.mutexes t m in
    let threads = held-mutexes (sizes_of i.limits)
    (freed_in i.freed) i.currencies.items i.threads c.lock.new.threads i.queues c.self.invariant.threads left
    c.lock.new.queues i.threads.meter c.lock.ensures.trap.threads c.lock.ensures.trap.queues in
    let locked = mutexes-state (sizes_of i.limits)
    (freed_in i.freed) i.currencies.items i.threads c.lock.new.threads i.queues c.lock.new.queues
    c.self.invariant.threads left i.threads.meter c.lock.ensures.trap.threads c.lock.ensures.trap.queues in
    let first = subst (λ (x : Snapshot). MakesStale x (the_view i)) c.lock_refusal.ensures.unchanged (subst
    (λ (y : Snapshot). MakesStale c.lock_refusal.new.self y) (sym c.self.view_is) c.cut_before_lock.ensures.stale) in
    let second = makes-held (sizes_of i.limits) (freed_in i.freed) i.currencies.items i.currencies.items i.threads
    c.lock.new.threads i.queues c.lock.new.queues c.self.invariant.threads threads c.lock.ensures.stale in
    makes-locked c.args.self.now (the_view i) (snapshot_of (sizes_of i.limits) (freed_in i.freed) i.currencies.items
    c.lock.new.queues c.lock.new.threads) t m there.0.0 there.1 state locked first second

pub returns-clause-kept : goal.returns-clause-kept
returns-clause-kept c x stale =
    let first = c.cut_before_lock.ensures.kept x
    (subst (λ (y : Snapshot). Contains y.stale x) (sym c.lock_refusal.ensures.unchanged) stale) in
    c.lock.ensures.kept x (subst (λ (y : Snapshot). Contains y.stale x) (sym c.self.view_is) first)
