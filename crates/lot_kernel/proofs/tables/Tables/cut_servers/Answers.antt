use Rattle.lot_kernel.proofs.Lemmas.{Bool, Funding, HasHolders, HasNoCycle, List, MakesStaleIn, Mutex, QueueLists, Snapshot, State, Threaded, ap, cut-held, cut-state, freed_in, funding_in, funding_of, holders-all, holders-unserved, holders_from, keeps-both, lends_lead, length, length-map, makes-held, mutex_at, owner_of, owners-left, owners_of, port_holders, sizes_of, subst, sym, the_view, unserved, unserved-count, ℕ, ◌∙◌}
use Rattle.lot_kernel.proofs.tables.Tables.cut_servers.Goals as goal

pub free_leading-requires-clause-no_cycle : goal.free_leading-requires-clause-no_cycle
free_leading-requires-clause-no_cycle c =
    let untied = rw (← c.self.view_is) at c.requires.no_cycle in
    subst HasNoCycle (sym (ap funding_in c.self.invariant.threads)) untied

pub follow_owners-requires-clause-count : goal.follow_owners-requires-clause-count
follow_owners-requires-clause-count c =
    let i = c.self.inside in
    let test : ℕ → Bool = λ u. lends_lead (funding_in i.threads) u c.args.thread.number in
    let ns = holders_from (length i.queues.mutexes) i.limits.mutexes in
    ap (λ (v : Threaded). length v.owners) (c.free_leading.ensures.threads ∙ c.self.invariant.threads)
    ∙ length-map i.queues.mutexes (λ (m : Mutex). m.owner)
    ∙ sym
    (ap (λ (q : QueueLists). length q.mutexes) c.free_leading.ensures.queues ∙ unserved-count test i.queues.mutexes ns)

pub follow_owners-requires-clause-left : goal.follow_owners-requires-clause-left
follow_owners-requires-clause-left c m some =
    let i = c.self.inside in
    let test : ℕ → Bool = λ u. lends_lead (funding_in i.threads) u c.args.thread.number in
    let ns = holders_from (length i.queues.mutexes) i.limits.mutexes in
    let queues = ap (λ (q : QueueLists). (mutex_at q.mutexes m).owner) c.free_leading.ensures.queues in
    let same = sym (ap (λ (v : Threaded). v.owners) c.self.invariant.threads) in
    ap (λ (v : Threaded). owner_of (funding_in v) m) c.free_leading.ensures.threads
    ∙ owners-left i.threads test i.queues.mutexes ns same m (λ e. some (queues ∙ e)) ∙ sym queues

pub invariant_of-self : goal.invariant_of-self
invariant_of-self c =
    let i = c.self.inside in
    let test : ℕ → Bool = λ u. lends_lead (funding_in i.threads) u c.args.thread.number in
    let ns = holders_from (length i.queues.mutexes) i.limits.mutexes in
    let threads = c.follow_owners.ensures.threads ∙ ap (λ (v : Threaded).
    record v { owners = owners_of c.free_leading.new.queues.mutexes; stale = c.follow_owners.new.threads.stale })
    c.free_leading.ensures.threads
    ∙ ap
    (λ (q : QueueLists). record i.threads { owners = owners_of q.mutexes; stale = c.follow_owners.new.threads.stale })
    c.free_leading.ensures.queues in
    let held = cut-held (sizes_of i.limits) (freed_in i.freed) i.currencies.items i.threads c.follow_owners.new.threads
    i.queues c.free_leading.new.queues c.self.invariant.threads
    (unserved test i.queues.mutexes ns) threads c.free_leading.ensures.queues in
    keeps-both i c.self.invariant c.follow_owners.new.threads c.free_leading.new.queues held
    (ap (λ (v : Threaded). length v.records) threads) (ap (λ (v : Threaded). v.threads) threads)
    (ap (λ (q : QueueLists). length q.clients) c.free_leading.ensures.queues)
    (ap (λ (q : QueueLists). q.room) c.free_leading.ensures.queues)
    (subst (HasHolders (sizes_of i.limits)) (sym c.free_leading.ensures.queues)
    (holders-unserved (sizes_of i.limits) test i.queues ns c.self.invariant.holders))

pub returns-clause-state : goal.returns-clause-state
returns-clause-state c =
    let i = c.self.inside in
    let test : ℕ → Bool = λ u. lends_lead (funding_in i.threads) u c.args.thread.number in
    let ns = holders_from (length i.queues.mutexes) i.limits.mutexes in
    let t = c.args.thread.number in
    let s : State = (the_view i).state in
    let threads = c.follow_owners.ensures.threads ∙ ap (λ (v : Threaded).
    record v { owners = owners_of c.free_leading.new.queues.mutexes; stale = c.follow_owners.new.threads.stale })
    c.free_leading.ensures.threads
    ∙ ap
    (λ (q : QueueLists). record i.threads { owners = owners_of q.mutexes; stale = c.follow_owners.new.threads.stale })
    c.free_leading.ensures.queues in
    cut-state (sizes_of i.limits) (freed_in i.freed) i.currencies.items i.threads c.follow_owners.new.threads i.queues
    c.free_leading.new.queues c.self.invariant.threads
    (unserved test i.queues.mutexes ns) threads c.free_leading.ensures.queues
    ∙ ap (λ (f : Funding). record s { mutexes = unserved (λ u. lends_lead f u t) s.mutexes ns })
    (ap funding_in c.self.invariant.threads)
    ∙ ap (λ (xs : List ℕ). record s { mutexes = unserved (λ u. lends_lead (funding_of s) u t) s.mutexes xs })
    (holders-all (sizes_of i.limits) (length i.queues.mutexes) c.self.invariant.holders.mutexes)
    ∙ ap (λ (x : Snapshot). record x.state { mutexes = unserved (λ u. lends_lead (funding_of x.state) u t) x.state.mutexes (port_holders x.state.limits) }) c.self.view_is

pub returns-clause-stale : goal.returns-clause-stale
returns-clause-stale c =
    let i = c.self.inside in
    let test : ℕ → Bool = λ u. lends_lead (funding_in i.threads) u c.args.thread.number in
    let ns = holders_from (length i.queues.mutexes) i.limits.mutexes in
    let threads = c.follow_owners.ensures.threads ∙ ap (λ (v : Threaded).
    record v { owners = owners_of c.free_leading.new.queues.mutexes; stale = c.follow_owners.new.threads.stale })
    c.free_leading.ensures.threads
    ∙ ap
    (λ (q : QueueLists). record i.threads { owners = owners_of q.mutexes; stale = c.follow_owners.new.threads.stale })
    c.free_leading.ensures.queues in
    let held = cut-held (sizes_of i.limits) (freed_in i.freed) i.currencies.items i.threads c.follow_owners.new.threads
    i.queues c.free_leading.new.queues c.self.invariant.threads
    (unserved test i.queues.mutexes ns) threads c.free_leading.ensures.queues in
    let makes = subst (λ (v : Threaded). MakesStaleIn v c.follow_owners.new.threads) c.free_leading.ensures.threads
    c.follow_owners.ensures.stale in
    rw (← c.self.view_is) (makes-held (sizes_of i.limits) (freed_in i.freed) i.currencies.items i.currencies.items
    i.threads c.follow_owners.new.threads i.queues c.free_leading.new.queues c.self.invariant.threads held makes)
