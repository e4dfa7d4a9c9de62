use Rattle.lot_kernel.proofs.Lemmas.{Funding, HasNoCycle, List, MakesStale, Mutex, Snapshot, Threaded, ap, arith, cut-fails, cut-passes, false, freed_in, funding_in, funding_of, held, inl, lends_lead, length, locks-off, mutex_at, option_any, port_holders, refl, running-there, sizes_of, snapshot_of, subst, sym, the_view, unserved, ◌∙◌, ◌≡◌}
use Rattle.lot_kernel.proofs.tables.Tables.cut_before_lock.Goals as goal

pub returns-then-not-self : goal.returns-then-not-self
returns-then-not-self c =
    let s = c.args.self.now.state in
    let off : s.limits.queued_lend ≡ false = ap (λ (x : Snapshot). x.state.limits.queued_lend) (sym c.self.view_is)
    ∙ c.if-not-self.true in
    record { state = ap (λ ms. record s { mutexes = ms }) (sym (locks-off s c.args.thread.number c.args.mutex.number off)); stale = λ x is. inl is; kept = λ x is. is; meter = refl }

pub does_lead-requires-clause-no_cycle : goal.does_lead-requires-clause-no_cycle
does_lead-requires-clause-no_cycle c =
    let order = rw (← c.self.view_is) at c.requires.order in
    subst HasNoCycle (sym (ap funding_in c.self.invariant.threads)) order.no_cycle

pub cut_servers-requires-clause-thread : goal.cut_servers-requires-clause-thread
cut_servers-requires-clause-thread c =
    let there =
    running-there c.self.inside.threads.records c.args.thread.number (rw (← c.self.view_is) at c.requires.runs) in
    (there.0, omega (arith, there.1, ap (λ (v : Threaded). length v.records) c.does_lead.ensures.unchanged))

pub returns-then-does_lead-clause-state : goal.returns-then-does_lead-clause-state
returns-then-does_lead-clause-state c =
    let i = c.self.inside in
    let t = c.args.thread.number in
    let now = c.args.self.now in
    let seen = ap (snapshot_of (sizes_of i.limits) (freed_in i.freed) i.currencies.items i.queues)
    c.does_lead.ensures.unchanged ∙ c.self.view_is in
    let led = sym (c.does_lead.ensures.leads ∙ ap
    (λ (f : Funding). option_any (λ u. lends_lead f u t) c.owner-owner.result) (ap funding_in c.self.invariant.threads)
    ∙ ap (option_any (λ u. lends_lead (funding_of (the_view i).state) u t)) c.owner-owner.ensures
    ∙ ap (λ (x : Snapshot). option_any (λ u. lends_lead (funding_of x.state) u t)
    (mutex_at x.state.mutexes c.args.mutex.number).owner) c.self.view_is) in
    c.cut_servers.ensures.state ∙ ap (λ (x : Snapshot).
    record x.state { mutexes = unserved (λ u. lends_lead (funding_of x.state) u t) x.state.mutexes (port_holders x.state.limits) }) seen
    ∙ ap (λ (ms : List Mutex). record now.state { mutexes = ms })
    (cut-passes now.state c.requires.order.no_cycle t c.args.mutex.number c.requires.other (led ∙ c.if-does_lead.true))

pub returns-then-does_lead-clause-stale : goal.returns-then-does_lead-clause-stale
returns-then-does_lead-clause-stale c =
    let i = c.self.inside in
    let seen = ap (snapshot_of (sizes_of i.limits) (freed_in i.freed) i.currencies.items i.queues)
    c.does_lead.ensures.unchanged ∙ c.self.view_is in
    subst (λ (x : Snapshot). MakesStale x c.cut_servers.new.self) seen c.cut_servers.ensures.stale

pub returns-else-does_lead-clause-state : goal.returns-else-does_lead-clause-state
returns-else-does_lead-clause-state c =
    let i = c.self.inside in
    let t = c.args.thread.number in
    let now = c.args.self.now in
    let led = sym (c.does_lead.ensures.leads ∙ ap
    (λ (f : Funding). option_any (λ u. lends_lead f u t) c.owner-owner.result) (ap funding_in c.self.invariant.threads)
    ∙ ap (option_any (λ u. lends_lead (funding_of (the_view i).state) u t)) c.owner-owner.ensures
    ∙ ap (λ (x : Snapshot). option_any (λ u. lends_lead (funding_of x.state) u t)
    (mutex_at x.state.mutexes c.args.mutex.number).owner) c.self.view_is) in
    ap (λ (w : Threaded). held (sizes_of i.limits) (freed_in i.freed) i.currencies.items w i.queues)
    c.does_lead.ensures.unchanged ∙ ap (λ (x : Snapshot). x.state) c.self.view_is
    ∙ ap (λ (ms : List Mutex). record now.state { mutexes = ms })
    (cut-fails now.state c.requires.order.no_cycle t c.args.mutex.number c.requires.other (led ∙ c.if-does_lead.false))

pub returns-else-does_lead-clause-stale : goal.returns-else-does_lead-clause-stale
returns-else-does_lead-clause-stale c =
    let i = c.self.inside in
    let seen = ap (snapshot_of (sizes_of i.limits) (freed_in i.freed) i.currencies.items i.queues)
    c.does_lead.ensures.unchanged ∙ c.self.view_is in
    subst (λ (x : Snapshot). MakesStale c.args.self.now x) (sym seen) (λ x is. inl is)
