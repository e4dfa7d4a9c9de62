use Rattle.lot_kernel.proofs.Lemmas.{IsThere, List, Mutex, QueueLists, Threaded, ap, freed_in, hand-mutex, inl, keeps-both, length, makes-held, options-differ, options-same, owner-seen, refl, server-held, server-holders, server-same, server-state, sizes_of, sym, the_view, ◌<◌, ◌∙◌}
use Rattle.lot_kernel.proofs.tables.Tables.set_server.Goals as goal

pub owner-requires : goal.owner-requires
owner-requires c = rw (← c.self.view_is) at c.requires.there

pub returns-then-eq : goal.returns-then-eq
returns-then-eq c =
    let i = c.self.inside in
    let there : IsThere i.queues.mutexes c.args.holder = rw (← c.self.view_is) at c.requires.there in
    let above : i.limits.mutexes < c.args.holder = rw (← c.self.view_is) at c.requires.holder in
    let owned = sym c.owner.ensures ∙ options-same c.owner.result c.args.server c.eq.result c.eq.ensures c.if-eq.true in
    let same = server-same i.queues.mutexes c.args.holder c.args.server there
    (c.self.invariant.holders.unwaited c.args.holder above) owned in
    rw (← c.self.view_is)
    (record { state = ap (λ (ms : List Mutex). record (the_view i).state { mutexes = ms }) same; stale = λ x is. inl is; kept = λ x is. is; meter = refl })

pub set_owner-requires : goal.set_owner-requires
set_owner-requires c = rw (← c.self.view_is) at c.requires.there

pub replace_owner-requires-clause-mutex : goal.replace_owner-requires-clause-mutex
replace_owner-requires-clause-mutex c =
    let i = c.self.inside in
    let there : IsThere i.queues.mutexes c.args.holder = rw (← c.self.view_is) at c.requires.there in
    hand-mutex i.threads i.queues.mutexes c.args.holder there
    (sym (ap (λ (v : Threaded). v.owners) c.self.invariant.threads))

pub replace_owner-requires-clause-other : goal.replace_owner-requires-clause-other
replace_owner-requires-clause-other c e =
    let i = c.self.inside in
    let owned = owner-seen i.threads i.queues.mutexes c.args.holder
    (sym (ap (λ (v : Threaded). v.owners) c.self.invariant.threads)) in
    options-differ c.owner.result c.args.server c.eq.result c.eq.ensures c.if-eq.false (c.owner.ensures ∙ sym owned ∙ e)

pub replace_owner-requires-clause-live : goal.replace_owner-requires-clause-live
replace_owner-requires-clause-live c = rw (← c.self.view_is) at c.requires.live

pub invariant_of-self : goal.invariant_of-self
invariant_of-self c =
    let i = c.self.inside in
    let above : i.limits.mutexes < c.args.holder = rw (← c.self.view_is) at c.requires.holder in
    let unwaited = c.self.invariant.holders.unwaited c.args.holder above in
    let new = c.replace_owner.new.threads in
    let is = c.replace_owner.ensures.threads in
    let held = server-held (sizes_of i.limits) (freed_in i.freed) i.currencies.items i.threads new i.queues
    c.set_owner.new.self c.self.invariant.threads c.args.holder c.args.server unwaited is c.set_owner.ensures in
    let holders =
    server-holders (sizes_of i.limits) (freed_in i.freed) i.currencies.items i.threads new i.queues c.set_owner.new.self
    c.self.invariant.threads c.args.holder c.args.server unwaited is c.set_owner.ensures c.self.invariant.holders in
    keeps-both i c.self.invariant new c.set_owner.new.self held (ap (λ (v : Threaded). length v.records) is)
    (ap (λ (v : Threaded). v.threads) is)
    (ap (λ (q : QueueLists). length q.clients) c.set_owner.ensures)
    (ap (λ (q : QueueLists). q.room) c.set_owner.ensures) holders

pub returns : goal.returns
returns c =
    let i = c.self.inside in
    let above : i.limits.mutexes < c.args.holder = rw (← c.self.view_is) at c.requires.holder in
    let unwaited = c.self.invariant.holders.unwaited c.args.holder above in
    let new = c.replace_owner.new.threads in
    let is = c.replace_owner.ensures.threads in
    let held = server-held (sizes_of i.limits) (freed_in i.freed) i.currencies.items i.threads new i.queues
    c.set_owner.new.self c.self.invariant.threads c.args.holder c.args.server unwaited is c.set_owner.ensures in
    let state = server-state (sizes_of i.limits) (freed_in i.freed) i.currencies.items i.threads new i.queues
    c.set_owner.new.self c.self.invariant.threads c.args.holder c.args.server unwaited is c.set_owner.ensures in
    rw (← c.self.view_is) (record {
      state = state;
      stale = makes-held (sizes_of i.limits) (freed_in i.freed) i.currencies.items i.currencies.items i.threads new
          i.queues c.set_owner.new.self c.self.invariant.threads held c.replace_owner.ensures.stale;
      kept = c.replace_owner.ensures.kept;
      meter = ap (λ (v : Threaded). v.meter) is;
    })
