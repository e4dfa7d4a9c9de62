use Rattle.lot_kernel.proofs.Lemmas.{Snapshot, Threaded, ap, freed_in, held, held-tickets, keeps-threads, length, makes-held, sizes_of, with_amount, ◌∙◌}
use Rattle.lot_kernel.proofs.tables.Tables.set_amount.Goals as goal

pub apply-requires-clause-allowed : goal.apply-requires-clause-allowed
apply-requires-clause-allowed c = let (before, there) = rw (← c.self.view_is) at c.requires.there in
    (before, there, c.requires.amount)

pub returns-clause-stale : goal.returns-clause-stale
returns-clause-stale c =
    let i = c.self.inside in
    let threads = held-tickets (sizes_of i.limits) (freed_in i.freed) i.currencies.items i.threads c.apply.new.self
    i.queues c.self.invariant.threads _ c.apply.ensures.applied in
    rw (← c.self.view_is) (makes-held (sizes_of i.limits) (freed_in i.freed) i.currencies.items i.currencies.items
    i.threads c.apply.new.self i.queues i.queues c.self.invariant.threads threads c.apply.ensures.stale.reached)

pub returns-clause-state : goal.returns-clause-state
returns-clause-state c =
    let i = c.self.inside in
    ap (λ (v : Threaded). held (sizes_of i.limits) (freed_in i.freed) i.currencies.items v i.queues)
    c.apply.ensures.applied
    ∙ ap (λ (x : Snapshot). record x.state { tickets = with_amount x.state.tickets c.args.ticket c.args.amount })
    c.self.view_is

pub invariant_of-self : goal.invariant_of-self
invariant_of-self c =
    let i = c.self.inside in
    let is = c.apply.ensures.applied in
    keeps-threads i c.self.invariant c.apply.new.self (held-tickets (sizes_of i.limits)
    (freed_in i.freed) i.currencies.items i.threads c.apply.new.self i.queues c.self.invariant.threads _ is)
    (ap (λ (v : Threaded). length v.records) is) (ap (λ (v : Threaded). v.threads) is)

pub returns-clause-kept : goal.returns-clause-kept
returns-clause-kept c = rw (← c.self.view_is) c.apply.ensures.stale.kept

pub returns-clause-meter : goal.returns-clause-meter
returns-clause-meter c = ap (λ (v : Threaded). v.meter) c.apply.ensures.applied
    ∙ ap (λ (x : Snapshot). x.meter) c.self.view_is
