use Rattle.lot_kernel.proofs.Lemmas.{CanTarget, Funding, Option, Snapshot, Some, Threaded, Ticket, ap, freed_in, funding_in, held, held-tickets, keeps-threads, length, makes-held, option_map, refl, retargeted, set_number, sizes_of, subst, sym, with_target, ◌∙◌, ◌≡◌}
use Rattle.lot_kernel.proofs.tables.Tables.put_target.Goals as goal

pub apply-requires-clause-allowed : goal.apply-requires-clause-allowed
apply-requires-clause-allowed c =
    let may = subst (λ (f : Funding). CanTarget f c.args.ticket c.args.found.target c.args.target)
    (sym (ap funding_in c.self.invariant.threads)) (rw (← c.self.view_is) at c.requires.target) in
    (c.args.found, rw (← c.self.view_is) at c.requires.found, refl, may)

pub returns-clause-state : goal.returns-clause-state
returns-clause-state c =
    let i = c.self.inside in
    let put : set_number i.threads.tickets c.args.ticket (Some (retargeted c.args.target c.args.found))
    ≡ with_target i.threads.tickets c.args.ticket c.args.target =
    ap (λ (o : Option Ticket). set_number i.threads.tickets c.args.ticket (option_map (retargeted c.args.target) o))
    (sym (rw (← c.self.view_is) at c.requires.found)) in
    rw (← c.self.view_is)
    (ap (λ (v : Threaded). held (sizes_of i.limits) (freed_in i.freed) i.currencies.items v i.queues)
    (c.apply.ensures.applied ∙ ap (λ ts. record i.threads { tickets = ts; stale = c.apply.new.self.stale }) put))

pub returns-clause-stale : goal.returns-clause-stale
returns-clause-stale c =
    let i = c.self.inside in
    let threads = held-tickets (sizes_of i.limits) (freed_in i.freed) i.currencies.items i.threads c.apply.new.self
    i.queues c.self.invariant.threads _ c.apply.ensures.applied in
    rw (← c.self.view_is) (makes-held (sizes_of i.limits) (freed_in i.freed) i.currencies.items i.currencies.items
    i.threads c.apply.new.self i.queues i.queues c.self.invariant.threads threads c.apply.ensures.stale.reached)

pub invariant_of-self : goal.invariant_of-self
invariant_of-self c =
    let i = c.self.inside in
    let is = c.apply.ensures.applied in
    keeps-threads i c.self.invariant c.apply.new.self (held-tickets (sizes_of i.limits)
    (freed_in i.freed) i.currencies.items i.threads c.apply.new.self i.queues c.self.invariant.threads _ is)
    (ap (λ (v : Threaded). length v.records) is) (ap (λ (v : Threaded). v.threads) is)

pub returns-clause-kept : goal.returns-clause-kept
returns-clause-kept c = rw (← c.self.view_is) c.apply.ensures.stale.kept

pub returns-clause-meter : goal.returns-clause-meter
returns-clause-meter c = ap (λ (v : Threaded). v.meter) c.apply.ensures.applied
    ∙ ap (λ (x : Snapshot). x.meter) c.self.view_is
