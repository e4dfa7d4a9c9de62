use Rattle.lot_kernel.proofs.Lemmas.{Threaded, ap, freed_in, held-tickets, keeps-threads, length, sizes_of}
use Rattle.lot_kernel.proofs.tables.Tables.issue_last.Goals as goal

pub invariant_of-self : goal.invariant_of-self
invariant_of-self c =
    let i = c.self.inside in
    let is = c.apply.ensures.applied in
    keeps-threads i c.self.invariant c.apply.new.self (held-tickets (sizes_of i.limits)
    (freed_in i.freed) i.currencies.items i.threads c.apply.new.self i.queues c.self.invariant.threads _ is)
    (ap (λ (v : Threaded). length v.records) is) (ap (λ (v : Threaded). v.threads) is)
