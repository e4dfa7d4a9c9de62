use Rattle.lot_kernel.proofs.Lemmas.{Funding, Snapshot, Threaded, ap, counted_up, edges_into_all, freed_in, funding_in, held, keeps-settled, sizes_of, [], ◌∙◌}
use Rattle.lot_kernel.proofs.tables.Tables.settle.Goals as goal

pub returns-clause-settled : goal.returns-clause-settled
returns-clause-settled c =
    let i = c.self.inside in
    let seen : Threaded → Snapshot = λ v.
    record { state = held (sizes_of i.limits) (freed_in i.freed) i.currencies.items v i.queues; stale = v.stale; meter = v.meter } in
    let counted : Funding → Snapshot = λ f.
    record (seen i.threads) { stale = []; meter = record i.threads.meter { ticket_reads = counted_up i.threads.meter.ticket_reads (edges_into_all f i.threads.stale) } } in
    rw (← c.self.view_is) (ap seen c.settle.ensures.settled ∙ ap counted (ap funding_in c.self.invariant.threads))

pub invariant_of-self : goal.invariant_of-self
invariant_of-self c = keeps-settled c.self.inside c.self.invariant c.settle.new.self c.settle.ensures.settled
