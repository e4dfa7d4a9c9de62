use Rattle.lot_kernel.proofs.Lemmas.{LimitedFunding, Snapshot, ap, are_tickets_full, false, free_tickets, freed_in, held, is_none_free, length, nat_le, sizes_of, sym, true, ◌&&◌, ◌∙◌, ◌≡◌}
use Rattle.lot_kernel.proofs.Reusing.{given-tickets}
use Rattle.lot_kernel.proofs.tables.Tables.are_tickets_full.Goals as goal

pub returns-then-is_empty : goal.returns-then-is_empty
returns-then-is_empty c =
    let i = c.self.inside in
    let s = held (sizes_of i.limits) (freed_in i.freed) i.currencies.items i.threads i.queues in
    let none : is_none_free (free_tickets s) ≡ true = ap is_none_free (given-tickets s c.self.invariant.none_freed)
    ∙ sym c.is_empty.ensures ∙ c.if-is_empty.true in
    ap (nat_le i.limits.tickets)
    (c.ticket_count.ensures ∙ ap (λ (w : LimitedFunding). length w.funding.tickets) c.graph.ensures)
    ∙ sym (ap (λ b. b && nat_le s.limits.tickets (length s.tickets)) none)
    ∙ ap (λ (x : Snapshot). are_tickets_full x.state) c.self.view_is

pub returns-else-is_empty : goal.returns-else-is_empty
returns-else-is_empty c =
    let i = c.self.inside in
    let s = held (sizes_of i.limits) (freed_in i.freed) i.currencies.items i.threads i.queues in
    let some : is_none_free (free_tickets s) ≡ false = ap is_none_free (given-tickets s c.self.invariant.none_freed)
    ∙ sym c.is_empty.ensures ∙ c.if-is_empty.false in
    c.if-is_empty.false ∙ sym (ap (λ b. b && nat_le s.limits.tickets (length s.tickets)) some)
    ∙ ap (λ (x : Snapshot). are_tickets_full x.state) c.self.view_is
