use Rattle.lot_graph.proofs.Lemmas.{None, Some, TicketTable, ap, arith, at_number, filled-after, gap-made, set_number, slots-set, subst, sym, ◌-◌, ◌∙◌, ◌≡◌}
use Rattle.lot_graph.proofs.tickets.Tickets.put.Goals as goal

pub invariant_of-self : goal.invariant_of-self
invariant_of-self c =
    let s = c.self.inside in
    let n = c.args.number in
    let (some, low) = gap-made s.records s.made s.room c.self.invariant n
    (subst (λ (v : TicketTable). at_number v.tickets n ≡ Some None) (sym c.self.view_is) c.requires.gap) in
    rw c.index_of.ensures (rw c.of.ensures (filled-after s.records s.made s.room c.self.invariant (n - 1) s.made
    (Some c.args.ticket) (omega (arith, low, c.self.invariant.few)) low (omega arith) c.self.invariant.few))

pub returns : goal.returns
returns c =
    let s = c.self.inside in
    let n = c.args.number in
    rw c.index_of.ensures (rw c.of.ensures
    (ap (λ tickets. let v : TicketTable = record { tickets = tickets; room = s.room } in v)
    (slots-set s.records.slots s.made (n - 1) (Some c.args.ticket))
    ∙ ap (λ (v : TicketTable). record v { tickets = set_number v.tickets n (Some c.args.ticket) }) c.self.view_is))

pub index_of-requires : goal.index_of-requires
index_of-requires c =
    let s = c.self.inside in
    let n = c.args.number in
    (gap-made s.records s.made s.room c.self.invariant n
    (subst (λ (v : TicketTable). at_number v.tickets n ≡ Some None) (sym c.self.view_is) c.requires.gap)).0

pub index_mut-requires : goal.index_mut-requires
index_mut-requires c =
    let s = c.self.inside in
    let n = c.args.number in
    let (some, low) = gap-made s.records s.made s.room c.self.invariant n
    (subst (λ (v : TicketTable). at_number v.tickets n ≡ Some None) (sym c.self.view_is) c.requires.gap) in
    c.self.invariant.given c.index_of.result (omega (arith, low, c.index_of.ensures, c.self.invariant.few))
