use Rattle.lot_graph.proofs.Lemmas.{IsSome, Option, Ticket, TicketTable, ap, arith, filled-after, map, option_flatten, option_map, reissued, slice_set, slots-set, subst, sym, take, there-made, ticket-seen, ticket_in, with_amount, ◌-◌, ◌∙◌}
use Rattle.lot_graph.proofs.tickets.Tickets.set_amount.Goals as goal

pub returns : goal.returns
returns c =
    let s = c.self.inside in
    let n = c.args.number in
    let there = there-made s.records s.made s.room c.self.invariant n
    (subst (λ (v : TicketTable). IsSome (ticket_in v.tickets n)) (sym c.self.view_is) c.requires.there) in
    let was = rw c.index_of.ensures at c.index_mut.ensures.value in
    let is = ticket-seen s.records s.made s.room c.self.invariant n there.0 ∙ ap option_flatten was in
    rw c.index_of.ensures
    (ap (λ tickets. let v : TicketTable = record { tickets = tickets; room = s.room } in v)
    (rw c.set_amount.ensures
    (slots-set s.records.slots s.made (n - 1) (option_map (reissued c.args.amount) c.index_mut.result.now))
    ∙ ap (λ (o : Option Ticket). slice_set (map option_flatten (take s.made s.records.slots)) (n - 1)
    (option_map (reissued c.args.amount) o)) (sym is))
    ∙ ap (λ (v : TicketTable). record v { tickets = with_amount v.tickets n c.args.amount }) c.self.view_is)

pub index_of-requires : goal.index_of-requires
index_of-requires c =
    let s = c.self.inside in
    let n = c.args.number in
    (there-made s.records s.made s.room c.self.invariant n
    (subst (λ (v : TicketTable). IsSome (ticket_in v.tickets n)) (sym c.self.view_is) c.requires.there)).0

pub index_mut-requires : goal.index_mut-requires
index_mut-requires c =
    let s = c.self.inside in
    let n = c.args.number in
    let (some, low) = there-made s.records s.made s.room c.self.invariant n
    (subst (λ (v : TicketTable). IsSome (ticket_in v.tickets n)) (sym c.self.view_is) c.requires.there) in
    c.self.invariant.given c.index_of.result (omega (arith, low, c.index_of.ensures, c.self.invariant.few))

pub invariant_of-self : goal.invariant_of-self
invariant_of-self c =
    let s = c.self.inside in
    let n = c.args.number in
    let (some, low) = there-made s.records s.made s.room c.self.invariant n
    (subst (λ (v : TicketTable). IsSome (ticket_in v.tickets n)) (sym c.self.view_is) c.requires.there) in
    rw c.index_of.ensures (rw c.set_amount.ensures (filled-after s.records s.made s.room c.self.invariant (n - 1) s.made
    (option_map (reissued c.args.amount) c.index_mut.result.now) (omega (arith, low, c.self.invariant.few)) low
    (omega arith) c.self.invariant.few))
