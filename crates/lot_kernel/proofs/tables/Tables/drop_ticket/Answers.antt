use Rattle.lot_kernel.proofs.Lemmas.{FreeStack, IsInOrder, Snapshot, Threaded, Unfunded, ap, arith, freed_in, funding_of, held, held-tickets, none-tickets, room-on, room-tickets, rules, sizes_of, sym, ticket-fits, ticket-left, ticket-some, ticket-with, ◌∙◌}
use Rattle.lot_kernel.proofs.tables.Tables.drop_ticket.Goals as goal

pub index_of-requires : goal.index_of-requires
index_of-requires c =
    let s = c.args.self.now.state in
    let (t, there) = ticket-with (funding_of s) c.args.ticket Unfunded c.requires.unfunded in
    ticket-some s.tickets c.args.ticket t (sym there)

pub leave-requires : goal.leave-requires
leave-requires c =
    let i = c.self.inside in
    let s = held (sizes_of i.limits) (freed_in i.freed) i.currencies.items i.threads i.queues in
    let order : IsInOrder s = rw (← c.self.view_is) at c.requires.order in
    let (t, there) = ticket-with (funding_of s) c.args.ticket Unfunded (rw (← c.self.view_is) at c.requires.unfunded) in
    record { room = λ on. omega (arith, ticket-fits s order on c.args.ticket t there, (room-on (sizes_of c.self.inside.limits) c.self.inside.freed c.self.invariant.freed_room on).0) }

pub returns-clause-state : goal.returns-clause-state
returns-clause-state c =
    let i = c.self.inside in
    let s = held (sizes_of i.limits) (freed_in i.freed) i.currencies.items i.threads i.queues in
    let left = ticket-left s c.self.invariant.none_freed c.args.ticket in
    search (rules, left)

pub invariant_of-self : goal.invariant_of-self
invariant_of-self c =
    let i = c.self.inside in
    let threads = held-tickets (sizes_of i.limits) (freed_in i.freed) i.currencies.items i.threads c.apply.new.self
    i.queues c.self.invariant.threads _ c.apply.ensures.applied in
    let room = room-tickets (sizes_of i.limits) i.freed c.self.invariant.freed_room c.leave.new.self
    (ap (λ (x : FreeStack). x.room) c.leave.ensures) in
    let none = none-tickets i.limits.reuse i.freed c.self.invariant.none_freed c.leave.new.self _
    (ap (λ (x : FreeStack). x.places) c.leave.ensures) in
    search (rules, threads, room, none)

pub returns-clause-stale : goal.returns-clause-stale
returns-clause-stale c = c.apply.ensures.stale.same tt ∙ ap (λ (x : Snapshot). x.stale) c.self.view_is

pub returns-clause-meter : goal.returns-clause-meter
returns-clause-meter c = ap (λ (v : Threaded). v.meter) c.apply.ensures.applied
    ∙ ap (λ (x : Snapshot). x.meter) c.self.view_is
