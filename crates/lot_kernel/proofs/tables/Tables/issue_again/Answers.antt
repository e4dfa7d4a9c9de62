use Rattle.lot_kernel.proofs.Lemmas.{FreeStack, IsInOrder, IsIndexOf, Some, Threaded, ap, arith, first-ticket_gap, freed_in, gap-number, held, held-tickets, length, names_of, popped-tickets, refl, room-tickets, sizes_of, slice_get, slice_get_within, subst, sym, ticket-number, ticket-there, ◌+◌, ◌∙◌}
use Rattle.lot_kernel.proofs.tables.Tables.issue_again.Goals as goal

pub overflow_add-number : goal.overflow_add-number
overflow_add-number c =
    let i = c.self.inside in
    let s = held (sizes_of i.limits) (freed_in i.freed) i.currencies.items i.threads i.queues in
    let order : IsInOrder s = rw (← c.self.view_is) at c.requires.order in
    let gap = first-ticket_gap s order c.self.invariant.none_freed c.in_ok-place.place c.in_ok-place.ensures.first in
    omega (arith, slice_get_within s.tickets c.in_ok-place.place _ gap, order.ticket_count, order.bounds.of_tickets)

pub apply-requires-clause-allowed : goal.apply-requires-clause-allowed
apply-requires-clause-allowed c =
    let i = c.self.inside in
    let s = held (sizes_of i.limits) (freed_in i.freed) i.currencies.items i.threads i.queues in
    let order : IsInOrder s = rw (← c.self.view_is) at c.requires.order in
    let gap = first-ticket_gap s order c.self.invariant.none_freed c.in_ok-place.place c.in_ok-place.ensures.first in
    let flags = ap (λ (v : Threaded). slice_get v.currencies c.args.ticket.issuer) c.self.invariant.threads in
    (gap-number s.tickets c.in_ok-place.place gap, flags ∙ (rw (← c.self.view_is) at c.requires.issuer), c.requires.amount, c.requires.unfunded)

pub invariant_of-self-2 : goal.invariant_of-self-2
invariant_of-self-2 c =
    let i = c.self.inside in
    let records = ap (λ (v : Threaded). length v.records) c.apply.ensures.applied in
    record {
      threads = held-tickets (sizes_of i.limits) (freed_in i.freed) i.currencies.items i.threads c.apply.new.self
          i.queues c.self.invariant.threads _ c.apply.ensures.applied;
      count = ap (λ (v : Threaded). length v.threads) c.apply.ensures.applied ∙ c.self.invariant.count ∙ sym records;
      few = omega (arith, c.self.invariant.few, records);
      clients = c.self.invariant.clients ∙ sym records;
      currencies = c.self.invariant.currencies;
      currency_room = c.self.invariant.currency_room;
      currency_index = c.self.invariant.currency_index;
      currency_places = c.self.invariant.currency_places;
      thread_index = subst (λ ts. IsIndexOf i.thread_index (names_of ts))
          (sym (ap (λ (v : Threaded). v.threads) c.apply.ensures.applied)) c.self.invariant.thread_index;
      thread_places = c.self.invariant.thread_places;
      queue_room = c.self.invariant.queue_room;
      lottery_room = c.self.invariant.lottery_room;
      freed_room = room-tickets (sizes_of i.limits) i.freed c.self.invariant.freed_room c.pop.new.self
          (ap (λ (x : FreeStack). x.room) c.pop.ensures.rest);
      none_freed = popped-tickets i.limits.reuse i.freed c.self.invariant.none_freed c.pop.new.self
          (ap (λ (x : FreeStack). x.places) c.pop.ensures.rest);
      holders = c.self.invariant.holders;
    }

pub returns-clause-number : goal.returns-clause-number
returns-clause-number c =
    let i = c.self.inside in
    let s = held (sizes_of i.limits) (freed_in i.freed) i.currencies.items i.threads i.queues in
    rw (← c.self.view_is) (ticket-number s c.self.invariant.none_freed (Some c.in_ok-place.place)
    (Some (c.in_ok-place.place + 1)) c.in_ok-place.ensures.first refl)

pub returns-clause-issued : goal.returns-clause-issued
returns-clause-issued c =
    let i = c.self.inside in
    rw (← c.self.view_is)
    (ticket-there (sizes_of i.limits) (freed_in i.freed) i.currencies.items i.threads c.apply.new.self i.queues
    c.pop.new.self.places c.self.invariant.none_freed (c.apply.ensures.stale.same tt)
    c.in_ok-place.place c.args.ticket c.apply.ensures.applied
    (ap (λ (x : FreeStack). x.places) c.pop.ensures.rest) c.in_ok-place.ensures.first)
