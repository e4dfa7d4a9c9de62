use Rattle.lot_kernel.proofs.Lemmas.{FreeStack, IsInOrder, IsIndexOf, List, Some, Threaded, ap, arith, currency-number, currency-there, first-currency_gap, freed_in, gap-free, held, held-again, is_some, length, length-set, names_of, option_map, popped-currencies, room-currencies, sizes_of, slice_get, slice_get-map, slice_get_within, slice_set, snapshot_of, subst, sym, with_currency, ℕ, ◌∙◌}
use Rattle.lot_kernel.proofs.tables.Tables.add_currency_again.Goals as goal

pub apply-requires-clause-allowed : goal.apply-requires-clause-allowed
apply-requires-clause-allowed c =
    let i = c.self.inside in
    let s = held (sizes_of i.limits) (freed_in i.freed) i.currencies.items i.threads i.queues in
    let order : IsInOrder s = rw (← c.self.view_is) at c.requires in
    let gap = first-currency_gap s order c.self.invariant.none_freed c.in_ok-place.place c.in_ok-place.ensures.first in
    ap (λ (v : Threaded). slice_get v.currencies c.in_ok-place.place) c.self.invariant.threads
    ∙ slice_get-map is_some i.currencies.items c.in_ok-place.place ∙ ap (option_map is_some) gap

pub add-requires-clause-place : goal.add-requires-clause-place
add-requires-clause-place c =
    let i = c.self.inside in
    let s = held (sizes_of i.limits) (freed_in i.freed) i.currencies.items i.threads i.queues in
    let order : IsInOrder s = rw (← c.self.view_is) at c.requires in
    let gap = first-currency_gap s order c.self.invariant.none_freed c.in_ok-place.place c.in_ok-place.ensures.first in
    omega (arith, slice_get_within i.currencies.items c.in_ok-place.place _ gap, c.self.invariant.currencies, c.self.invariant.currency_places)

pub add-requires-clause-free : goal.add-requires-clause-free
add-requires-clause-free c =
    let i = c.self.inside in
    let s = held (sizes_of i.limits) (freed_in i.freed) i.currencies.items i.threads i.queues in
    let order : IsInOrder s = rw (← c.self.view_is) at c.requires in
    let gap = first-currency_gap s order c.self.invariant.none_freed c.in_ok-place.place c.in_ok-place.ensures.first in
    gap-free i.currency_index i.currencies.items c.self.invariant.currency_index c.in_ok-place.place gap

pub index_mut-requires : goal.index_mut-requires
index_mut-requires c =
    let i = c.self.inside in
    let s = held (sizes_of i.limits) (freed_in i.freed) i.currencies.items i.threads i.queues in
    let order : IsInOrder s = rw (← c.self.view_is) at c.requires in
    let gap = first-currency_gap s order c.self.invariant.none_freed c.in_ok-place.place c.in_ok-place.ensures.first in
    omega (arith, slice_get_within i.currencies.items c.in_ok-place.place _ gap)

pub invariant_of-self-2 : goal.invariant_of-self-2
invariant_of-self-2 c =
    let i = c.self.inside in
    let s = held (sizes_of i.limits) (freed_in i.freed) i.currencies.items i.threads i.queues in
    let order : IsInOrder s = rw (← c.self.view_is) at c.requires in
    let gap = first-currency_gap s order c.self.invariant.none_freed c.in_ok-place.place c.in_ok-place.ensures.first in
    let place = c.in_ok-place.place in
    let records = ap (λ (v : Threaded). length v.records) c.apply.ensures.applied in
    record {
      threads = held-again (sizes_of i.limits) (freed_in i.freed) i.currencies.items i.threads c.apply.new.self i.queues
          c.self.invariant.threads place c.copied.result c.apply.ensures.applied;
      count = ap (λ (v : Threaded). length v.threads) c.apply.ensures.applied ∙ c.self.invariant.count ∙ sym records;
      few = omega (arith, c.self.invariant.few, records);
      clients = c.self.invariant.clients ∙ sym records;
      currencies =
          omega (arith, c.self.invariant.currencies, length-set i.currencies.items place (Some c.copied.result));
      currency_room = c.self.invariant.currency_room;
      currency_index = subst (λ (n : List ℕ). IsIndexOf c.add.new.self (slice_set i.currencies.items place (Some n)))
          (sym c.copied.ensures)
          (c.add.ensures.again i.currencies.items c.self.invariant.currency_index gap);
      currency_places = c.add.ensures.places ∙ c.self.invariant.currency_places;
      thread_index = subst (λ ts. IsIndexOf i.thread_index (names_of ts))
          (sym (ap (λ (v : Threaded). v.threads) c.apply.ensures.applied)) c.self.invariant.thread_index;
      thread_places = c.self.invariant.thread_places;
      queue_room = c.self.invariant.queue_room;
      lottery_room = c.self.invariant.lottery_room;
      freed_room = room-currencies (sizes_of i.limits) i.freed c.self.invariant.freed_room c.pop.new.self
          (ap (λ (x : FreeStack). x.room) c.pop.ensures.rest);
      none_freed = popped-currencies i.limits.reuse i.freed c.self.invariant.none_freed c.pop.new.self
          (ap (λ (x : FreeStack). x.places) c.pop.ensures.rest);
      holders = c.self.invariant.holders;
    }

pub returns-clause-number : goal.returns-clause-number
returns-clause-number c =
    let i = c.self.inside in
    let s = held (sizes_of i.limits) (freed_in i.freed) i.currencies.items i.threads i.queues in
    rw (← c.self.view_is)
    (currency-number s c.self.invariant.none_freed (Some c.in_ok-place.place) c.in_ok-place.ensures.first)

pub returns-clause-made : goal.returns-clause-made
returns-clause-made c =
    let i = c.self.inside in
    let s = held (sizes_of i.limits) (freed_in i.freed) i.currencies.items i.threads i.queues in
    rw (← c.self.view_is)
    (currency-there (sizes_of i.limits) (freed_in i.freed) i.currencies.items i.threads c.apply.new.self i.queues
    c.pop.new.self.places c.self.invariant.none_freed (c.apply.ensures.stale.same tt)
    c.in_ok-place.place c.copied.result c.apply.ensures.applied
    (ap (λ (x : FreeStack). x.places) c.pop.ensures.rest) c.in_ok-place.ensures.first
    ∙ ap (λ (n : List ℕ). record (snapshot_of (sizes_of i.limits)
    (freed_in i.freed) i.currencies.items i.queues i.threads) { state = with_currency s n }) c.copied.ensures)
