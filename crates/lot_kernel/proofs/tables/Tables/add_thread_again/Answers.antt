use Rattle.lot_kernel.proofs.Lemmas.{Contains, FreeStack, HasIdlePlace, IsIndexOf, List, Node, None, Option, Snapshot, Some, Thread, Threaded, ap, arith, first-thread_gap, freed_in, gap-free, gap-unnamed, given-threads, held, held-threads, inl, makes-held, names-again, names_of, option_map, popped-threads, records-again, room-threads, sizes_of, slice_get, slice_get_within, slice_set, state-again, subst, sym, threads-again, with_thread, ℕ, ◌+◌, ◌∙◌}
use Rattle.lot_kernel.proofs.tables.Tables.add_thread_again.Goals as goal

pub overflow_add-number : goal.overflow_add-number
overflow_add-number c =
    let i = c.self.inside in
    let s = held (sizes_of i.limits) (freed_in i.freed) i.currencies.items i.threads i.queues in
    let idle : HasIdlePlace s = rw (← c.self.view_is) at c.requires.idle in
    let gap = (first-thread_gap s c.self.invariant.none_freed idle c.in_ok-place.place c.in_ok-place.ensures.first).0 in
    omega (arith, slice_get_within i.threads.threads c.in_ok-place.place None gap, c.self.invariant.count, c.self.invariant.few, i.limits.within_bounds.of_threads)

pub add-requires-clause-place : goal.add-requires-clause-place
add-requires-clause-place c =
    let i = c.self.inside in
    let s = held (sizes_of i.limits) (freed_in i.freed) i.currencies.items i.threads i.queues in
    let idle : HasIdlePlace s = rw (← c.self.view_is) at c.requires.idle in
    let gap = (first-thread_gap s c.self.invariant.none_freed idle c.in_ok-place.place c.in_ok-place.ensures.first).0 in
    omega (arith, slice_get_within i.threads.threads c.in_ok-place.place None gap, c.self.invariant.count, c.self.invariant.few, c.self.invariant.thread_places)

pub add-requires-clause-free : goal.add-requires-clause-free
add-requires-clause-free c =
    let i = c.self.inside in
    let s = held (sizes_of i.limits) (freed_in i.freed) i.currencies.items i.threads i.queues in
    let idle : HasIdlePlace s = rw (← c.self.view_is) at c.requires.idle in
    let gap = (first-thread_gap s c.self.invariant.none_freed idle c.in_ok-place.place c.in_ok-place.ensures.first).0 in
    gap-free i.thread_index (names_of i.threads.threads) c.self.invariant.thread_index c.in_ok-place.place
    (gap-unnamed i.threads.threads c.in_ok-place.place gap)

pub reuse_thread-requires : goal.reuse_thread-requires
reuse_thread-requires c =
    let i = c.self.inside in
    let s = held (sizes_of i.limits) (freed_in i.freed) i.currencies.items i.threads i.queues in
    let idle : HasIdlePlace s = rw (← c.self.view_is) at c.requires.idle in
    let gap = (first-thread_gap s c.self.invariant.none_freed idle c.in_ok-place.place c.in_ok-place.ensures.first).0 in
    record { there = (omega arith, omega (arith, slice_get_within i.threads.threads c.in_ok-place.place None gap, c.self.invariant.count)) }

pub invariant_of-self-2 : goal.invariant_of-self-2
invariant_of-self-2 c =
    let i = c.self.inside in
    let place = c.in_ok-place.place in
    let thread : Thread = record { name = c.copied.result; script = c.args.script } in
    let s = held (sizes_of i.limits) (freed_in i.freed) i.currencies.items i.threads i.queues in
    let idle : HasIdlePlace s = rw (← c.self.view_is) at c.requires.idle in
    let gap = (first-thread_gap s c.self.invariant.none_freed idle place c.in_ok-place.ensures.first).0 in
    let new = c.reuse_thread.new.self in
    let made = c.reuse_thread.ensures.made in
    let records = records-again i.threads new place thread made in
    let threads = threads-again i.threads new place thread made in
    record {
      threads = held-threads (sizes_of i.limits)
          (freed_in i.freed) i.currencies.items i.threads new i.queues c.self.invariant.threads _ _ made;
      count = threads ∙ c.self.invariant.count ∙ sym records;
      few = omega (arith, c.self.invariant.few, records);
      clients = c.self.invariant.clients ∙ sym records;
      currencies = c.self.invariant.currencies;
      currency_room = c.self.invariant.currency_room;
      currency_index = c.self.invariant.currency_index;
      currency_places = c.self.invariant.currency_places;
      thread_index = subst (λ (ns : List (Option (List ℕ))). IsIndexOf c.add.new.self ns)
          (sym (names-again i.threads new place thread made
          ∙ ap (λ n. slice_set (names_of i.threads.threads) place (Some n)) c.copied.ensures))
          (c.add.ensures.again (names_of i.threads.threads) c.self.invariant.thread_index
          (gap-unnamed i.threads.threads place gap));
      thread_places = c.add.ensures.places ∙ c.self.invariant.thread_places;
      queue_room = c.self.invariant.queue_room;
      lottery_room = c.self.invariant.lottery_room;
      freed_room = room-threads (sizes_of i.limits) i.freed c.self.invariant.freed_room c.pop.new.self
          (ap (λ (x : FreeStack). x.room) c.pop.ensures.rest);
      none_freed = popped-threads i.limits.reuse i.freed c.self.invariant.none_freed c.pop.new.self
          (ap (λ (x : FreeStack). x.places) c.pop.ensures.rest);
      holders = c.self.invariant.holders;
    }

pub returns-clause-stale : goal.returns-clause-stale
returns-clause-stale c =
    let i = c.self.inside in
    let threads = held-threads (sizes_of i.limits) (freed_in i.freed) i.currencies.items i.threads
    c.reuse_thread.new.self i.queues c.self.invariant.threads _ _ c.reuse_thread.ensures.made in
    rw (← c.self.view_is) (makes-held (sizes_of i.limits) (freed_in i.freed) i.currencies.items i.currencies.items
    i.threads c.reuse_thread.new.self i.queues i.queues c.self.invariant.threads threads c.reuse_thread.ensures.stale)

pub returns-clause-number : goal.returns-clause-number
returns-clause-number c =
    let i = c.self.inside in
    let s = held (sizes_of i.limits) (freed_in i.freed) i.currencies.items i.threads i.queues in
    let given = given-threads s c.self.invariant.none_freed in
    rw (← c.self.view_is) (ap (option_map (λ (place : ℕ). place + 1))
    (c.in_ok-place.ensures.first ∙ sym (ap (λ places. slice_get places 0) given)))

pub returns-clause-state : goal.returns-clause-state
returns-clause-state c =
    let i = c.self.inside in
    let place = c.in_ok-place.place in
    let thread : Thread = record { name = c.copied.result; script = c.args.script } in
    let s = held (sizes_of i.limits) (freed_in i.freed) i.currencies.items i.threads i.queues in
    let idle : HasIdlePlace s = rw (← c.self.view_is) at c.requires.idle in
    let nobody = (first-thread_gap s c.self.invariant.none_freed idle place c.in_ok-place.ensures.first).1 in
    let given = given-threads s c.self.invariant.none_freed in
    let new = c.reuse_thread.new.self in
    rw (← c.self.view_is)
    (ap (λ places. held (sizes_of i.limits) (record (freed_in i.freed) { threads = places }) i.currencies.items new
    i.queues) (ap (λ (x : FreeStack). x.places) c.pop.ensures.rest)
    ∙ state-again i.threads new place thread c.reuse_thread.ensures.made (sizes_of i.limits)
    (freed_in i.freed) i.currencies.items i.queues given (sym c.in_ok-place.ensures.first) nobody
    ∙ ap (λ n. with_thread s n c.args.script) c.copied.ensures)

pub invariant_of-self : goal.invariant_of-self
invariant_of-self c = rw c.in_err-place.ensures.unchanged c.self.invariant

pub returns-in_err-place-clause-meter : goal.returns-in_err-place-clause-meter
returns-in_err-place-clause-meter c = ap (λ (x : Snapshot). x.meter) c.self.view_is

pub returns-clause-kept : goal.returns-clause-kept
returns-clause-kept c = rw (← c.self.view_is) c.reuse_thread.ensures.kept

pub returns-clause-meter : goal.returns-clause-meter
returns-clause-meter c = ap (λ (v : Threaded). v.meter) c.reuse_thread.ensures.made
    ∙ ap (λ (x : Snapshot). x.meter) c.self.view_is

pub returns-in_err-place-clause-stale : goal.returns-in_err-place-clause-stale
returns-in_err-place-clause-stale c x old =
    inl (subst (λ (nodes : List Node). Contains nodes x) (ap (λ (y : Snapshot). y.stale) c.self.view_is) old)

pub returns-in_err-place-clause-kept : goal.returns-in_err-place-clause-kept
returns-in_err-place-clause-kept c x old =
    subst (λ (nodes : List Node). Contains nodes x) (sym (ap (λ (y : Snapshot). y.stale) c.self.view_is)) old
