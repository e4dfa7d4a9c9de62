use Rattle.lot_kernel.proofs.Lemmas.{FreeStack, IsInOrder, IsIndexOf, List, Option, Snapshot, Some, Thread, Threaded, ap, arith, cond, freed_in, held, map-set, names_of, None, none-threads, option_map, refl, room-on, room-threads, rules, sizes_of, slice_get_within, slice_set, subst, sym, thread-fits, thread-gone, ℕ, ◌-◌, ◌∙◌, ◌∷◌}
use Rattle.lot_kernel.proofs.Looking.{number-place}
use Rattle.lot_kernel.proofs.tables.Tables.drop_thread.Goals as goal

pub index_of-requires : goal.index_of-requires
index_of-requires c =
    let (t, there) = c.requires.there in
    let (number, at) =
    number-place c.args.self.now.state.threads c.args.thread (c.args.thread - 1) (Some t) there refl in
    omega (arith, number)

pub remove-requires : goal.remove-requires
remove-requires c =
    let i = c.self.inside in
    let (t, there) = rw (← c.self.view_is) at c.requires.there in
    let (number, at) =
    number-place i.threads.threads c.args.thread c.index_of.result (Some t) there c.index_of.ensures in
    omega (arith, slice_get_within i.threads.threads c.index_of.result (Some t) at, c.self.invariant.count, c.self.invariant.few, c.self.invariant.thread_places)

pub remove_thread-requires : goal.remove_thread-requires
remove_thread-requires c =
    let i = c.self.inside in
    let (t, there) = rw (← c.self.view_is) at c.requires.there in
    let (number, at) =
    number-place i.threads.threads c.args.thread c.index_of.result (Some t) there c.index_of.ensures in
    let low = slice_get_within i.threads.threads c.index_of.result (Some t) at in
    record { thread = (omega (arith, number), omega (arith, number, low, c.self.invariant.count)) }

pub invariant_of-self : goal.invariant_of-self
invariant_of-self c =
    let i = c.self.inside in
    let left = ap (λ (v : Threaded). names_of v.threads) c.remove_thread.ensures
    ∙ map-set (option_map (λ (x : Thread). x.name)) i.threads.threads (c.args.thread - 1) None in
    let index = c.remove.ensures.removed (names_of i.threads.threads) c.self.invariant.thread_index in
    record {
      threads = search rules;
      count = search rules;
      few = search rules;
      clients = search rules;
      currencies = c.self.invariant.currencies;
      currency_room = c.self.invariant.currency_room;
      currency_index = c.self.invariant.currency_index;
      currency_places = c.self.invariant.currency_places;
      thread_index = subst (λ (ns : List (Option (List ℕ))). IsIndexOf c.remove.new.self ns)
          (sym (left ∙ ap (λ k. slice_set (names_of i.threads.threads) k None) (sym c.index_of.ensures))) index;
      thread_places = search rules;
      queue_room = c.self.invariant.queue_room;
      lottery_room = c.self.invariant.lottery_room;
      freed_room = room-threads (sizes_of i.limits) i.freed c.self.invariant.freed_room c.leave.new.self
          (ap (λ (x : FreeStack). x.room) c.leave.ensures);
      none_freed = none-threads i.limits.reuse i.freed c.self.invariant.none_freed c.leave.new.self _
          (ap (λ (x : FreeStack). x.places) c.leave.ensures);
      holders = c.self.invariant.holders;
    }

pub returns-clause-stale : goal.returns-clause-stale
returns-clause-stale c = ap (λ (v : Threaded). v.stale) c.remove_thread.ensures
    ∙ ap (λ (x : Snapshot). x.stale) c.self.view_is

pub leave-requires : goal.leave-requires
leave-requires c =
    let i = c.self.inside in
    let s = held (sizes_of i.limits) (freed_in i.freed) i.currencies.items i.threads i.queues in
    let order : IsInOrder s = rw (← c.self.view_is) at c.requires.order in
    let (t, there) = rw (← c.self.view_is) at c.requires.there in
    let (number, at) =
    number-place i.threads.threads c.args.thread c.index_of.result (Some t) there c.index_of.ensures in
    record { room = λ on. omega (arith, thread-fits s order on c.index_of.result t at, c.self.invariant.count, c.self.invariant.few, (room-on (sizes_of c.self.inside.limits) c.self.inside.freed c.self.invariant.freed_room on).1.1) }

pub returns-clause-state : goal.returns-clause-state
returns-clause-state c =
    let i = c.self.inside in
    let left = ap (λ (x : FreeStack). x.places) c.leave.ensures ∙ ap
    (λ k. cond {A = List ℕ} i.limits.reuse (k ∷ i.freed.threads.places) i.freed.threads.places) c.index_of-2.ensures in
    rw (← c.self.view_is)
    (thread-gone (sizes_of i.limits) (freed_in i.freed) i.currencies.items i.threads c.remove_thread.new.self i.queues
    c.leave.new.self.places c.args.thread c.self.invariant.none_freed c.remove_thread.ensures left)

pub returns-clause-meter : goal.returns-clause-meter
returns-clause-meter c = ap (λ (v : Threaded). v.meter) c.remove_thread.ensures
    ∙ ap (λ (x : Snapshot). x.meter) c.self.view_is
