use Rattle.lot_kernel.proofs.Lemmas.{IsFree, IsHeld, List, Option, Snapshot, Thread, Threaded, ap, freed_in, held-threads, length, length-map, makes-held, names_of, next-free, option_map, rules, sizes_of, subst, sym, ◌∙◌, ◌≡◌}
use Rattle.lot_kernel.proofs.tables.Tables.add_thread_last.Goals as goal

pub add-requires-clause-free : goal.add-requires-clause-free
add-requires-clause-free c =
    let i = c.self.inside in
    let number : length (names_of i.threads.threads) ≡ length c.threads-place.result.now =
    length-map i.threads.threads (option_map (λ (t : Thread). t.name))
    ∙ ap (λ (ts : List (Option Thread)). length ts) (sym c.threads-place.ensures) in
    subst (λ n. IsFree i.thread_index n) number
    (next-free i.thread_index (names_of i.threads.threads) c.self.invariant.thread_index)

pub returns-clause-stale : goal.returns-clause-stale
returns-clause-stale c =
    let i = c.self.inside in
    let threads = held-threads (sizes_of i.limits) (freed_in i.freed) i.currencies.items i.threads
    c.add_thread-2.new.self i.queues c.self.invariant.threads _ _ c.add_thread-2.ensures.added in
    let held_then : IsHeld (sizes_of i.limits)
    (freed_in i.freed) i.currencies.items c.add_thread-2.new.self c.add_thread.new.self = search (rules, threads) in
    rw (← c.self.view_is) (makes-held (sizes_of i.limits)
    (freed_in i.freed) i.currencies.items i.currencies.items i.threads c.add_thread-2.new.self i.queues
    c.add_thread.new.self c.self.invariant.threads held_then c.add_thread-2.ensures.stale)

pub returns-clause-kept : goal.returns-clause-kept
returns-clause-kept c = rw (← c.self.view_is) c.add_thread-2.ensures.kept

pub returns-clause-meter : goal.returns-clause-meter
returns-clause-meter c = ap (λ (v : Threaded). v.meter) c.add_thread-2.ensures.added
    ∙ ap (λ (x : Snapshot). x.meter) c.self.view_is
