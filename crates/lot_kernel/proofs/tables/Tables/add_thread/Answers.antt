use Rattle.lot_kernel.proofs.Lemmas.{KeepsStale, MakesStale, Snapshot, Some, Thread, ap, first-thread, free_threads, last-thread, length, newborn, none-first, subst, sym, thread-last, thread-room, [], ◌++◌, ◌+◌, ◌<◌, ◌∙◌, ◌∷◌}
use Rattle.lot_kernel.proofs.tables.Tables.add_thread.Goals as goal

pub add_thread_last-requires : goal.add_thread_last-requires
add_thread_last-requires c =
    let s = c.args.self.now.state in
    let none = none-first (free_threads s) c.in-None.ensures.number in
    subst (λ (x : Snapshot). length x.state.threads < x.state.limits.threads) (sym c.in-None.ensures.unchanged)
    (thread-room s none c.requires.room)

pub returns-in-Some-clause-number : goal.returns-in-Some-clause-number
returns-in-Some-clause-number c = first-thread c.args.self.now.state c.in-Some.number.number c.in-Some.ensures.number

pub returns-in-None-clause-number : goal.returns-in-None-clause-number
returns-in-None-clause-number c =
    let s = c.args.self.now.state in
    c.add_thread_last.ensures.number ∙ ap (λ (x : Snapshot). length x.state.threads + 1) c.in-None.ensures.unchanged
    ∙ sym (last-thread s (none-first (free_threads s) c.in-None.ensures.number))

pub returns-in-None-clause-state : goal.returns-in-None-clause-state
returns-in-None-clause-state c =
    let s = c.args.self.now.state in
    let none = none-first (free_threads s) c.in-None.ensures.number in
    let given = none ∙ sym c.in-None.ensures.none in
    let made : Thread = record { name = c.args.name.now; script = c.args.script } in
    c.add_thread_last.ensures.state
    ∙ ap (λ (x : Snapshot). record x.state { threads = x.state.threads ++ Some made ∷ []; records = x.state.records ++ newborn ∷ []; clients = x.state.clients ++ [] ∷ [] })
    c.in-None.ensures.unchanged
    ∙ thread-last s c.args.name.now c.args.script given none

pub returns-in-None-clause-stale : goal.returns-in-None-clause-stale
returns-in-None-clause-stale c = subst (λ (x : Snapshot). MakesStale x c.add_thread_last.new.self)
    c.in-None.ensures.unchanged c.add_thread_last.ensures.stale

pub returns-in-None-clause-kept : goal.returns-in-None-clause-kept
returns-in-None-clause-kept c = subst (λ (x : Snapshot). KeepsStale x c.add_thread_last.new.self)
    c.in-None.ensures.unchanged c.add_thread_last.ensures.kept

pub returns-in-None-clause-meter : goal.returns-in-None-clause-meter
returns-in-None-clause-meter c = c.add_thread_last.ensures.meter
    ∙ ap (λ (x : Snapshot). x.meter) c.in-None.ensures.unchanged
