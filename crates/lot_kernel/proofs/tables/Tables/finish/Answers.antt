use Rattle.lot_kernel.proofs.Lemmas.{CanChange, IsTimely, List, Record, Snapshot, Threaded, after_trap, ap, arith, can-finish, change_record, freed_in, held, held-records, keeps-threads, length, length-set, makes-held, refl, rules, set_number, sizes_of, status-there, subst, sym, the_view, threads_of, with_ticks, ◌-◌, ◌∙◌, ◌≡◌}
use Rattle.lot_kernel.proofs.tables.Tables.finish.Goals as goal

pub change-requires : goal.change-requires
change-requires c =
    let i = c.self.inside in
    let s = (the_view i).state in
    let runs = rw (← c.self.view_is) at c.requires.runs in
    let there = status-there s.records c.args.trap.thread.number _ runs.1 in
    let found = c.record.ensures.timely in
    let timely : IsTimely s.limits.quantum c.in-Some.before = search rules in
    let may = can-finish s i.threads.stale i.threads.meter c.args.trap c.in-Some.before there timely
    (omega (arith, c.requires.ticks.0, c.requires.ticks.1))
    (rw (← c.self.view_is) at c.requires.processor) (rw (← c.self.view_is) at c.requires.alone) c.args.after
    c.requires.stops (rw (← c.self.view_is) at c.requires.lend) in
    subst (λ (v : Threaded). CanChange v c.args.trap.thread.number c.record_after-next.result)
    (sym c.self.invariant.threads)
    (subst (λ (r : Record). CanChange (threads_of s i.threads.stale i.threads.meter) c.args.trap.thread.number r)
    (sym c.record_after-next.ensures) may)

pub returns-clause-stale : goal.returns-clause-stale
returns-clause-stale c =
    let i = c.self.inside in
    let threads = held-records (sizes_of i.limits) (freed_in i.freed) i.currencies.items i.threads c.change.new.self
    i.queues c.self.invariant.threads _ c.change.ensures.changed in
    rw (← c.self.view_is) (makes-held (sizes_of i.limits) (freed_in i.freed) i.currencies.items i.currencies.items
    i.threads c.change.new.self i.queues i.queues c.self.invariant.threads threads c.change.ensures.stale)

pub returns-clause-kept : goal.returns-clause-kept
returns-clause-kept c = rw (← c.self.view_is) c.change.ensures.kept

pub returns-clause-meter : goal.returns-clause-meter
returns-clause-meter c = ap (λ (v : Threaded). v.meter) c.change.ensures.changed
    ∙ ap (λ (x : Snapshot). x.meter) c.self.view_is

pub invariant_of-self : goal.invariant_of-self
invariant_of-self c =
    let i = c.self.inside in
    let is = c.change.ensures.changed in
    keeps-threads i c.self.invariant c.change.new.self (held-records (sizes_of i.limits)
    (freed_in i.freed) i.currencies.items i.threads c.change.new.self i.queues c.self.invariant.threads _ is)
    (ap (λ (v : Threaded). length v.records) is ∙ length-set i.threads.records
    (c.args.trap.thread.number - 1) c.record_after-next.result) (ap (λ (v : Threaded). v.threads) is)

pub returns-clause-state : goal.returns-clause-state
returns-clause-state c =
    let i = c.self.inside in
    let t = c.args.trap.thread.number in
    let change : Record → Record = λ r. with_ticks c.args.trap.ticks
    (after_trap c.args.after c.args.trap.processor.number c.args.trap.used (sizes_of i.limits) r) in
    let made : change_record change i.threads.records t ≡ set_number i.threads.records t (change c.in-Some.before) =
    rw (← c.in-Some.ensures.record) refl in
    ap (λ (v : Threaded). held (sizes_of i.limits) (freed_in i.freed) i.currencies.items v i.queues)
    c.change.ensures.changed
    ∙ ap (λ (r : Record). record (the_view i).state { records = set_number i.threads.records t r })
    c.record_after-next.ensures
    ∙ ap (λ (rs : List Record). record (the_view i).state { records = rs }) (sym made)
    ∙ ap (λ (x : Snapshot). record x.state { records = change_record (λ r. with_ticks c.args.trap.ticks (after_trap c.args.after c.args.trap.processor.number c.args.trap.used x.state.limits r)) x.state.records t }) c.self.view_is
