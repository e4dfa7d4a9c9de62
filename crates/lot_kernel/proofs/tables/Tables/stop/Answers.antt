use Rattle.lot_machine.specs.declared.record.Thread.{Thread as AThread}
use Rattle.lot_kernel.proofs.Lemmas.{IsIndexOf, List, Option, Snapshot, Threaded, ap, arith, change-count, freed_in, held, held-records, length, makes-held, names_of, refl, sizes_of, stopped, subst, sym, ◌∙◌}
use Rattle.lot_kernel.proofs.tables.Tables.stop.Goals as goal

pub returns-clause-stale : goal.returns-clause-stale
returns-clause-stale c =
    let i = c.self.inside in
    let threads = held-records (sizes_of i.limits) (freed_in i.freed) i.currencies.items i.threads c.stop.new.self
    i.queues c.self.invariant.threads _ c.stop.ensures.stopped in
    rw (← c.self.view_is) (makes-held (sizes_of i.limits) (freed_in i.freed) i.currencies.items i.currencies.items
    i.threads c.stop.new.self i.queues i.queues c.self.invariant.threads threads c.stop.ensures.stale)

pub returns-clause-reply : goal.returns-clause-reply
returns-clause-reply c = refl

pub returns-clause-state : goal.returns-clause-state
returns-clause-state c =
    let i = c.self.inside in
    ap
    (λ (v : Threaded). held (sizes_of i.limits) (freed_in i.freed) i.currencies.items v i.queues) c.stop.ensures.stopped
    ∙ ap
    (λ (x : Snapshot). (stopped x.state c.args.thread.number c.args.ticks c.args.compensation).state) c.self.view_is

pub returns-clause-kept : goal.returns-clause-kept
returns-clause-kept c = rw (← c.self.view_is) c.stop.ensures.kept

pub returns-clause-meter : goal.returns-clause-meter
returns-clause-meter c = ap (λ (v : Threaded). v.meter) c.stop.ensures.stopped
    ∙ ap (λ (x : Snapshot). x.meter) c.self.view_is

pub invariant_of-self : goal.invariant_of-self
invariant_of-self c =
    let i = c.self.inside in
    let records = ap (λ (v : Threaded). length v.records) c.stop.ensures.stopped
    ∙ change-count _ i.threads.records c.args.thread.number in
    let threads = ap (λ (v : Threaded). v.threads) c.stop.ensures.stopped in
    record {
      threads = held-records (sizes_of i.limits) (freed_in i.freed) i.currencies.items i.threads c.stop.new.self
          i.queues c.self.invariant.threads _ c.stop.ensures.stopped;
      count = ap length threads ∙ c.self.invariant.count ∙ sym records;
      few = omega (arith, c.self.invariant.few, records);
      clients = c.self.invariant.clients ∙ sym records;
      currencies = c.self.invariant.currencies;
      currency_room = c.self.invariant.currency_room;
      currency_index = c.self.invariant.currency_index;
      currency_places = c.self.invariant.currency_places;
      thread_index = subst (λ (ns : List (Option AThread)). IsIndexOf i.thread_index (names_of ns))
          (sym threads) c.self.invariant.thread_index;
      thread_places = c.self.invariant.thread_places;
      queue_room = c.self.invariant.queue_room;
      lottery_room = c.self.invariant.lottery_room;
      freed_room = c.self.invariant.freed_room;
      none_freed = c.self.invariant.none_freed;
      holders = c.self.invariant.holders;
    }
