use Rattle.lot_kernel.proofs.Lemmas.{HasHolders, IsIndexOf, List, Option, QueueLists, Threaded, all-meter, all-queues, all-stale, all-threads, ap, arith, clients-count, end-there, freed_in, held-killed, holders-killed, length, makes-held, names_of, out-count, out-there, pass-count, pass-nowhere, pass-owners, records-count, sizes_of, state-killed, subst, sym, ℕ, ◌∙◌}
use Rattle.lot_kernel.proofs.tables.Tables.end.Goals as goal

pub take_out-requires : goal.take_out-requires
take_out-requires c = let there = rw (← c.self.view_is) at c.requires.there in
    (there.0, omega (arith, there.1, c.self.invariant.count, c.self.invariant.clients))

pub release_clients-requires-clause-server : goal.release_clients-requires-clause-server
release_clients-requires-clause-server c =
    let i = c.self.inside in
    let there = rw (← c.self.view_is) at c.requires.there in
    out-there i.threads i.queues c.args.thread.number c.take_out.new.self c.take_out.ensures.out
    c.self.invariant.clients (there.0, omega (arith, there.1, c.self.invariant.count))

pub release_clients-requires-clause-same : goal.release_clients-requires-clause-same
release_clients-requires-clause-same c = let i = c.self.inside in out-count i.threads i.queues c.args.thread.number
    c.take_out.new.self c.take_out.ensures.out c.self.invariant.clients

pub pass_all_on-requires-clause-nowhere : goal.pass_all_on-requires-clause-nowhere
pass_all_on-requires-clause-nowhere c =
    let i = c.self.inside in
    pass-nowhere i.threads i.queues c.args.thread.number c.take_out.new.self c.take_out.ensures.out
    c.release_clients.new.threads c.release_clients.new.queues c.release_clients.ensures.threads
    c.release_clients.ensures.queues c.take_out.ensures.nowhere

pub pass_all_on-requires-clause-same : goal.pass_all_on-requires-clause-same
pass_all_on-requires-clause-same c =
    let i = c.self.inside in
    pass-count i.threads i.queues c.args.thread.number c.take_out.new.self c.take_out.ensures.out
    c.release_clients.new.threads c.release_clients.new.queues c.release_clients.ensures.threads
    c.release_clients.ensures.queues c.self.invariant.clients

pub pass_all_on-requires-clause-owners : goal.pass_all_on-requires-clause-owners
pass_all_on-requires-clause-owners c =
    let i = c.self.inside in
    pass-owners i.threads i.queues c.args.thread.number c.take_out.new.self c.take_out.ensures.out
    c.release_clients.new.threads c.release_clients.new.queues c.release_clients.ensures.threads
    c.release_clients.ensures.queues (sym (ap (λ (v : Threaded). v.owners) c.self.invariant.threads))

pub end-requires : goal.end-requires
end-requires c =
    let i = c.self.inside in
    let there = rw (← c.self.view_is) at c.requires.there in
    record {
      thread = end-there i.threads i.queues c.args.thread.number c.take_out.new.self c.take_out.ensures.out
          c.release_clients.new.threads c.release_clients.new.queues c.release_clients.ensures.threads
          c.release_clients.ensures.queues
          c.pass_all_on.new.threads c.pass_all_on.new.queues c.pass_all_on.ensures.threads c.pass_all_on.ensures.queues
          (there.0, omega (arith, there.1, c.self.invariant.count));
    }

pub invariant_of-self : goal.invariant_of-self
invariant_of-self c =
    let i = c.self.inside in
    let t = c.args.thread.number in
    let is = all-threads i.threads i.queues t c.take_out.new.self c.take_out.ensures.out c.release_clients.new.threads
    c.release_clients.new.queues c.release_clients.ensures.threads c.release_clients.ensures.queues
    c.pass_all_on.new.threads c.pass_all_on.new.queues c.pass_all_on.ensures.threads c.pass_all_on.ensures.queues
    c.end.new.self c.end.ensures.ended in
    let queues =
    all-queues i.threads i.queues t c.take_out.new.self c.take_out.ensures.out c.release_clients.new.threads
    c.release_clients.new.queues c.release_clients.ensures.threads c.release_clients.ensures.queues
    c.pass_all_on.new.threads c.pass_all_on.new.queues c.pass_all_on.ensures.threads c.pass_all_on.ensures.queues in
    let records = records-count (sizes_of i.limits) (freed_in i.freed) i.currencies.items i.threads i.queues t
    c.self.invariant.threads c.end.new.self c.pass_all_on.new.queues is queues in
    let clients = clients-count (sizes_of i.limits) (freed_in i.freed) i.currencies.items i.threads i.queues t
    c.self.invariant.threads c.end.new.self c.pass_all_on.new.queues is queues in
    record {
      threads = held-killed (sizes_of i.limits) (freed_in i.freed) i.currencies.items i.threads i.queues t
          c.self.invariant.threads c.end.new.self c.pass_all_on.new.queues is queues;
      count = ap (λ (x : Threaded). length x.threads) is ∙ c.self.invariant.count ∙ sym records;
      few = omega (arith, c.self.invariant.few, records);
      clients = clients ∙ c.self.invariant.clients ∙ sym records;
      currencies = c.self.invariant.currencies;
      currency_room = c.self.invariant.currency_room;
      currency_index = c.self.invariant.currency_index;
      currency_places = c.self.invariant.currency_places;
      thread_index = subst (λ (ns : List (Option (List ℕ))). IsIndexOf i.thread_index ns)
          (sym (ap (λ (x : Threaded). names_of x.threads) is)) c.self.invariant.thread_index;
      thread_places = c.self.invariant.thread_places;
      queue_room = ap (λ (q : QueueLists). q.room) queues ∙ c.self.invariant.queue_room;
      lottery_room = c.self.invariant.lottery_room;
      freed_room = c.self.invariant.freed_room;
      none_freed = c.self.invariant.none_freed;
      holders = subst (HasHolders (sizes_of i.limits)) (sym queues)
          (holders-killed (sizes_of i.limits) i.queues t c.self.invariant.holders);
    }

pub returns-clause-state : goal.returns-clause-state
returns-clause-state c =
    let i = c.self.inside in
    let t = c.args.thread.number in
    let order = rw (← c.self.view_is) at c.requires.order in
    let is = all-threads i.threads i.queues t c.take_out.new.self c.take_out.ensures.out c.release_clients.new.threads
    c.release_clients.new.queues c.release_clients.ensures.threads c.release_clients.ensures.queues
    c.pass_all_on.new.threads c.pass_all_on.new.queues c.pass_all_on.ensures.threads c.pass_all_on.ensures.queues
    c.end.new.self c.end.ensures.ended in
    let queues =
    all-queues i.threads i.queues t c.take_out.new.self c.take_out.ensures.out c.release_clients.new.threads
    c.release_clients.new.queues c.release_clients.ensures.threads c.release_clients.ensures.queues
    c.pass_all_on.new.threads c.pass_all_on.new.queues c.pass_all_on.ensures.threads c.pass_all_on.ensures.queues in
    rw (← c.self.view_is) (state-killed (sizes_of i.limits) (freed_in i.freed) i.currencies.items i.threads i.queues t
    c.self.invariant.threads c.end.new.self c.pass_all_on.new.queues is queues order)

pub returns-clause-stale : goal.returns-clause-stale
returns-clause-stale c =
    let i = c.self.inside in
    let t = c.args.thread.number in
    let is = all-threads i.threads i.queues t c.take_out.new.self c.take_out.ensures.out c.release_clients.new.threads
    c.release_clients.new.queues c.release_clients.ensures.threads c.release_clients.ensures.queues
    c.pass_all_on.new.threads c.pass_all_on.new.queues c.pass_all_on.ensures.threads c.pass_all_on.ensures.queues
    c.end.new.self c.end.ensures.ended in
    let queues =
    all-queues i.threads i.queues t c.take_out.new.self c.take_out.ensures.out c.release_clients.new.threads
    c.release_clients.new.queues c.release_clients.ensures.threads c.release_clients.ensures.queues
    c.pass_all_on.new.threads c.pass_all_on.new.queues c.pass_all_on.ensures.threads c.pass_all_on.ensures.queues in
    let held = held-killed (sizes_of i.limits) (freed_in i.freed) i.currencies.items i.threads i.queues t
    c.self.invariant.threads c.end.new.self c.pass_all_on.new.queues is queues in
    rw (← c.self.view_is) (makes-held (sizes_of i.limits) (freed_in i.freed) i.currencies.items i.currencies.items
    i.threads c.end.new.self i.queues c.pass_all_on.new.queues c.self.invariant.threads held
    (all-stale i.threads i.queues t c.take_out.new.self c.take_out.ensures.out c.release_clients.new.threads
    c.release_clients.new.queues c.release_clients.ensures.threads c.release_clients.ensures.queues
    c.pass_all_on.new.threads c.pass_all_on.new.queues c.pass_all_on.ensures.threads c.pass_all_on.ensures.queues
    c.end.new.self c.end.ensures.ended c.release_clients.ensures.stale c.pass_all_on.ensures.stale c.end.ensures.stale))

pub returns-clause-kept : goal.returns-clause-kept
returns-clause-kept c = rw (← c.self.view_is) (λ node stale.
    c.end.ensures.kept node (c.pass_all_on.ensures.kept node (c.release_clients.ensures.kept node stale)))

pub returns-clause-meter : goal.returns-clause-meter
returns-clause-meter c =
    let i = c.self.inside in
    rw (← c.self.view_is) (all-meter i.threads i.queues c.args.thread.number c.take_out.new.self c.take_out.ensures.out
    c.release_clients.new.threads c.release_clients.new.queues c.release_clients.ensures.threads
    c.release_clients.ensures.queues
    c.pass_all_on.new.threads c.pass_all_on.new.queues c.pass_all_on.ensures.threads c.pass_all_on.ensures.queues
    c.end.new.self c.end.ensures.ended)
