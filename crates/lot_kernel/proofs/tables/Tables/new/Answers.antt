use Rattle.lot_kernel.proofs.Lemmas.{arith, freed_in, opening-held, opening-holders, opening-starts, refl, sizes_of}
use Rattle.lot_kernel.proofs.tables.Tables.new.Goals as goal

pub invariant_of-result : goal.invariant_of-result
invariant_of-result c =
    let opening = c.in_ok-threads.ensures.threads in
    let empty = c.in_ok-queues.ensures.queues in
    let threads = opening-held (sizes_of c.args.limits) c.in_ok-threads.threads c.in_ok-currencies.currencies.items
    c.in_ok-queues.queues c.in_ok-currencies.ensures.names opening empty (freed_in c.in_ok-freed.freed) in
    record {
      threads = threads;
      count = rw opening refl;
      few = rw opening (omega arith);
      clients = rw (opening, empty) refl;
      currencies = c.in_ok-currencies.ensures.few;
      currency_room = c.in_ok-currencies.ensures.room;
      currency_index = c.in_ok-currencies.ensures.index;
      currency_places = c.in_ok-currencies.ensures.places;
      thread_index = rw opening c.in_ok-threads.ensures.index;
      thread_places = c.in_ok-threads.ensures.places;
      queue_room = rw empty refl;
      lottery_room = c.in_ok-queues.ensures.room;
      freed_room = c.in_ok-freed.ensures.room;
      none_freed = λ off. c.in_ok-freed.ensures.none;
      holders = opening-holders (sizes_of c.args.limits) c.in_ok-queues.queues empty;
    }

pub returns : goal.returns
returns c = opening-starts (sizes_of c.args.limits) c.in_ok-threads.threads c.in_ok-currencies.currencies.items
    c.in_ok-queues.queues c.in_ok-currencies.ensures.names c.in_ok-threads.ensures.threads c.in_ok-queues.ensures.queues
    (freed_in c.in_ok-freed.freed) c.in_ok-freed.ensures.none
