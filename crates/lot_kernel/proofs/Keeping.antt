-- The invariant of the tables, when the threads or the queues change and the rest stays.
use Rattle.lot_kernel.proofs.Common.{HasHolders, Inside, IsIndexOf, List, Option, QueueLists, Thread, Threaded, ap, arith, freed_in, length, names_of, settled_in, sizes_of, subst, sym, the_invariant, ◌∙◌, ◌≡◌}
use Rattle.lot_kernel.proofs.Holding.{IsHeld, held-stale}

module _ (i : Inside) (inv : the_invariant i) (new : Threaded) where
  -- as many threads and clients as before, with the same names
  pub keeps-both : (left : QueueLists) → IsHeld (sizes_of i.limits) (freed_in i.freed) i.currencies.items new left
      → length new.records ≡ length i.threads.records → new.threads ≡ i.threads.threads
      → length left.clients ≡ length i.queues.clients → left.room ≡ i.queues.room → HasHolders (sizes_of i.limits) left
      → the_invariant (record i { threads = new; queues = left })
  keeps-both left held records threads clients room holders = record {
    threads = held;
    count = ap length threads ∙ inv.count ∙ sym records;
    few = omega (arith, inv.few, records);
    clients = clients ∙ inv.clients ∙ sym records;
    currencies = inv.currencies;
    currency_room = inv.currency_room;
    currency_index = inv.currency_index;
    currency_places = inv.currency_places;
    thread_index =
        subst (λ (ts : List (Option Thread)). IsIndexOf i.thread_index (names_of ts)) (sym threads) inv.thread_index;
    thread_places = inv.thread_places;
    queue_room = room ∙ inv.queue_room;
    lottery_room = inv.lottery_room;
    freed_room = inv.freed_room;
    none_freed = inv.none_freed;
    holders = holders;
  }

  pub keeps-threads : IsHeld (sizes_of i.limits) (freed_in i.freed) i.currencies.items new i.queues → length new.records
      ≡ length i.threads.records → new.threads ≡ i.threads.threads → the_invariant (record i { threads = new })
  keeps-threads held records threads = record {
    threads = held;
    count = ap length threads ∙ inv.count ∙ sym records;
    few = omega (arith, inv.few, records);
    clients = inv.clients ∙ sym records;
    currencies = inv.currencies;
    currency_room = inv.currency_room;
    currency_index = inv.currency_index;
    currency_places = inv.currency_places;
    thread_index =
        subst (λ (ts : List (Option Thread)). IsIndexOf i.thread_index (names_of ts)) (sym threads) inv.thread_index;
    thread_places = inv.thread_places;
    queue_room = inv.queue_room;
    lottery_room = inv.lottery_room;
    freed_room = inv.freed_room;
    none_freed = inv.none_freed;
    holders = inv.holders;
  }

  -- threads that are settled
  pub keeps-settled : new ≡ settled_in i.threads → the_invariant (record i { threads = new })
  keeps-settled is =
      keeps-threads (held-stale (sizes_of i.limits) (freed_in i.freed) i.currencies.items i.threads new i.queues
      inv.threads (settled_in i.threads).stale (settled_in i.threads).meter is)
      (ap (λ (v : Threaded). length v.records) is) (ap (λ (v : Threaded). v.threads) is)
