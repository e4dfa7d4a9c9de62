-- The capacities of the tables, by the limits.
use Rattle.lot_kernel.proofs.Common.{Bool, Inside, Threaded, ap, arith, cond, false, holders, length, length-map, sizes_of, the_invariant, true, ℕ, ◌*◌, ◌+◌, ◌∙◌, ◌≡◌, ◌≤◌}

-- the room for free places: for each place if numbers are given again, and otherwise none
rooms-free : (reuse : Bool) (t c u rt rc ru : ℕ) → rt ≡ cond {A = ℕ} reuse t 0 → rc ≡ cond {A = ℕ} reuse (c + 1) 0
    → ru ≡ cond {A = ℕ} reuse u 0
    → (4 * (rt + rc + ru) ≡ cond {A = ℕ} reuse (4 * (t + c + u) + 4) 0) × (rt + rc + ru ≤ t + c + u + 1)
rooms-free true t c u rt rc ru tickets currencies threads =
    (omega (arith, tickets, currencies, threads), omega (arith, tickets, currencies, threads))
rooms-free false t c u rt rc ru tickets currencies threads =
    (omega (arith, tickets, currencies, threads), omega (arith, tickets, currencies, threads))

-- the numbers by which the tables tell their rooms are those of the limits
pub record AreRooms (i : Inside) : Type 0 where
  pub tickets : i.threads.ticket_limit ≡ i.limits.tickets
  pub currencies : i.threads.currency_limit ≡ i.limits.currencies
  pub threads : i.threads.thread_limit ≡ i.limits.threads
  pub owners : length i.threads.owners ≡ holders (sizes_of i.limits)
  pub processors : i.threads.processors ≡ i.limits.processors
  pub free : 4 * (i.freed.tickets.room + i.freed.currencies.room + i.freed.threads.room)
      ≡ cond {A = ℕ} i.limits.reuse (4 * (i.limits.tickets + i.limits.currencies + i.limits.threads) + 4) 0
  pub few : i.freed.tickets.room + i.freed.currencies.room + i.freed.threads.room
      ≤ i.limits.tickets + i.limits.currencies + i.limits.threads + 1

pub rooms-are : (i : Inside) → the_invariant i → AreRooms i
rooms-are i inv =
    let room = inv.freed_room in
    let free = rooms-free i.limits.reuse i.limits.tickets i.limits.currencies i.limits.threads i.freed.tickets.room
    i.freed.currencies.room i.freed.threads.room room.tickets room.currencies room.threads in
    record {
      tickets = ap (λ (v : Threaded). v.ticket_limit) inv.threads;
      currencies = ap (λ (v : Threaded). v.currency_limit) inv.threads;
      threads = ap (λ (v : Threaded). v.thread_limit) inv.threads;
      owners = ap (λ (v : Threaded). length v.owners) inv.threads ∙ length-map i.queues.mutexes _ ∙ inv.holders.mutexes;
      processors = ap (λ (v : Threaded). v.processors) inv.threads;
      free = free.0;
      few = free.1;
    }
