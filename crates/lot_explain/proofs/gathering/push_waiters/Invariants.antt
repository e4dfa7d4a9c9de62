use Rattle.lot_explain.proofs.Common.{map, take, vec_capacity, waiter_lot, ◌≡◌}
use Rattle.lot_explain.proofs.gathering.push_waiters.Given as goal

-- the lots of the waiters passed so far are there
abbrev pub invariant-loop-thread : goal.invariant-loop-thread
invariant-loop-thread l = record {
  capacity : vec_capacity l.lots ≡ vec_capacity l.initial.lots;
  lots : l.lots.items ≡ map (waiter_lot l.settled.kernel.now.state) (take l.thread-index l.waiters);
}
