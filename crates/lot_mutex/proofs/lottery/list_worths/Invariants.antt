-- The values of the threads passed so far.
use Rattle.lot_mutex.proofs.Common.{length, map, take, worth_in, ◌≡◌, ◌≤◌}
use Rattle.lot_mutex.proofs.lottery.list_worths.Given as goal

abbrev pub invariant-loop-thread : goal.invariant-loop-thread
invariant-loop-thread l = record {
  worths : l.worths.items ≡ map (worth_in l.threads) (take l.thread-index l.waiters);
  few : length l.worths.items ≤ l.thread-index;
  room : l.worths.room ≡ l.initial.worths.room;
}
