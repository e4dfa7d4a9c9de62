-- the owners from this place on are left to do, and only owners have changed
use Rattle.lot_kernel.proofs.Lemmas.{AreFreed, funding_in, holders_from, lends_lead, length, range_with_len, unserved, ◌+◌, ◌-◌, ◌≡◌, ◌≤◌}
use Rattle.lot_kernel.proofs.tables.cycles.free_leading.Given as goal

abbrev pub invariant-loop-place : goal.invariant-loop-place
invariant-loop-place l = record {
  freed : AreFreed (λ t. lends_lead (funding_in l.initial.threads) t l.thread.number) l.initial.queues l.queues l.first
      (unserved (λ t. lends_lead (funding_in l.initial.threads) t l.thread.number) l.initial.queues.mutexes
      (range_with_len (l.first + 1) (length l.initial.queues.mutexes - l.first)))
      (holders_from (length l.initial.queues.mutexes) l.place);
  threads : l.threads ≡ l.initial.threads;
  from : l.first ≤ l.place;
}
