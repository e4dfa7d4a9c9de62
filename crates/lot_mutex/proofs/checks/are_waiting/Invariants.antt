-- The threads passed so far wait, and none is listed twice.
use Rattle.lot_mutex.proofs.Common.{Contains, Some, slice_index, status_of, take, ℕ, ◌<◌, ◌≡◌}
use Rattle.lot_machine.specs.declared.record.Status.TheVariants as status
use Rattle.lot_mutex.proofs.checks.are_waiting.Given as goal

abbrev pub invariant-loop-place : goal.invariant-loop-place
invariant-loop-place l = record {
  wait : (k : ℕ) → k < l.place
      → status_of l.threads.records (slice_index l.waiters k) ≡ Some (status.Waiting l.mutex.number);
  first : (k : ℕ) → k < l.place → ¬ Contains (take k l.waiters) (slice_index l.waiters k);
}
