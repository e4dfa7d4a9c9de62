use Rattle.lot_mutex.proofs.Lemmas.{Contains, Some, arith, queue-from, refl, slice_index, status_of, take, up-to, ◌≡◌}
use Rattle.lot_machine.specs.declared.record.Status.TheVariants as status
use Rattle.lot_mutex.proofs.checks.are_waiting.Goals as goal

pub loop-place-preserved : goal.loop-place-preserved
loop-place-preserved c = record {
  wait = up-to (λ k. status_of c.args.threads.now.records (slice_index c.args.waiters.now k) ≡ Some (status.Waiting
      c.args.mutex.number)) c.loop-place.place c.loop-place.invariant.wait (c.if-not-is_waiting.ensures.0 refl);
  first = up-to (λ k. ¬ Contains (take k c.args.waiters.now) (slice_index c.args.waiters.now k)) c.loop-place.place
      c.loop-place.invariant.first (c.if-not-is_first.ensures.0 refl);
}

pub returns : goal.returns
returns c = (
  (λ yes.
      queue-from c.args.threads.now.records (status.Waiting c.args.mutex.number) c.args.waiters.now c.loop-place.place
      (omega (arith, c.loop-place-test.false)) c.loop-place.invariant.wait c.loop-place.invariant.first),
  (λ queue. refl),
)
