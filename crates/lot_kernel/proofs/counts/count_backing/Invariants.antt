-- The count so far and the tickets left make up all.
use Rattle.lot_kernel.proofs.Lemmas.{backing_currency, count_after, is_currency, length, ◌+◌, ◌≡◌, ◌≤◌}
use Rattle.lot_kernel.proofs.counts.count_backing.Given as goal

abbrev pub invariant-loop-place : goal.invariant-loop-place
invariant-loop-place l = record {
  all : l.count + count_after (λ t. is_currency l.currency t.target) l.graph.funding.tickets l.place
      ≡ length (backing_currency l.graph.funding l.currency);
  few : l.count ≤ l.place;
}
