-- The count so far and the tickets left make up all.
use Rattle.lot_kernel.proofs.Lemmas.{count_after, issued_in, length, ◌+◌, ◌==◌, ◌≡◌, ◌≤◌}
use Rattle.lot_kernel.proofs.counts.count_issued.Given as goal

abbrev pub invariant-loop-place : goal.invariant-loop-place
invariant-loop-place l = record {
  all : l.count + count_after (λ t. t.issuer == l.currency) l.graph.funding.tickets l.place
      ≡ length (issued_in l.graph.funding l.currency);
  few : l.count ≤ l.place;
}
