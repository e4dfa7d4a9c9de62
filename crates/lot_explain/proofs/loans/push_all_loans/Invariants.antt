use Rattle.lot_explain.proofs.Common.{flat_map, loan_of, range_with_len, vec_capacity, vec_len, ◌≡◌, ◌≤◌}
use Rattle.lot_explain.proofs.loans.push_all_loans.Given as goal

-- the loans of the threads passed so far are there
abbrev pub invariant-loop-place : goal.invariant-loop-place
invariant-loop-place l = record {
  capacity : vec_capacity l.loans ≡ vec_capacity l.initial.loans;
  few : vec_len l.loans ≤ l.place;
  loans : l.loans.items ≡ flat_map (loan_of l.settled.kernel.now.state) (range_with_len 1 l.place);
}
