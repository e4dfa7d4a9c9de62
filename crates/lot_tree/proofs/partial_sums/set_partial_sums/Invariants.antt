use Rattle.lot_tree.proofs.Lemmas.{IsClimbed, get_or, ℕ, ◌-◌, ◌^◌, ◌≡◌, ◌≤◌}
use Rattle.lot_tree.proofs.partial_sums.set_partial_sums.Given as goal

abbrev pub invariant-loop-last : goal.invariant-loop-last
invariant-loop-last l = record {
  level : ℕ;
  within : level ≤ l.height;
  climbed : IsClimbed l.weights l.sums l.i l.w l.height l.last level;
  others : (place : ℕ) → 2 ^ l.height ≤ place → get_or l.sums place 0 ≡ get_or l.fn.sums place 0;
}

abbrev pub decreases-loop-last : goal.decreases-loop-last
decreases-loop-last l = l.end - l.last
