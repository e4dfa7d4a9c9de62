-- The climb from one partial sum over `i` to the next ends at the last of the first 2 ^ height places, or past the last.
use Rattle.lot_tree.proofs.Lemmas.{IsWrittenBelow_past, IsWrittenBelow_top, arith, cases_lt, get_or-set_other, inl, inr, last_below, last_sum_within, last_sum_written, le_or_r, length, lowest-below, next-last, refl, trailing_ones, w64, ◌+◌, ◌<◌, ◌∙◌}
use Rattle.lot_tree.proofs.partial_sums.set_partial_sums.Goals as goal

pub overflow_sub-sums : goal.overflow_sub-sums
overflow_sub-sums c =
    let found = c.loop-last.invariant in
    let last = c.loop-last.last in
    let whole : last < length c.args.weights.now = omega (arith, c.loop-last-test.true, c.climb_end-end.ensures) in
    let low = lowest-below _ _ _ _ _ last c.requires.within _ (trailing_ones w64 last) found.within found.climbed
    (omega arith) refl (omega (arith, c.loop-last-test.true, c.climb_end-end.ensures)) in
    (last_sum_within _ _ _ _ _ last c.requires.within _ _ found.within found.climbed (omega arith) refl low
    (omega arith) whole).0

pub overflow_add-sums : goal.overflow_add-sums
overflow_add-sums c =
    let found = c.loop-last.invariant in
    let last = c.loop-last.last in
    let whole : last < length c.args.weights.now = omega (arith, c.loop-last-test.true, c.climb_end-end.ensures) in
    let low = lowest-below _ _ _ _ _ last c.requires.within _ (trailing_ones w64 last) found.within found.climbed
    (omega arith) refl (omega (arith, c.loop-last-test.true, c.climb_end-end.ensures)) in
    let within = last_sum_within _ _ _ _ _ last c.requires.within _ _ found.within found.climbed (omega arith) refl low
    (omega arith) whole in
    omega (arith, within.1)

pub loop-last-smaller : goal.loop-last-smaller
loop-last-smaller c = omega (arith, le_or_r c.loop-last.last (c.loop-last.last + 1), c.loop-last-test.true)

pub loop-last-preserved : goal.loop-last-preserved
loop-last-preserved c =
    let found = c.loop-last.invariant in
    let last = c.loop-last.last in
    let lowest = trailing_ones w64 last in
    let whole : last < length c.args.weights.now = omega (arith, c.loop-last-test.true, c.climb_end-end.ensures) in
    let low = lowest-below _ _ _ _ _ last c.requires.within _ lowest found.within found.climbed (omega arith) refl
    (omega (arith, c.loop-last-test.true, c.climb_end-end.ensures)) in
    let next = next-last _ _ _ _ _ last c.requires.within _ lowest found.within found.climbed (omega arith) refl in
    let below = last_below _ _ _ _ _ last c.requires.within _ lowest found.within found.climbed
    (omega arith) refl low c.requires.reached in
    record {
      level = lowest + 1;
      within = omega (arith, low);
      climbed = rw next (last_sum_written _ _ _ _ _ last c.requires.within _ lowest found.within found.climbed
          (omega arith) refl low (omega arith) whole);
      others = λ place past. get_or-set_other c.loop-last.sums _ place _ 0
          (λ same. absurd (omega (arith, same, past, below))) ∙ found.others place past;
    }

pub returns-clause-partial : goal.returns-clause-partial
returns-clause-partial c =
    let found = c.loop-last.invariant in
    let last = c.loop-last.last in
    elim (cases_lt last (length c.args.weights.now)) [
      | inl whole ↦
          (IsWrittenBelow_top _ _ _ _ _ _ c.requires.within _ found.within found.climbed c.requires.reached
          (omega (arith, whole, c.loop-last-test.false, c.climb_end-end.ensures))).written
      | inr past ↦ (IsWrittenBelow_past _ _ _ _ _ _ c.requires.within _ found.within found.climbed past).written
    ]
