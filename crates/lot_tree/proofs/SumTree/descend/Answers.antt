-- Each level halves the range of places, and counts its read.
use Rattle.lot_tree.proofs.Lemmas.{CountsReads-from_IsCounted, IsCounted_read, IsCounted_short, IsDrawn-from_IsNarrowed, IsNarrowed_left, IsNarrowed_right, IsNarrowed_short, arith, inr, le-leb, left-within, length, lt-leb, pow_pos, short-block, whole-block, whole-half, ◌%◌, ◌*◌, ◌+◌, ◌-◌, ◌<◌, ◌^◌, ◌≡◌, ◌≤◌}
use Rattle.lot_tree.proofs.SumTree.descend.Goals as goal
use Rattle.lot_tree.proofs.SumTree.descend.Goals.{then-is_past, else-is_past, then-is_whole-via-then-is_whole, then-is_whole-via-else-is_whole+then-block-n}

pub overflow_sub-block : goal.overflow_sub-block
overflow_sub-block g c =
    let level = c.loop-level.level in
    let block = c.loop-level.block in
    let whole : (block * 2 + 1) * 2 ^ (level - 1) ≤ c.len-n.result = elim c.then-is_whole.branch [
      | then-is_whole-via-then-is_whole w ↦ whole-half _ c.self.inside.sums.sums _ _ level (level - 1) block _ (omega
          arith) c.loop-level.invariant.narrowed c.len-n.result _ w.if-is_whole.true c.binary_digits.ensures.needed
      | then-is_whole-via-else-is_whole+then-block-n w ↦
          whole-block c.len-n.result (level - 1) (block * 2) w.if-block-n.true
    ] in
    omega (arith, whole, pow_pos (level - 1))

pub read-requires-clause-within : goal.read-requires-clause-within
read-requires-clause-within g c =
    let level = c.loop-level.level in
    let block = c.loop-level.block in
    let whole : (block * 2 + 1) * 2 ^ (level - 1) ≤ c.len-n.result = elim c.then-is_whole.branch [
      | then-is_whole-via-then-is_whole w ↦ whole-half _ c.self.inside.sums.sums _ _ level (level - 1) block _ (omega
          arith) c.loop-level.invariant.narrowed c.len-n.result _ w.if-is_whole.true c.binary_digits.ensures.needed
      | then-is_whole-via-else-is_whole+then-block-n w ↦
          whole-block c.len-n.result (level - 1) (block * 2) w.if-block-n.true
    ] in
    omega (arith, whole, pow_pos (level - 1), c.len-n.ensures.value)

pub fitted-left-requires : goal.fitted-left-requires
fitted-left-requires g c =
    let ws = c.self.inside.weights.items in
    let sums = c.self.inside.sums.sums in
    let level = c.loop-level.level in
    let block = c.loop-level.block in
    let held = c.self.invariant.held in
    let whole : (block * 2 + 1) * 2 ^ (level - 1) ≤ c.len-n.result = elim c.then-is_whole.branch [
      | then-is_whole-via-then-is_whole w ↦ whole-half _ c.self.inside.sums.sums _ _ level (level - 1) block _ (omega
          arith) c.loop-level.invariant.narrowed c.len-n.result _ w.if-is_whole.true c.binary_digits.ensures.needed
      | then-is_whole-via-else-is_whole+then-block-n w ↦
          whole-block c.len-n.result (level - 1) (block * 2) w.if-block-n.true
    ] in
    let fits : (block * 2 + 1) * 2 ^ (level - 1) % 2 ^ 64 ≡ (block * 2 + 1) * 2 ^ (level - 1) = omega (arith, whole) in
    let is_left = rw fits at c.read.ensures.value in
    let within = left-within ws sums c.args.d c.height-height.result level (level - 1) block c.loop-level.rest
    (omega arith) c.loop-level.invariant.narrowed
    (held.partial (level - 1) (omega (arith, c.loop-level.auto.level, c.height-height.ensures)))
    (omega (arith, whole, c.len-n.ensures.value, held.same_length))
    c.read.result is_left in
    record { narrow = λ yes. let narrow = rw (← c.self.view_is) at (c.requires.narrow yes) in omega (arith, narrow, within) }

pub loop-level-preserved-in-loop-level : goal.loop-level-preserved-in-loop-level
loop-level-preserved-in-loop-level g c =
    let ws = c.self.inside.weights.items in
    let sums = c.self.inside.sums.sums in
    let level = c.loop-level.level in
    let block = c.loop-level.block in
    let rest = c.loop-level.rest in
    let left = c.read.result in
    let height = c.height-height.result in
    let before = c.loop-level.invariant in
    let same_length = c.self.invariant.held.same_length in
    let held =
    c.self.invariant.held.partial (level - 1) (omega (arith, c.loop-level.auto.level, c.height-height.ensures)) in
    let whole : (block * 2 + 1) * 2 ^ (level - 1) ≤ c.len-n.result = elim c.then-is_whole.branch [
      | then-is_whole-via-then-is_whole w ↦ whole-half _ c.self.inside.sums.sums _ _ level (level - 1) block _ (omega
          arith) c.loop-level.invariant.narrowed c.len-n.result _ w.if-is_whole.true c.binary_digits.ensures.needed
      | then-is_whole-via-else-is_whole+then-block-n w ↦
          whole-block c.len-n.result (level - 1) (block * 2) w.if-block-n.true
    ] in
    let fits : (block * 2 + 1) * 2 ^ (level - 1) % 2 ^ 64 ≡ (block * 2 + 1) * 2 ^ (level - 1) = omega (arith, whole) in
    let is_left = rw fits at c.read.ensures.value in
    let all : (block * 2 + 1) * 2 ^ (level - 1) ≤ length ws =
    omega (arith, whole, c.len-n.ensures.value, same_length) in
    record {
      narrowed = elim c.if-is_past.branch [
        | then-is_past w ↦
            let one : c.from.result ≡ 1 =
            rw (le-leb c.fitted-left.result c.fitted-rest.result w.if-is_past.true) at c.from.ensures in
            rw (w.rest-is, one, c.fitted-rest.ensures, c.fitted-left.ensures)
            (IsNarrowed_right ws sums c.args.d height level (level - 1) block rest (omega arith) before.narrowed
            held all left is_left (omega (arith, w.if-is_past.true, c.fitted-rest.ensures, c.fitted-left.ensures)))
        | else-is_past w ↦
            let none : c.from.result ≡ 0 =
            rw (lt-leb c.fitted-left.result c.fitted-rest.result w.if-is_past.false) at c.from.ensures in
            let same_block : block * 2 + 0 ≡ block * 2 = omega arith in
            let same_rest : rest - 0 ≡ rest = omega arith in
            rw (w.rest-is, none, c.fitted-rest.ensures, same_block, same_rest)
            (IsNarrowed_left ws sums c.args.d height level (level - 1) block rest (omega arith) before.narrowed
            held all left is_left (omega (arith, w.if-is_past.false, c.fitted-rest.ensures, c.fitted-left.ensures)))
      ];
      counted = rw c.read.ensures.counted
          (inr (IsCounted_read height level (level - 1) block c.loop-level.reads (omega arith) before.counted));
    }

pub loop-level-preserved : goal.loop-level-preserved
loop-level-preserved g c =
    let ws = c.self.inside.weights.items in
    let level = c.loop-level.level in
    let block = c.loop-level.block in
    let height = c.height-height.result in
    let before = c.loop-level.invariant in
    let held = c.self.invariant.held in
    let short : length ws < (block * 2 + 1) * 2 ^ (level - 1) =
    omega (arith, short-block c.len-n.result (level - 1) (block * 2) c.if-block-n.false, c.len-n.ensures.value, held.same_length) in
    record {
      narrowed = IsNarrowed_short ws c.self.inside.sums.sums c.args.d height level (level - 1) block c.loop-level.rest
          (omega arith) before.narrowed short;
      counted = inr (IsCounted_short height level (level - 1) block c.loop-level.reads (omega arith) before.counted
          (length ws) (rw c.height-height.ensures held.fits) short);
    }

pub returns-clause-within : goal.returns-clause-within
returns-clause-within g c =
    rw (← c.self.view_is) (IsDrawn-from_IsNarrowed _ _ _ _ _ _ (omega arith) c.loop-level.invariant.narrowed).within

pub returns-clause-first_above : goal.returns-clause-first_above
returns-clause-first_above g c =
    rw (← c.self.view_is) (IsDrawn-from_IsNarrowed _ _ _ _ _ _ (omega arith) c.loop-level.invariant.narrowed).first

pub returns-clause-walk : goal.returns-clause-walk
returns-clause-walk g c =
    rw (← c.self.view_is) (IsDrawn-from_IsNarrowed _ _ _ _ _ _ (omega arith) c.loop-level.invariant.narrowed).walk

pub returns-clause-counted : goal.returns-clause-counted
returns-clause-counted g c =
    let ws = c.self.inside.weights.items in
    let held = c.self.invariant.held in
    let drawn = IsDrawn-from_IsNarrowed ws c.args.d _ c.loop-level.level c.loop-level.block c.loop-level.rest
    (omega arith) c.loop-level.invariant.narrowed in
    let some : 0 < c.height-height.result =
    omega (arith, c.height-height.ensures, held.some (omega (arith, drawn.within))) in
    let fits : 2 ^ c.height-height.result ≤ 2 * length ws + 1 = rw c.height-height.ensures held.fits in
    rw (← c.self.view_is) (CountsReads-from_IsCounted
    (length ws) c.height-height.result c.loop-level.level c.loop-level.block c.loop-level.reads c.args.visits.now _
    (omega arith) some fits (omega arith) c.loop-level.invariant.counted)
