-- The levels that the place needs are added one by one.
use Rattle.lot_tree.proofs.Lemmas.{AreKept, AreKept-grown, AreKept-written, Kept, List, ap, arith, get_or, length, level-room, one_shl, pow-le-pow_right, refl, rewritten_is, set, subst, sym, ℕ, ◌+◌, ◌-◌, ◌^◌, ◌∙◌, ◌≡◌, ◌≤◌}
use Rattle.lot_tree.proofs.partial_sums.PartialSums.follow.Goals as goal

pub index_mut-requires : goal.index_mut-requires
index_mut-requires c =
    let size = one_shl c.loop-level.level 64 (omega arith) in
    let room = level-room c.args.i c.loop-level.level c.binary_digits-level-end.result c.loop-level-test.true
    c.binary_digits-level-end.ensures.needed in
    omega (arith, size, room, c.requires.within, c.loop-level.invariant.kept.same_length)

pub loop-level-preserved : goal.loop-level-preserved
loop-level-preserved c =
    let i = c.loop-level.self-inside in
    let kept : Kept = record { sums = i.sums.items; height = i.height } in
    let ws = c.args.weights.now in
    let size = one_shl c.loop-level.level 64 (omega arith) in
    let room = level-room c.args.i c.loop-level.level c.binary_digits-level-end.result c.loop-level-test.true
    c.binary_digits-level-end.ensures.needed in
    let height = c.loop-level.invariant.height in
    let fits : 2 ^ kept.height ≤ length ws = rw height (omega (arith, room, c.requires.within)) in
    let grown = AreKept-grown ws kept c.args.total c.loop-level.invariant.kept c.requires.total fits
    (omega (arith, height, c.loop-level-test.true, c.binary_digits-level-end.ensures.within)) in
    record {
      kept = rw size (subst
          (λ n. AreKept ws (record { sums = set i.sums.items (2 ^ n - 1) c.args.total; height = n + 1 })) height grown);
      height = refl;
    }

pub set_partial_sums-requires-clause-reached : goal.set_partial_sums-requires-clause-reached
set_partial_sums-requires-clause-reached c =
    let more = pow-le-pow_right {n = 2} (omega arith) {i = c.binary_digits-level-end.result} {j =
    c.loop-level.self-inside.height} (omega (arith, c.loop-level.invariant.height, c.loop-level-test.false)) in
    omega (arith, c.binary_digits-level-end.ensures.enough, more)

pub returns : goal.returns
returns c =
    let i = c.loop-level.self-inside in
    let sums = c.set_partial_sums.new.sums in
    let kept : Kept = record { sums = i.sums.items; height = i.height } in
    let more = pow-le-pow_right {n = 2} (omega arith) {i = c.binary_digits-level-end.result} {j = i.height}
    (omega (arith, c.loop-level.invariant.height, c.loop-level-test.false)) in
    let same : length sums ≡ length i.sums.items =
    omega (arith, c.set_partial_sums.auto.sums, ap (length {A = ℕ}) c.deref_mut.ensures.value) in
    let others : (place : ℕ) → 2 ^ i.height ≤ place → get_or sums place 0 ≡ get_or i.sums.items place 0 = λ place past.
    c.set_partial_sums.ensures.others place past ∙ ap (λ (xs : List ℕ). get_or xs place 0) c.deref_mut.ensures.value in
    let written =
    AreKept-written c.args.weights.now sums kept c.args.i c.args.w c.loop-level.invariant.kept c.requires.within
    (omega (arith, c.binary_digits-level-end.ensures.enough, more)) same c.set_partial_sums.ensures.partial others in
    record { kept = subst (λ (xs : List ℕ). AreKept (set c.args.weights.now c.args.i c.args.w) (record { sums = xs; height = i.height })) (sym (rewritten_is i.sums.items sums (omega (arith, c.set_partial_sums.auto.sums, c.deref_mut.ensures.len)))) written }
