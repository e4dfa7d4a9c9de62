use Rattle.std.proofs.Common.{◌∙◌, ◌∷◌, [], ◌++◌, List, ℕ, ap, length, arith, sym}
use Rattle.std.proofs.lemmas.List.FromFn.{length-range_with_len}
use Rattle.lot_kept.proofs.Ranges.{range-more}
use Rattle.lot_kept.proofs.kept.Kept+u32.counted.Goals as goal

pub push_reserved-requires : goal.push_reserved-requires
push_reserved-requires c =
    omega (arith, ap (length {A = ℕ}) c.loop-number.invariant.items, length-range_with_len 0 c.loop-number.number, c.loop-number.invariant.room, c.loop-number.places.ok.0)

pub loop-number-preserved : goal.loop-number-preserved
loop-number-preserved c = record {
  items = c.push_reserved.ensures.items ∙ ap (λ (xs : List ℕ). xs ++ c.loop-number.number ∷ [])
      c.loop-number.invariant.items ∙ sym (range-more 0 c.loop-number.number c.loop-number.number (omega arith));
  room = c.push_reserved.ensures.capacity ∙ c.loop-number.invariant.room;
  within = omega arith;
}

pub invariant_of-result : goal.invariant_of-result
invariant_of-result c =
    omega (arith, ap (length {A = ℕ}) c.loop-number.invariant.items, length-range_with_len 0 c.loop-number.number, c.loop-number.invariant.room, c.loop-number.places.ok.0)
