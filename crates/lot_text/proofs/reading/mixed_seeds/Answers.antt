-- One more seed is the next of the generator, and one of its values.
use Rattle.lot_text.proofs.Common.{All, All-append, All-replicate, IsBetween, IsSeed, List, ap, arith, length, length-append, map, map-range_with_len_more, mixed_seed, range_with_len, rules, subst, suc, sym, ℕ, [], ◌%◌, ◌*◌, ◌++◌, ◌+◌, ◌∙◌, ◌∷◌, ◌≡◌}
use Rattle.lot_text.proofs.reading.mixed_seeds.Goals as goal

pub loop-preserved : goal.loop-preserved
loop-preserved c =
    let i = c.loop.invariant in
    let n = c.loop.counter in
    let seed = c.from.result * 48271 % 2147483647 in
    let more : n + 1 ≡ suc n = omega arith in
    let next : mixed_seed (n + 1) ≡ 48271 * mixed_seed n % 2147483647 = ap mixed_seed more in
    let product : c.from.result * 48271 ≡ 48271 * mixed_seed n = omega (arith, c.from.ensures, i.seed) in
    let is : seed ≡ mixed_seed (n + 1) = ap (λ x. x % 2147483647) product ∙ sym next in
    let range : IsBetween 1 2147483646 seed = search rules in
    let items = c.in_ok-push.ensures.items in
    record {
      seed = is;
      range = range;
      mixed = items ∙ ap (λ xs. xs ++ seed ∷ []) i.mixed ∙ ap (λ x. map mixed_seed (range_with_len 1 n) ++ x ∷ []) is
          ∙ sym (map-range_with_len_more mixed_seed 1 n (n + 1) (omega arith));
      each = record {
        count = ap length items ∙ length-append c.loop.seeds.items (seed ∷ []) ∙ ap (λ k. k + 1) i.each.count;
        each = subst (λ (xs : List ℕ). All IsSeed xs) (sym items)
            (All-append IsSeed c.loop.seeds.items (seed ∷ []) i.each.each (All-replicate IsSeed 1 seed range));
      };
    }
