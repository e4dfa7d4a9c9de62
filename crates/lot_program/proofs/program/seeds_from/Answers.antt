-- One more seed is the next one, and the seed after it is the next of the generator.
use Rattle.lot_program.proofs.Common.{All, All-append, All-replicate, IsBetween, IsSeed, List, ap, append_assoc, arith, length, length-append, rules, seeds_from, subst, suc, sym, ℕ, [], ◌%◌, ◌*◌, ◌++◌, ◌+◌, ◌-◌, ◌∙◌, ◌∷◌, ◌≡◌}
use Rattle.lot_program.proofs.program.seeds_from.Goals as goal

pub loop-preserved : goal.loop-preserved
loop-preserved c =
    let i = c.loop.invariant in
    let n = c.loop.counter in
    let seed = c.loop.next in
    let after = c.from.result * 48271 % 2147483647 in
    let left = c.args.processors - (n + 1) in
    let more : c.args.processors - n ≡ suc left = omega arith in
    let same : after ≡ seed * 48271 % 2147483647 = ap (λ x. x * 48271 % 2147483647) c.from.ensures in
    let range : IsBetween 1 2147483646 after = search rules in
    let items = c.in_ok-push.ensures.items in
    record {
      range = range;
      from = ap (λ xs. xs ++ seeds_from left after) items ∙ append_assoc c.loop.seeds.items (seed ∷ [])
          (seeds_from left after) ∙ ap (λ x. c.loop.seeds.items ++ seed ∷ seeds_from left x) same
          ∙ ap (λ k. c.loop.seeds.items ++ seeds_from k seed) (sym more) ∙ i.from;
      each = record {
        count = ap length items ∙ length-append c.loop.seeds.items (seed ∷ []) ∙ ap (λ k. k + 1) i.each.count;
        each = subst (λ (xs : List ℕ). All IsSeed xs) (sym items)
            (All-append IsSeed c.loop.seeds.items (seed ∷ []) i.each.each (All-replicate IsSeed 1 seed i.range));
      };
    }
