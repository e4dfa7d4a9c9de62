use Rattle.lot_chart.proofs.Lemmas.{List, ap, arith, length, map, map-range_with_len_more, name_by, numbers-are, numbers_by, range_with_len, sym, ℕ, [], ◌++◌, ◌+◌, ◌∙◌, ◌∷◌, ◌≡◌}
use Rattle.lot_chart.proofs.gathering.names_of.Goals as goal

pub loop-place-preserved : goal.loop-place-preserved
loop-place-preserved c =
    let i = c.loop-place.invariant in
    let name = name_by c.args.by c.args.settled.kernel.now.state in
    let n = c.loop-place.place in
    record {
      names = c.in_ok-push.ensures.items ∙ ap (λ (xs : List (List ℕ)). xs ++ c.name_by.result ∷ []) i.names
          ∙ ap (λ x. map name (range_with_len 1 n) ++ x ∷ []) c.name_by.ensures
          ∙ sym (map-range_with_len_more name 1 n (n + 1) (omega arith));
      count = omega (arith, c.in_ok-push.ensures.len, i.count);
    }

pub returns-clause-names : goal.returns-clause-names
returns-clause-names c =
    let s = c.args.settled.kernel.now.state in
    let all : c.loop-place.place ≡ length (numbers_by c.args.by s) =
    omega (arith, c.loop-place-test.false, c.loop-place.auto.place-end, c.column_count-count.ensures) in
    c.loop-place.invariant.names
    ∙ ap (map (name_by c.args.by s)) (ap (range_with_len 1) all ∙ sym (numbers-are c.args.by s))
