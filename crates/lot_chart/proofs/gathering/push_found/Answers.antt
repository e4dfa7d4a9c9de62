use Rattle.lot_chart.proofs.Lemmas.{Stretch, all-numbers, ap, arith, filter, found-more, if◌then◌else◌, in_column, map, range_with_len, stands_below, sym, [], ◌++◌, ◌+◌, ◌-◌, ◌∙◌, ◌∷◌, ◌≡◌}
use Rattle.lot_chart.proofs.gathering.push_found.Goals.{then-has+in_ok-push_stretch, else-has}
use Rattle.lot_chart.proofs.gathering.push_found.Goals as goal

pub loop-currency-preserved : goal.loop-currency-preserved
loop-currency-preserved c =
    let n = c.loop-currency.currency in
    let i = c.loop-currency.invariant in
    let items = c.loop-currency.stretches.items in
    let x = c.args.stretch in
    let back : n ≡ n + 1 - 1 = omega arith in
    elim c.if-has.branch [
      | then-has+in_ok-push_stretch w ↦
          let told = w.in_ok-push_stretch.ensures in
          let kept = ap (λ (y : Stretch). y.end) w.in_column.ensures in
          rw w.stretches-is (record {
            low = omega (arith, i.low);
            within = omega (arith, i.low, c.loop-currency-test.true);
            columns = λ s t given those.
                let put = told.pushed ∙ ap (λ (y : Stretch). items ++ y ∷ []) w.in_column.ensures
                ∙ sym (ap (λ b. if b then items ++ in_column n x ∷ [] else items) w.if-has.true) in
                found-more x s t c.args.above.now n c.has.result c.args.stretches.now.items items _ i.low
                (omega (arith, given, c.loop-currency-test.true)) c.has.ensures those (i.columns s t given those) put
                ∙ ap (λ k. c.args.stretches.now.items
                ++ map (λ d. in_column d x) (filter (λ d. stands_below s d t) (range_with_len 1 k))) back;
            few = told.few;
            early = omega (arith, told.early, kept, i.early);
          })
      | else-has w ↦
          rw w.stretches-is (record {
            low = omega (arith, i.low);
            within = omega (arith, i.low, c.loop-currency-test.true);
            columns = λ s t given those.
                let put = sym (ap (λ b. if b then items ++ in_column n x ∷ [] else items) w.if-has.false) in
                found-more x s t c.args.above.now n c.has.result c.args.stretches.now.items items _ i.low
                (omega (arith, given, c.loop-currency-test.true)) c.has.ensures those (i.columns s t given those) put
                ∙ ap (λ k. c.args.stretches.now.items
                ++ map (λ d. in_column d x) (filter (λ d. stands_below s d t) (range_with_len 1 k))) back;
            few = i.few;
            early = i.early;
          })
    ]

pub returns-clause-columns : goal.returns-clause-columns
returns-clause-columns c s t given those =
    let i = c.loop-currency.invariant in
    let x = c.args.stretch in
    i.columns s t given those
    ∙ ap (λ ns. c.args.stretches.now.items ++ map (λ d. in_column d x) (filter (λ d. stands_below s d t) ns))
    (all-numbers s c.args.count c.loop-currency.currency given i.low i.within
    (omega (arith, c.loop-currency-test.false)))
