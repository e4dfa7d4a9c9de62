use Rattle.lot_chart.proofs.Common.{List, Stretch, ap, append_assoc, arith, currency_numbers, filter, in_column, map, stands_below, [], ◌++◌, ◌∙◌, ◌∷◌}
use Rattle.lot_chart.proofs.gathering.push_columns.Goals as goal

pub returns-in_ok-push_found-clause-columns : goal.returns-in_ok-push_found-clause-columns
returns-in_ok-push_found-clause-columns c s t given those ran =
    let old = c.args.stretches.now.items in
    let stretch = c.args.stretch in
    let found = map (λ n. in_column n stretch) (filter (λ n. stands_below s n t) (currency_numbers s)) in
    let first = c.in_ok-push_stretch.ensures.pushed ∙ ap (λ (x : Stretch). old ++ x ∷ []) c.in_column.ensures in
    c.in_ok-push_found.ensures.columns s t given those ∙ ap (λ (xs : List Stretch). xs ++ found) first
    ∙ append_assoc old (in_column 0 stretch ∷ []) found

pub returns-in_ok-push_found-clause-early : goal.returns-in_ok-push_found-clause-early
returns-in_ok-push_found-clause-early c = omega
    (arith, c.in_ok-push_found.ensures.early, c.in_ok-push_stretch.ensures.early, ap (λ (x : Stretch). x.end) c.in_column.ensures)

pub returns-else-has_run-clause-none : goal.returns-else-has_run-clause-none
returns-else-has_run-clause-none c none =
    c.in_ok-push_stretch.ensures.pushed ∙ ap (λ (x : Stretch). c.args.stretches.now.items ++ x ∷ []) c.in_column.ensures

pub returns-else-has_run-clause-early : goal.returns-else-has_run-clause-early
returns-else-has_run-clause-early c =
    omega (arith, c.in_ok-push_stretch.ensures.early, ap (λ (x : Stretch). x.end) c.in_column.ensures)
