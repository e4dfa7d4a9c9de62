use Rattle.lot_chart.proofs.Lemmas.{List, Option, ap, column_mark, flat_map, marked, parts-next, refl, take, take_all, ℕ, ◌++◌, ◌∙◌, ◌≡◌}
use Rattle.lot_chart.proofs.charts.push_command_marks.Goals as goal

pub loop-mark-preserved : goal.loop-mark-preserved
loop-mark-preserved c =
    parts-next (column_mark c.args.curves.now) c.as_slice-mark-items.result.now c.loop-mark.mark-index _ _
    c.args.text.now c.loop-mark.text c.push_column_mark.new.text c.loop-mark-test.true refl c.loop-mark.invariant
    c.in_ok-push_column_mark.ensures

pub returns : goal.returns
returns c =
    let curves = c.args.curves.now in
    let n = c.loop-mark.mark-index in
    let items = c.as_slice-mark-items.result.now in
    let all : take n items ≡ items = take_all n items c.loop-mark-test.false in
    let marks : items ≡ marked curves = c.as_slice-mark-items.ensures.value ∙ c.in_ok-marks.ensures in
    c.loop-mark.invariant
    ∙ ap (λ (ms : List (Option ℕ)). c.args.text.now ++ flat_map (column_mark curves) ms) (all ∙ marks)
