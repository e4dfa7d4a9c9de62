use Rattle.lot_chart.proofs.Lemmas.{List, ap, last_end, length, length-map, length-map-range_with_len, longest_name, on_ok_weaker, picture-is, sample_count, sample_tick, sample_ticks, top_at, width_for, ℕ, ◌+◌, ◌∙◌}
use Rattle.lot_chart.proofs.charts.push_picture.Goals as goal

pub push_due_curves-requires-clause-tops : goal.push_due_curves-requires-clause-tops
push_due_curves-requires-clause-tops c =
    let curves = c.args.curves.now in
    let last = last_end curves.stretches in
    ap (λ (xs : List ℕ). length xs) (c.as_slice-tops.ensures.value ∙ c.in_ok-heads.ensures)
    ∙ length-map (sample_ticks last) (top_at curves c.args.most)
    ∙ length-map-range_with_len (sample_tick last) 0 (sample_count last + 1)

pub push_curves-requires-clause-tops : goal.push_curves-requires-clause-tops
push_curves-requires-clause-tops c =
    let curves = c.args.curves.now in
    let last = last_end curves.stretches in
    ap (λ (xs : List ℕ). length xs) (c.as_slice-tops.ensures.value ∙ c.in_ok-heads.ensures)
    ∙ length-map (sample_ticks last) (top_at curves c.args.most)
    ∙ length-map-range_with_len (sample_tick last) 0 (sample_count last + 1)

pub returns : goal.returns
returns c =
    let lines = c.args.lines.now in
    let longest = c.longest_name.ensures.exact
    ∙ ap (λ (names : List (List ℕ)). longest_name names lines) c.names-names.ensures.names in
    let width = c.width_for-width.ensures ∙ ap (λ n. width_for n (length c.args.title.now)) longest in
    on_ok_weaker c.push-3.result
    (λ put due have. picture-is c.args.title.now c.args.curves.now due c.args.selection.now.shown.items
    c.args.selection.now.others.items c.as_slice-others.result.now lines c.width_for-width.result c.args.most
    c.total_of.result c.as_slice-tops.result.now c.names-names.result.now c.args.text.now
    c.push_head.new.text c.push_axes.new.text c.push_due_curves.new.text c.push.new.self c.push_curves.new.text
    c.push-2.new.self c.push_labels.new.text c.push-3.new.self
    width (c.as_slice-tops.ensures.value
    ∙ c.in_ok-heads.ensures) c.as_slice-others.ensures.value c.total_of.ensures c.names-names.ensures.names
    c.in_ok-push_head.ensures c.in_ok-push_axes.ensures
    (c.in_ok-push_due_curves.ensures due c.args.selection.now.shown.items have c.requires.lines) c.in_ok-push.ensures
    c.in_ok-push_curves.ensures c.in_ok-push-2.ensures c.in_ok-push_labels.ensures put)
    c.push-3.ensures
