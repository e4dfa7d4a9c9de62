use Rattle.lot_chart.proofs.Lemmas.{List, ap, codes, decimal, figure_text, flat_map, get_or, newline, next_field, on_ok_weaker, parts-next, parts-two, refl, take_all, ℕ, ◌++◌, ◌∙◌}
use Rattle.lot_chart.proofs.tables.push_row.Goals as goal

pub loop-figure-preserved : goal.loop-figure-preserved
loop-figure-preserved c =
    let row = c.args.row.now in
    let figure = get_or row c.loop-figure.figure-index 0 in
    parts-next
    (λ n. next_field (figure_text c.args.whole n)) row c.loop-figure.figure-index 0 figure c.push_number.new.self
    c.loop-figure.text c.push_figure.new.text c.loop-figure-test.true refl c.loop-figure.invariant
    (parts-two c.loop-figure.text (codes ",") (figure_text c.args.whole figure) c.push.new.self c.push_figure.new.text
    c.in_ok-push.ensures c.in_ok-push_figure.ensures)

pub returns : goal.returns
returns c =
    let row = c.args.row.now in
    let field = λ (n : ℕ). next_field (figure_text c.args.whole n) in
    let fields = flat_map field row in
    let first = c.push_number.new.self in
    let all = c.loop-figure.invariant ∙ ap (λ (ns : List ℕ). first ++ flat_map field ns)
    (take_all c.loop-figure.figure-index row c.loop-figure-test.false) in
    on_ok_weaker c.push-2.result
    (λ put. parts-two c.args.text.now (decimal c.args.tick) (fields ++ newline) first c.push-2.new.self
    c.in_ok-push_number.ensures (parts-two first fields newline c.loop-figure.text c.push-2.new.self all put))
    c.push-2.ensures
