use Rattle.lot_chart.proofs.Lemmas.{AreLinesOf, HaveDues, List, PlotLine, Standing, ap, chart-is, lines-are, lines_of, max, most_due, most_in, most_shown, subst, sym, top_at, ◌∙◌, ◌≡◌}
use Rattle.lot_chart.proofs.charts.draw.Goals as goal

pub push_picture-requires-clause-lines : goal.push_picture-requires-clause-lines
push_picture-requires-clause-lines c =
    subst (λ (ls : List PlotLine). AreLinesOf c.args.selection.now.shown.items ls) (sym (c.as_slice.ensures.value
    ∙ c.in_ok-lines.ensures ∙ ap (lines_of c.top_at-top.result) c.as_slice-shown.ensures.value))
    (lines-are c.top_at-top.result c.args.selection.now.shown.items)

pub most_due-requires : goal.most_due-requires
most_due-requires c =
    let (due, have) = c.requires.due in
    (due, subst (λ (picked : List Standing). HaveDues c.args.curves.now due picked c.args.dues.now) (sym c.as_slice-shown.ensures.value) have)

pub returns : goal.returns
returns c due have =
    let curves = c.args.curves.now in
    let shown = c.args.selection.now.shown.items in
    let picked = c.as_slice-shown.ensures.value in
    let highest = c.most_in.ensures ∙ ap most_in picked in
    let due_most = c.most_due.ensures due (subst (λ (picked : List Standing).
    HaveDues curves due picked c.args.dues.now) (sym picked) have) ∙ ap (most_due curves due) picked in
    let most : c.max-most.result ≡ most_shown curves due shown = c.max-most.ensures
    ∙ (λ i. max (highest i) (due_most i)) in
    let top = c.top_at-top.ensures ∙ ap (top_at curves c.max-most.result) c.last.ensures.last in
    let lines = c.as_slice.ensures.value ∙ c.in_ok-lines.ensures ∙ (λ i. lines_of (top i) (picked i)) in
    c.into_bytes.ensures
    ∙ chart-is c.args.title.now c.as_bytes.result.now curves due shown c.args.selection.now.others.items
    c.max-most.result c.as_slice.result.now c.new-text.result c.push_picture.new.text c.new-text.ensures
    c.as_bytes.ensures.value c.requires.selection most lines (c.in_ok-push_picture.ensures due have)
