use Rattle.lot_curves.proofs.Lemmas.{List, Stretch, ap, arith, had_in, length, row-is, stretches_of, take, take_all, ◌+◌, ◌∙◌, ◌≡◌}
use Rattle.lot_curves.proofs.curves.Curves.fill_row.Goals as goal

pub returns : goal.returns
returns c =
    let i = c.loop-stretch.invariant in
    let items = c.args.self.now.stretches in
    let all : take c.loop-stretch.stretch-index items ≡ items = take_all c.loop-stretch.stretch-index items
    (omega (arith, c.loop-stretch-test.false, ap length c.stretches-stretch-items.ensures.stretches)) in
    row-is c.args.measure c.args.self.now c.args.tick c.loop-stretch.row i.places
    (λ k below.
    i.had k below
    ∙ ap (λ (xs : List Stretch). had_in c.args.measure c.window-window.result c.args.tick (stretches_of (k + 1) xs)) all
    ∙ ap (λ w. had_in c.args.measure w c.args.tick (stretches_of (k + 1) items)) c.window-window.ensures)
