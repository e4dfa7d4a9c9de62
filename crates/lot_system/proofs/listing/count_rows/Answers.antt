use Rattle.lot_system.proofs.Lemmas.{ap, arith, first_number, is_there, passing-none, passing-there, sym, ◌+◌, ◌∙◌, ◌≡◌}
use Rattle.lot_system.proofs.listing.count_rows.Goals as goal
use Rattle.lot_system.proofs.listing.count_rows.Goals.{then-has_row, else-has_row}

pub loop-place-preserved : goal.loop-place-preserved
loop-place-preserved c =
    let i = c.loop-place.invariant in
    let kind = c.args.kind in
    let place = c.loop-place.place in
    let there = is_there c.args.settled.kernel.now.state kind in
    let row : c.has_row.result ≡ there (first_number kind + place) = c.has_row.ensures
    ∙ ap (λ n. there (n + place)) c.first_number-first.ensures.exact in
    elim c.if-has_row.branch [
      | then-has_row w ↦ record { count = w.rows-is ∙ ap (λ n. n + 1) i.count ∙ sym (passing-there there (first_number kind) place (sym row ∙ w.if-has_row.true)); bounded = omega (arith, w.rows-is, i.bounded) }
      | else-has_row w ↦ record { count = w.rows-is ∙ i.count ∙ sym (passing-none there (first_number kind) place (sym row ∙ w.if-has_row.false)); bounded = omega (arith, w.rows-is, i.bounded) }
    ]
