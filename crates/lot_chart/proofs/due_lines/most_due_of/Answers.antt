use Rattle.lot_chart.proofs.Common.{IsLineOf, Standing, Ticks, ap, arith, div_ceil, due_ticks, fold, fold_more, get_or_default, last_end, last_sample, length, line_share, max, sample_tick, sym, take_all, total_at, ◌*◌, ◌<◌, ◌^◌, ◌∙◌, ◌≡◌}
use Rattle.lot_chart.proofs.due_lines.most_due_of.Goals as goal

pub loop-place-preserved : goal.loop-place-preserved
loop-place-preserved c due are =
    let curves = c.args.curves.now in
    let shown = c.args.shown.now in
    let place = c.loop-place.place in
    let below : place < length shown = omega (arith, c.loop-place-test.true) in
    let line : IsLineOf shown place _ =
    record { there = below; same = λ e. ap (λ (s : Standing). s.thread) (get_or_default shown place _ e below) } in
    let last = ap (sample_tick (last_end curves.stretches)) c.sample_count-last.ensures.count in
    let share = c.share-share.ensures.share curves due shown are line (omega (arith, c.sample_count-last.ensures.count))
    ∙ ap (line_share curves due shown _) last in
    let ran : c.total_at-ran.result ≡ total_at Ticks curves (last_sample curves) = c.total_at-ran.ensures
    ∙ ap (total_at Ticks curves) (c.sample_tick.ensures.tick ∙ last) in
    let ticks = c.due_ticks.ensures ∙ (λ i. div_ceil (ran i * share i) (10 ^ 9)) in
    c.max-most.ensures ∙ (λ i. max (ticks i) (c.loop-place.invariant due are i))
    ∙ sym (fold_more (λ most (s : Standing). max (due_ticks curves due shown s.thread) most) 0 shown place _ below)

pub returns : goal.returns
returns c due are =
    let curves = c.args.curves.now in
    let shown = c.args.shown.now in
    c.loop-place.invariant due are ∙ ap (fold (λ most (s : Standing). max (due_ticks curves due shown s.thread) most) 0)
    (take_all c.loop-place.place shown (omega (arith, c.loop-place-test.false)))
