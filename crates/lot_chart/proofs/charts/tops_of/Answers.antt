use Rattle.lot_chart.proofs.Common.{ap, arith, last_end, map, map-range_with_len_more, map_push, range_with_len, sample_tick, sym, top_at, [], ◌++◌, ◌+◌, ◌∙◌, ◌∷◌, ◌≡◌}
use Rattle.lot_chart.proofs.charts.tops_of.Goals as goal

pub loop-sample-preserved : goal.loop-sample-preserved
loop-sample-preserved c =
    let curves = c.args.curves.now in
    let sample = c.loop-sample.sample in
    let top = top_at curves c.args.most in
    let at = sample_tick (last_end curves.stretches) in
    let before = map at (range_with_len 0 sample) in
    let new : c.top_at.result ≡ top (at sample) = c.top_at.ensures ∙ ap top c.sample_tick.ensures.tick in
    let more : map top (map at (range_with_len 0 (sample + 1))) ≡ map top before ++ top (at sample) ∷ [] =
    ap (map top) (map-range_with_len_more at 0 sample sample (omega arith)) ∙ map_push top before (at sample) in
    c.in_ok-push.ensures.items ∙ ap (λ xs. xs ++ c.top_at.result ∷ []) c.loop-sample.invariant
    ∙ ap (λ n. map top before ++ n ∷ []) new ∙ sym more
