use Rattle.lot_chart.proofs.Common.{ap, arith, end_tick, map, map-range_with_len_more, range_with_len, sym, [], ◌++◌, ◌+◌, ◌∙◌, ◌∷◌, ◌≡◌}
use Rattle.lot_chart.proofs.gauges.ends_of.Goals as goal

pub loop-sample-preserved : goal.loop-sample-preserved
loop-sample-preserved c =
    let sample = c.loop-sample.sample in
    let at = end_tick c.args.curves.now in
    let new : c.origin-origin.result + c.sample_tick.result ≡ at sample =
    λ i. c.origin-origin.ensures.origin i + c.sample_tick.ensures.tick i in
    c.in_ok-push.ensures.items ∙ ap (λ xs. xs ++ (c.origin-origin.result + c.sample_tick.result) ∷ [])
    c.loop-sample.invariant ∙ ap (λ n. map at (range_with_len 0 sample) ++ n ∷ []) new
    ∙ sym (map-range_with_len_more at 0 sample sample (omega arith))
