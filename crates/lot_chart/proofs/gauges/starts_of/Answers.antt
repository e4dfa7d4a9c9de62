use Rattle.lot_chart.proofs.Common.{ap, arith, last_end, map, map-range_with_len_more, range_with_len, sample_tick, start_of, start_tick, sym, [], ◌++◌, ◌+◌, ◌∙◌, ◌∷◌, ◌≡◌}
use Rattle.lot_chart.proofs.gauges.starts_of.Goals as goal

pub loop-sample-preserved : goal.loop-sample-preserved
loop-sample-preserved c =
    let curves = c.args.curves.now in
    let sample = c.loop-sample.sample in
    let at = start_tick curves in
    let start : c.start_of-start.result ≡ start_of curves.window (sample_tick (last_end curves.stretches) sample) =
    c.start_of-start.ensures.start ∙ (λ i. start_of (c.window.ensures i) (c.sample_tick.ensures.tick i)) in
    let new : c.origin.result + c.start_of-start.result ≡ at sample = λ i. c.origin.ensures.origin i + start i in
    c.in_ok-push.ensures.items ∙ ap (λ xs. xs ++ (c.origin.result + c.start_of-start.result) ∷ [])
    c.loop-sample.invariant ∙ ap (λ n. map at (range_with_len 0 sample) ++ n ∷ []) new
    ∙ sym (map-range_with_len_more at 0 sample sample (omega arith))
