use Rattle.lot_chart.proofs.Common.{Ticks, ap, arith, last_end, map, map-range_with_len_more, map_push, range_with_len, sample_tick, sym, total_at, [], ◌++◌, ◌+◌, ◌∙◌, ◌∷◌, ◌≡◌}
use Rattle.lot_chart.proofs.due_lines.ran_of.Goals as goal

pub loop-sample-preserved : goal.loop-sample-preserved
loop-sample-preserved c =
    let curves = c.args.curves.now in
    let sample = c.loop-sample.sample in
    let all = total_at Ticks curves in
    let at = sample_tick (last_end curves.stretches) in
    let before = map at (range_with_len 0 sample) in
    let new : c.total_at.result ≡ all (at sample) = c.total_at.ensures ∙ ap all c.sample_tick.ensures.tick in
    let more : map all (map at (range_with_len 0 (sample + 1))) ≡ map all before ++ all (at sample) ∷ [] =
    ap (map all) (map-range_with_len_more at 0 sample sample (omega arith)) ∙ map_push all before (at sample) in
    c.in_ok-push.ensures.items ∙ ap (λ xs. xs ++ c.total_at.result ∷ []) c.loop-sample.invariant
    ∙ ap (λ n. map all before ++ n ∷ []) new ∙ sym more
