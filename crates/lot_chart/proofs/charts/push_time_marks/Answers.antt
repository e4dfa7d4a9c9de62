use Rattle.lot_chart.proofs.Lemmas.{ap, arith, axis_step, flat_map, last_end, lead, map, mul-le, parts-more, range_with_len, time_mark, time_mark_count, ◌*◌, ◌++◌, ◌+◌, ◌∙◌, ◌≡◌, ◌≤◌}
use Rattle.lot_chart.proofs.charts.push_time_marks.Goals as goal

pub overflow_mul-mark : goal.overflow_mul-mark
overflow_mul-mark c =
    let few : c.loop-mark.mark ≤ 5 = omega (arith, c.loop-mark-test.true, c.time_mark_count-mark-end.ensures.few) in
    let small : c.axis_step-step.result ≤ 4294967296 = omega (arith, c.axis_step-step.ensures.small) in
    let far = mul-le c.loop-mark.mark c.axis_step-step.result 5 4294967296 few small in
    omega (arith, far)

pub overflow_add-first : goal.overflow_add-first
overflow_add-first c =
    let few : c.loop-mark.mark ≤ 5 = omega (arith, c.loop-mark-test.true, c.time_mark_count-mark-end.ensures.few) in
    let small : c.axis_step-step.result ≤ 4294967296 = omega (arith, c.axis_step-step.ensures.small) in
    let far = mul-le c.loop-mark.mark c.axis_step-step.result 5 4294967296 few small in
    omega (arith, far, small, c.lead-first.ensures.short)

pub push_time_mark-requires : goal.push_time_mark-requires
push_time_mark-requires c =
    let few : c.loop-mark.mark ≤ 5 = omega (arith, c.loop-mark-test.true, c.time_mark_count-mark-end.ensures.few) in
    let small : c.axis_step-step.result ≤ 4294967296 = omega (arith, c.axis_step-step.ensures.small) in
    let far = mul-le c.loop-mark.mark c.axis_step-step.result 5 4294967296 few small in
    omega (arith, far, small, c.lead-first.ensures.short)

pub loop-mark-preserved : goal.loop-mark-preserved
loop-mark-preserved c =
    let curves = c.args.curves.now in
    let last = last_end curves.stretches in
    let mark = c.loop-mark.mark in
    let step : c.axis_step-step.result ≡ axis_step last = c.axis_step-step.ensures.exact
    ∙ ap axis_step c.last-last.ensures.last in
    let first : c.lead-first.result ≡ lead (axis_step last) curves.origin =
    c.lead-first.ensures.exact ∙ ap (λ n. lead n c.origin-origin.result) step
    ∙ ap (lead (axis_step last)) c.origin-origin.ensures.origin in
    let tick : c.lead-first.result + mark * c.axis_step-step.result ≡ lead (axis_step last) curves.origin + mark
    * axis_step last =
    ap (λ n. n + mark * c.axis_step-step.result) first
    ∙ ap (λ n. lead (axis_step last) curves.origin + mark * n) step in
    parts-more (time_mark curves) (λ n. lead (axis_step last) curves.origin + n * axis_step last) mark c.args.text.now
    c.loop-mark.text c.push_time_mark.new.text c.loop-mark.invariant
    (c.in_ok-push_time_mark.ensures ∙ ap (λ n. c.loop-mark.text ++ time_mark curves n) tick)

pub returns : goal.returns
returns c =
    let curves = c.args.curves.now in
    let last = last_end curves.stretches in
    let count : c.time_mark_count-mark-end.result ≡ time_mark_count curves.origin last =
    c.time_mark_count-mark-end.ensures.exact
    ∙ (λ i. time_mark_count (c.origin-origin.ensures.origin i) (c.last-last.ensures.last i)) in
    let all : c.loop-mark.mark ≡ time_mark_count curves.origin last + 1 =
    omega (arith, c.loop-mark-test.false, c.loop-mark.auto.mark-end, count) in
    c.loop-mark.invariant
    ∙ ap (λ n. c.args.text.now ++ flat_map (time_mark curves)
    (map (λ k. lead (axis_step last) curves.origin + k * axis_step last) (range_with_len 0 n))) all
