use Rattle.lot_chart.proofs.Lemmas.{Curves, List, Ticks, ap, arith, due_height, due_point, flat_map, get_or, get_or-map, get_or-map-range_with_len, height_of, last_end, length, length-map, length-map-range_with_len, map, parts-sample, point_at, range_with_len, sample_count, sample_tick, sample_ticks, total_at, ℕ, ◌*◌, ◌++◌, ◌+◌, ◌<◌, ◌^◌, ◌∙◌, ◌≡◌}
use Rattle.lot_chart.proofs.due_lines.push_due_points.Goals as goal

module _ (curves : Curves) (ran : List ℕ)
    (is : ran ≡ map (total_at Ticks curves) (sample_ticks (last_end curves.stretches))) where
  abbrev at : ℕ → ℕ
  at = sample_tick (last_end curves.stretches)

  abbrev many : ℕ
  many = sample_count (last_end curves.stretches) + 1

  counted : length (sample_ticks (last_end curves.stretches)) ≡ many
  counted = length-map-range_with_len at 0 many

  ran-count : length ran ≡ many
  ran-count = ap length is ∙ length-map (sample_ticks (last_end curves.stretches)) (total_at Ticks curves) ∙ counted

  -- the ticks that were run at a sample
  ran-at : (sample : ℕ) → sample < many → get_or ran sample 0 ≡ total_at Ticks curves (at sample)
  ran-at sample below =
      ap (λ (xs : List ℕ). get_or xs sample 0) is ∙ get_or-map (total_at Ticks curves)
      (sample_ticks (last_end curves.stretches)) sample 0 0 (omega (arith, below, counted))
      ∙ ap (total_at Ticks curves) (get_or-map-range_with_len at 0 many sample sample 0 below (omega arith))

pub bounds-ran-sample : goal.bounds-ran-sample
bounds-ran-sample c = omega
    (arith, ran-count c.args.curves.now c.args.ran.now c.requires.ran, c.loop-sample-test.true, c.sample_count-sample-end.ensures.count)

pub loop-sample-preserved : goal.loop-sample-preserved
loop-sample-preserved c due shown are line =
    let curves = c.args.curves.now in
    let heads = c.args.tops.now in
    let sample = c.loop-sample.sample in
    let thread = c.args.thread in
    let top = get_or heads sample 0 in
    let below : sample < sample_count (last_end curves.stretches) + 1 =
    omega (arith, c.loop-sample-test.true, c.sample_count-sample-end.ensures.count) in
    let share = c.share-share.ensures.share curves due shown are line (omega (arith, below)) in
    let ran = ran-at curves c.args.ran.now c.requires.ran sample below in
    let height : c.due_height-height.result
    ≡ due_height curves top due shown thread (sample_tick (last_end curves.stretches) sample) =
    c.due_height-height.ensures ∙ (λ i. height_of (top * 10 ^ 9) (ran i * share i)) in
    parts-sample (due_point curves due shown heads thread) sample c.args.text.now c.loop-sample.text
    c.push_point_at.new.text (c.loop-sample.invariant due shown are line)
    (c.in_ok-push_point_at.ensures
    ∙ (λ i. c.loop-sample.text ++ point_at curves (c.sample_tick.ensures.tick i) (height i)))

pub returns : goal.returns
returns c due shown are line =
    let curves = c.args.curves.now in
    let all : c.loop-sample.sample ≡ sample_count (last_end curves.stretches) + 1 =
    omega (arith, c.loop-sample-test.false, c.loop-sample.auto.sample-end, c.sample_count-sample-end.ensures.count) in
    c.loop-sample.invariant due shown are line ∙ ap (λ n. c.args.text.now
    ++ flat_map (due_point curves due shown c.args.tops.now c.args.thread) (range_with_len 0 n)) all
