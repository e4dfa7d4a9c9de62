use Rattle.lot_chart.proofs.Lemmas.{ap, last_end, parts-more, row_at, row_line, rules, sample_tick, sampled_line, ◌++◌, ◌+◌, ◌∙◌, ◌≡◌}
use Rattle.lot_chart.proofs.tables.push_rows.Goals as goal

pub loop-sample-preserved : goal.loop-sample-preserved
loop-sample-preserved c =
    let i = c.loop-sample.invariant in
    let curves = c.args.curves.now in
    let tick = c.sample_tick-tick.ensures.tick in
    let line : row_line c.whole_at-whole.result (c.origin.result + c.sample_tick-tick.result) c.fill_row.new.row
    ≡ sampled_line c.args.measure curves (sample_tick (last_end curves.stretches) c.loop-sample.sample) =
    ap (row_line c.whole_at-whole.result (c.origin.result + c.sample_tick-tick.result)) c.fill_row.ensures
    ∙ ap (λ n. row_line c.whole_at-whole.result (n + c.sample_tick-tick.result)
    (row_at c.args.measure curves c.sample_tick-tick.result)) c.origin.ensures.origin
    ∙ ap (λ w. row_line w (curves.origin + c.sample_tick-tick.result)
    (row_at c.args.measure curves c.sample_tick-tick.result)) c.whole_at-whole.ensures
    ∙ ap (sampled_line c.args.measure curves) tick in
    record {
      text = parts-more (sampled_line c.args.measure curves) (sample_tick (last_end curves.stretches))
          c.loop-sample.sample c.args.text.now c.loop-sample.text c.push_row.new.text i.text
          (c.in_ok-push_row.ensures ∙ ap (λ xs. c.loop-sample.text ++ xs) line);
      places = search rules;
    }
