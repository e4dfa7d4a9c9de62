use Rattle.lot_chart.proofs.Common.{flat_map, last_end, length, map, range_with_len, sample_tick, sampled_line, ◌++◌, ◌≡◌}
use Rattle.lot_chart.proofs.tables.push_rows.Given as goal

-- the lines of the samples passed so far are put
abbrev pub invariant-loop-sample : goal.invariant-loop-sample
invariant-loop-sample l = record {
  text : l.text ≡ l.initial.text ++ flat_map (sampled_line l.measure l.curves)
      (map (sample_tick (last_end l.curves.stretches)) (range_with_len 0 l.sample));
  places : length l.row ≡ length l.curves.names;
}
