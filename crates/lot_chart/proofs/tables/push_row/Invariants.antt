use Rattle.lot_chart.proofs.Common.{figure_text, flat_map, next_field, take, ◌++◌, ◌≡◌}
use Rattle.lot_chart.proofs.tables.push_row.Given as goal

-- the figures passed so far are put
abbrev pub invariant-loop-figure : goal.invariant-loop-figure
invariant-loop-figure l =
    l.text ≡ l.initial.text ++ flat_map (λ n. next_field (figure_text l.whole n)) (take l.figure-index l.row)
