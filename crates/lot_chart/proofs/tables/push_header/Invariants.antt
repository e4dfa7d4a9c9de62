use Rattle.lot_chart.proofs.Common.{flat_map, next_field, take, ◌++◌, ◌≡◌}
use Rattle.lot_chart.proofs.tables.push_header.Given as goal

-- the names passed so far are put
abbrev pub invariant-loop-name : goal.invariant-loop-name
invariant-loop-name l = l.text ≡ l.initial.text ++ flat_map next_field (take l.name-index l.names)
