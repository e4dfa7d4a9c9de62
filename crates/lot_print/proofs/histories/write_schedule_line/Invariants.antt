use Rattle.lot_print.proofs.Common.{actor_text, codes, flat_map, length, take, ◌*◌, ◌++◌, ◌+◌, ◌≡◌, ◌≤◌}
use Rattle.lot_print.proofs.histories.write_schedule_line.Given as goal

-- the actors passed so far are in the line
abbrev pub invariant-loop-actor : goal.invariant-loop-actor
invariant-loop-actor g l = record {
  text : l.line ≡ codes "schedule" ++ flat_map actor_text (take l.actor-index l.actors);
  len : length l.line ≤ 8 + l.actor-index * 6;
}
