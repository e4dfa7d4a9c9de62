use Rattle.lot_playback.proofs.Common.{alarm_at, alarms_in, earliest, flat_map, range_with_len, ◌≡◌}
use Rattle.lot_playback.proofs.alarms.Alarms.earliest.Given as goal

-- it is the first of the turns for the threads passed so far
abbrev pub invariant-loop-place : goal.invariant-loop-place
invariant-loop-place l =
    l.first ≡ earliest (flat_map (alarm_at l.processors (alarms_in l.self.threads.items)) (range_with_len 1 l.place))
