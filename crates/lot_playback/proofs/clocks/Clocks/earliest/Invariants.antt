use Rattle.lot_playback.proofs.Common.{alarms_in, console_due, earliest, flat_map, moment_of, processor_due, range_with_len, timer_due, ◌++◌, ◌≡◌}
use Rattle.lot_playback.proofs.clocks.Clocks.earliest.Given as goal

-- it is the first of the console's turn, the timer's and those of the processors passed so far
abbrev pub invariant-loop-place : goal.invariant-loop-place
invariant-loop-place l =
    let m = moment_of l.system l.self.time l.self.processors.items (alarms_in l.alarms.threads.items) in
    l.first
    ≡ earliest ((console_due m ++ timer_due l.program m) ++ flat_map (processor_due m) (range_with_len 1 l.place))
