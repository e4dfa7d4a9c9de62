use Rattle.lot_playback.proofs.Lemmas.{IsNextAlarm, Program, ap, arith, next-alarm, subst}
use Rattle.lot_playback.proofs.timekeeper.Timekeeper.following.Goals as goal

pub following-requires-clause-clocks : goal.following-requires-clause-clocks
following-requires-clause-clocks c = omega
    (arith, c.requires.followed.room.clocks, c.args.self.now.clocks.processors.ok.0, ap (λ (p : Program). p.limits.processors) c.requires.program)

pub following-requires-clause-alarms : goal.following-requires-clause-alarms
following-requires-clause-alarms c =
    let followed = c.requires.followed in
    subst (λ (p : Program). IsNextAlarm p c.args.system.now c.args.self.now.alarms) c.requires.program
    (next-alarm c.args.system.now.setting.program c.args.system.now c.args.self.now.alarms followed.sleeping
    followed.sleepers)
