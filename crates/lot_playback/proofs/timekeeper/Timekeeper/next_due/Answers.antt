use Rattle.lot_playback.proofs.Common.{Bool, None, ap, cond, following, moment_in, ◌∙◌}
use Rattle.lot_playback.proofs.timekeeper.Timekeeper.next_due.Goals as goal

pub returns-then-is_stopped-clause-due : goal.returns-then-is_stopped-clause-due
returns-then-is_stopped-clause-due c =
    let m = moment_in c.args.system.now c.args.self.now in
    ap (λ (b : Bool). cond b None (following c.args.program.now m)) (c.if-is_stopped.ensures c.args.system.now)

pub returns-clause-due : goal.returns-clause-due
returns-clause-due c =
    let m = moment_in c.args.system.now c.args.self.now in
    c.following.ensures.due
    ∙ ap (λ (b : Bool). cond b None (following c.args.program.now m)) (c.if-is_stopped.ensures c.args.system.now)
