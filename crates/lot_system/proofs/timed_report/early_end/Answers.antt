use Rattle.lot_system.proofs.Lemmas.{ap, early-is, length, moment_in, unwrap_or, ◌∙◌}
use Rattle.lot_system.proofs.timed_report.early_end.Goals as goal

pub returns : goal.returns
returns c =
    early-is c.args.program.now (moment_in c.args.system.now c.args.timekeeper.now) c.in_ok-following.field-0
    c.unwrap_or.result c.turn_count.result (length c.args.system.now.history) c.in_ok-following.ensures.due
    (c.unwrap_or.ensures ∙ ap (λ d. unwrap_or d 0) c.duration.ensures.duration)
    c.turn_count.ensures.turns
