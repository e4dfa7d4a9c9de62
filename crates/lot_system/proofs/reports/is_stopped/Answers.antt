use Rattle.lot_system.proofs.Common.{ap, stopped_in, sym, ◌∙◌}
use Rattle.lot_system.proofs.reports.is_stopped.Goals as goal

pub returns-in-InTime : goal.returns-in-InTime
returns-in-InTime c = c.is_stopped.ensures c.args.system.now
    ∙ ap (stopped_in c.args.program.now c.args.system.now) (sym c.in-InTime.is)
