use Rattle.lot_playback.proofs.Lemmas.{Some, ap, moment_of, processor-first, ◌∙◌}
use Rattle.lot_playback.proofs.clocks.Clocks.processor_due.Goals as goal

pub returns : goal.returns
returns c alarms =
    let m = moment_of c.args.system.now c.args.self.now.time c.args.self.now.processors.items alarms in
    ap Some c.due_after.ensures ∙ processor-first m c.args.processor c.cost.result c.clock-clock.result
    c.clock-clock.ensures c.if-clock.false c.cost.ensures
