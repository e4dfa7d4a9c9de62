use Rattle.lot_chart.proofs.Lemmas.{meter-kept, meter-renewed, meter-within, passed-columns, ran-sound, rules}
use Rattle.lot_chart.proofs.metering.MeterObserver.after.Goals as goal

pub pass-requires-clause-within : goal.pass-requires-clause-within
pass-requires-clause-within c =
    let (turns, made, first, just, awaits) = c.requires.awaits in
    meter-within c.args.program.now turns first c.args.self.now awaits.is

pub renew-requires-clause-sound : goal.renew-requires-clause-sound
renew-requires-clause-sound c =
    let (turns, made, first, just, awaits) = c.requires.awaits in
    ran-sound c.args.program.now c.args.system.now just.has.program_is awaits.is.bounds

pub renew-requires-clause-columns : goal.renew-requires-clause-columns
renew-requires-clause-columns c =
    let (turns, made, first, just, awaits) = c.requires.awaits in
    passed-columns c.args.program.now turns first c.args.self.now awaits.is c.from.result c.pass.new.self
    c.in_ok-pass.ensures

pub returns-then-is_dispatch-clause-ok : goal.returns-then-is_dispatch-clause-ok
returns-then-is_dispatch-clause-ok c turns made first just awaits =
    meter-kept c.args.program.now turns made c.args.turn.now c.args.system.now just first c.args.self.now
    c.pass.new.self awaits c.unwrap_or-time.result c.from.result c.unwrap_or-time.ensures (search rules)
    (search rules) c.in_ok-pass.ensures c.if-not-turn.true (c.is_dispatch.ensures.0 c.if-is_dispatch.true)

pub returns-clause-ok : goal.returns-clause-ok
returns-clause-ok c turns made first just awaits =
    meter-renewed c.args.program.now turns made c.args.turn.now c.args.system.now just first c.args.self.now
    c.pass.new.self awaits c.unwrap_or-time.result c.from.result c.unwrap_or-time.ensures (search rules)
    (search rules) c.in_ok-pass.ensures c.renew.new.self c.renew.ensures.renewed
