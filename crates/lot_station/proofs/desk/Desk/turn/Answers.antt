use Rattle.lot_station.proofs.Lemmas.{AtSome, Faults, answered_at, faulted_at, more_quanta, more_ticks, rules}
use Rattle.lot_station.proofs.desk.Desk.turn.Goals as goal

pub add-requires-2 : goal.add-requires-2
add-requires-2 g c =
    let ok = c.in_ok-answer.ensures.ok in
    more_quanta c.args.self.now.system c.turn.new.self c.actor.result c.in_ok-answer.answer c.total-total.result ok.1
    ok.2 c.total-total.ensures c.args.self.now.quanta.total c.quanta_in.result c.args.self.now.all_quanta
    c.quanta_in.ensures

pub add-requires-3 : goal.add-requires-3
add-requires-3 g c =
    let ok = c.in_ok-answer.ensures.ok in
    more_ticks c.args.self.now.system c.turn.new.self c.actor.result c.in_ok-answer.answer c.total-total.result ok.1
    ok.2 c.total-total.ensures c.args.self.now.ticks.total c.ticks_in.result c.args.self.now.all_ticks
    c.ticks_in.ensures

pub returns-clause-answer : goal.returns-clause-answer
returns-clause-answer g c =
    let ok = c.in_ok-answer.ensures.ok in
    answered_at _ c.args.self.now.system c.turn.new.self c.actor.result c.args.seat.now.actor c.args.slice
    c.in_ok-answer.answer c.args.self.now.setting (search rules) ok.0 ok.1 ok.2
    (c.in_ok-answer.ensures.legal c.args.self.now.timer)

pub returns-in_err-answer-clause-fault : goal.returns-in_err-answer-clause-fault
returns-in_err-answer-clause-fault g c =
    let err = c.in_err-answer.ensures.err in
    let faulted : AtSome g.T.TurnLedger.setting (λ x.
    Faults x c.args.seat.now.actor c.args.slice c.in_err-answer.field-0.0) =
    faulted_at _ c.args.self.now.system c.turn.new.self c.actor.result c.args.seat.now.actor c.args.slice
    c.in_err-answer.field-0.0 c.args.self.now.setting (search rules) err.0 err.1
    (c.in_err-answer.ensures.legal c.args.self.now.timer) in
    search (rules, faulted)
