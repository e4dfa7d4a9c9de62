-- The system under the lock is of the station's program and room.
use Rattle.lot_station.proofs.Common.{Answers, AtSome, Faults, Goes, IfErr, IfOk, IsWorkOf, Setting, subst}
use Rattle.lot_station.proofs.station.Station.turn.Goals as goal

pub returns-clause-answer : goal.returns-clause-answer
returns-clause-answer g c =
    subst (λ (s : Setting). IfOk c.turn.result (λ answer. AtSome s (λ x. Goes x c.args.seat.now.actor c.args.slice
    × Answers x c.args.seat.now.actor answer))) c.self.view_is c.turn.ensures.answer

pub returns-clause-next : goal.returns-clause-next
returns-clause-next g c =
    subst (λ (s : Setting). IfOk c.turn.result (λ answer. AtSome s (λ x. IsWorkOf x c.args.seat.now.actor answer.next)))
    c.self.view_is c.turn.ensures.next

pub returns-clause-fault : goal.returns-clause-fault
returns-clause-fault g c =
    subst (λ (s : Setting). IfErr c.turn.result
    (λ fault. AtSome s (λ x. Faults x c.args.seat.now.actor c.args.slice fault))) c.self.view_is c.turn.ensures.fault
