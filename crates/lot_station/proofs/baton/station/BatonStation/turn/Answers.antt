use Rattle.lot_station.proofs.Lemmas.{Faults, IfErr, IfOk, Looks, SeesAll, Setting, Turns, View, ap, given_after, held_after, next_turn, refused, rules, seat, seen_in, subst, turned, view, ◌∙◌}
use Rattle.lot_station.proofs.baton.station.BatonStation.turn.Goals as goal

pub give-requires-clause-held : goal.give-requires-clause-held
give-requires-clause-held g c =
    let held = held_after _ _ _ _ _ c.seat.invariant.1 c.take-system.ensures.holds in
    let goes = next_turn c.seat.inside.actor c.args.slice c.take-system.result c.take-system.result
    c.turn-answer.new.self c.turn-answer.result c.turn-answer.ensures.ok c.turn-answer.ensures.err in
    (_, _, held, goes)

pub returns-clause-ok : goal.returns-clause-ok
returns-clause-ok g c =
    let i = c.seat.invariant in
    let held = held_after _ _ _ _ _ i.1 c.take-system.ensures.holds in
    let given = given_after _ _ _ _ _ _ held c.give.ensures.gave in
    let sees = (subst (λ (y : View). SeesAll c.take-system.result y.claims) i.1 c.take-system.ensures.seen).0 in
    let old = seat c.seat.inside.pass.table_id c.seat.inside.actor
    (seen_in (view c.seat.inside.pass).claims) c.seat.inside.stopped in
    let new =
    seat c.give.new.pass.table_id c.seat.inside.actor (seen_in (view c.give.new.pass).claims) c.seat.inside.stopped in
    subst (λ o. IfOk c.turn-answer.result (λ answer. Turns o c.args.slice answer new)) c.seat.view_is
    (turned old new c.args.slice c.take-system.result c.turn-answer.new.self c.turn-answer.result
    (ap (λ (y : View). seen_in y.claims) given) sees
    (c.turn-answer.ensures.legal (ap (λ (s : Setting). s.timer) sees.0.0 ∙ i.4)) c.turn-answer.ensures.ok)

pub returns-clause-err : goal.returns-clause-err
returns-clause-err g c =
    let i = c.seat.invariant in
    let held = held_after _ _ _ _ _ i.1 c.take-system.ensures.holds in
    let given = given_after _ _ _ _ _ _ held c.give.ensures.gave in
    let sees = (subst (λ (y : View). SeesAll c.take-system.result y.claims) i.1 c.take-system.ensures.seen).0 in
    let old = seat c.seat.inside.pass.table_id c.seat.inside.actor
    (seen_in (view c.seat.inside.pass).claims) c.seat.inside.stopped in
    let new =
    seat c.give.new.pass.table_id c.seat.inside.actor (seen_in (view c.give.new.pass).claims) c.seat.inside.stopped in
    subst
    (λ o. IfErr c.turn-answer.result (λ fault. Looks o new × Faults new.seen o.actor c.args.slice fault)) c.seat.view_is
    (refused old new c.args.slice c.take-system.result c.turn-answer.new.self c.turn-answer.result
    (ap (λ (y : View). seen_in y.claims) given) sees
    (c.turn-answer.ensures.legal (ap (λ (s : Setting). s.timer) sees.0.0 ∙ i.4)) c.turn-answer.ensures.err)

pub invariant_of-seat : goal.invariant_of-seat
invariant_of-seat g c =
    let i = c.seat.invariant in
    let held = held_after _ _ _ _ _ i.1 c.take-system.ensures.holds in
    let given = given_after _ _ _ _ _ _ held c.give.ensures.gave in
    let sees = (subst (λ (y : View). SeesAll c.take-system.result y.claims) i.1 c.take-system.ensures.seen).0 in
    let goes = next_turn c.seat.inside.actor c.args.slice c.take-system.result c.take-system.result
    c.turn-answer.new.self c.turn-answer.result c.turn-answer.ensures.ok c.turn-answer.ensures.err in
    (search rules, search rules, search rules, search rules, ap (λ (y : View). (seen_in y.claims).setting.timer) given ∙ ap (λ (s : Setting). s.timer) (goes.0 ∙ sees.0.0) ∙ i.4)
