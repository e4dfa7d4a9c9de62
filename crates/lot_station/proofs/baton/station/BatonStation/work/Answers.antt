use Rattle.lot_station.proofs.Lemmas.{Looks, SeesAll, Setting, View, ap, given_after, held_after, looks, rules, seat, seen_in, still_counted, subst, view, ◌∙◌}
use Rattle.lot_station.proofs.baton.station.BatonStation.work.Goals as goal

pub returns-clause-seen : goal.returns-clause-seen
returns-clause-seen g c =
    let i = c.seat.invariant in
    let held = held_after _ _ _ _ _ i.1 c.take-system.ensures.holds in
    let given = given_after _ _ _ _ _ _ held c.give.ensures.gave in
    let sees = (subst (λ (y : View). SeesAll c.take-system.result y.claims) i.1 c.take-system.ensures.seen).0 in
    let old = seat c.seat.inside.pass.table_id c.seat.inside.actor
    (seen_in (view c.seat.inside.pass).claims) c.seat.inside.stopped in
    let new =
    seat c.give.new.pass.table_id c.seat.inside.actor (seen_in (view c.give.new.pass).claims) c.seat.inside.stopped in
    subst (λ o. Looks o new) c.seat.view_is
    (looks old new c.take-system.result (ap (λ (y : View). seen_in y.claims) given) sees
    (c.work-work.ensures.legal (ap (λ (s : Setting). s.timer) sees.0.0 ∙ i.4)))

pub invariant_of-seat : goal.invariant_of-seat
invariant_of-seat g c =
    let i = c.seat.invariant in
    let held = held_after _ _ _ _ _ i.1 c.take-system.ensures.holds in
    let given = given_after _ _ _ _ _ _ held c.give.ensures.gave in
    let sees = (subst (λ (y : View). SeesAll c.take-system.result y.claims) i.1 c.take-system.ensures.seen).0 in
    (search rules, search rules, search rules, still_counted _ _ _ c.take-system.result _ i.3 sees (ap (λ (y : View). seen_in y.claims) given), ap (λ (y : View). (seen_in y.claims).setting.timer) given ∙ ap (λ (s : Setting). s.timer) sees.0.0 ∙ i.4)
