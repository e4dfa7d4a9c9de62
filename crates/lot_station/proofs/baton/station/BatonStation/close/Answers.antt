use Rattle.lot_station.proofs.Lemmas.{Baton, HasEachSeat, List, Seat, SeesAll, View, adds_up, ap, counts_add_up, each_all, last_actor, no_timer, refl, shown, subst, ℕ}
use Rattle.lot_station.proofs.baton.station.BatonStation.close.Goals as goal

pub returns-clause-order : goal.returns-clause-order
returns-clause-order g c =
    subst (λ (y : ℕ × List Seat). HasEachSeat y.0 y.1) (λ i.
    (ap (λ (b : Baton). b.processors) c.self.view_is i, c.as_slice.ensures.value i)) (c.if-not-in_order.ensures.0 refl)

pub returns-clause-shows : goal.returns-clause-shows
returns-clause-shows g c =
    each_all _ c.args.seats.items (shown c.take-system.result c.args.seats.items
    (subst (λ (y : View). SeesAll c.take-system.result y.claims) c.joined-pass.ensures.view c.take-system.ensures.seen))

pub returns-clause-sums : goal.returns-clause-sums
returns-clause-sums g c =
    let order = returns-clause-order g c in
    let shows = returns-clause-shows g c in
    let last = last_actor c.args.self c.take-system.result c.args.seats.items c.requires order shows in
    let timer = no_timer _ c.take-system.result c.args.seats.items order shows c.joined-pass.ensures.timer in
    adds_up c.take-system.result c.args.self.processors c.args.seats.items last order
    (c.history.ensures.legal timer).actors shows

pub returns-clause-legal : goal.returns-clause-legal
returns-clause-legal g c =
    c.history.ensures.legal (no_timer _ c.take-system.result c.args.seats.items (returns-clause-order g c)
    (returns-clause-shows g c) c.joined-pass.ensures.timer)

pub returns-clause-counts : goal.returns-clause-counts
returns-clause-counts g c =
    counts_add_up c.take-system.result c.args.seats.items (returns-clause-sums g c) (returns-clause-shows g c)
