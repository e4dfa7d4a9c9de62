use Rattle.lot_station.proofs.Lemmas.{Baton, Extends, Looks, Seat, Setting, Told, View, ap, claim, held_with_note, joins, kept_seat, looks, next_same, noted_seat, notes, refl, seat, seen_in, still_counted, subst, sym, told_by, view, ◌+◌, ◌∙◌}
use Rattle.lot_station.proofs.baton.station.BatonStation.tell.Given.{Over}
use Rattle.lot_station.proofs.baton.station.BatonStation.tell.Goals.{After-give}
use Rattle.lot_station.proofs.baton.station.BatonStation.tell.Goals as goal

pub another-note-requires-clause-queue : goal.another-note-requires-clause-queue
another-note-requires-clause-queue g c =
    (ap (λ (s : Seat). s.station) c.from.view_is ∙ c.requires.0 ∙ sym (ap (λ (b : Baton). b.id) c.self.view_is), c.from.invariant.0)

pub another-note-requires-clause-rule : goal.another-note-requires-clause-rule
another-note-requires-clause-rule g c = notes _ _ (ap (λ (v : View). v.fresh) c.from.invariant.1)

pub absorb-requires-clause-queue : goal.absorb-requires-clause-queue
absorb-requires-clause-queue g c =
    ((ap (λ (s : Seat). s.station) c.to.view_is ∙ c.requires.1 ∙ sym (ap (λ (b : Baton). b.id) c.self.view_is), c.to.invariant.0), c.another-note.ensures.queue.1)

pub absorb-requires-clause-rule : goal.absorb-requires-clause-rule
absorb-requires-clause-rule g c = joins _ _ _ _ (ap (λ (v : View). v.fresh) c.to.invariant.1)
    (ap (λ (v : View). v.held) c.another-note.ensures.rule.1)

pub take-system-requires-clause-pass : goal.take-system-requires-clause-pass
take-system-requires-clause-pass g c =
    let q = c.absorb.ensures.queue in
    (q.0 ∙ ap (λ (s : Seat). s.station) c.to.view_is ∙ c.requires.1 ∙ sym (ap (λ (b : Baton). b.id) c.self.view_is), q.2 ∙ c.to.invariant.0)

pub take-system-requires-clause-opened : goal.take-system-requires-clause-opened
take-system-requires-clause-opened g c = ap (λ (v : View). v.fresh) c.absorb.ensures.rule
    ∙ ap (λ (v : View). v.fresh) c.to.invariant.1

pub give-requires-clause-pass : goal.give-requires-clause-pass
give-requires-clause-pass g c = (c.take-system.ensures.pass, c.self.invariant)

pub give-requires-clause-held : goal.give-requires-clause-held
give-requires-clause-held g c =
    let own = claim c.to.inside.actor (c.to.inside.actor + 1) (seen_in (view c.to.inside.pass).claims) in (
      own,
      c.take-system.result,
      held_with_note (view c.to.inside.pass) (view c.from.inside.pass) (view c.another-note.result)
          (view c.absorb.new.pass) (view c.take-system.new.pass) c.to.inside.actor c.from.inside.actor
          (seen_in (view c.to.inside.pass).claims) (seen_in (view c.from.inside.pass).claims) c.take-system.result
          c.to.invariant.1 c.from.invariant.1 c.another-note.ensures.rule.1 c.absorb.ensures.rule
          c.take-system.ensures.holds,
      next_same own c.take-system.result,
    )

told_here : (g : Over) (c : After-give g)
    → Told (view c.give.new.pass) c.to.inside.actor (seen_in (view c.to.inside.pass).claims)
    (seen_in (view c.from.inside.pass).claims) c.take-system.result
told_here g c =
    told_by (view c.to.inside.pass) (view c.from.inside.pass) (view c.another-note.result) (view c.absorb.new.pass)
    (view c.take-system.new.pass) (view c.give.new.pass) c.to.inside.actor c.from.inside.actor
    (seen_in (view c.to.inside.pass).claims) (seen_in (view c.from.inside.pass).claims) c.take-system.result
    c.to.invariant.1 c.from.invariant.1 c.another-note.ensures.rule.1 c.absorb.ensures.rule c.take-system.ensures.seen
    c.take-system.ensures.holds c.give.ensures.gave

pub invariant_of-from : goal.invariant_of-from
invariant_of-from g c =
    let i = c.from.invariant in
    let noted = c.another-note.ensures in
    noted_seat c.another-note.new.pass.me.1 (view c.from.inside.pass) (view c.another-note.new.pass) c.from.inside.actor
    c.from.inside.counts (noted.queue.0.2 ∙ i.0) noted.rule.0 i.1 i.2 i.3 i.4

pub invariant_of-to : goal.invariant_of-to
invariant_of-to g c =
    let i = c.to.invariant in
    let told = told_here g c in
    let old = seen_in (view c.to.inside.pass).claims in
    let counted = still_counted c.to.inside.counts c.to.inside.actor old c.take-system.result c.take-system.result i.3
    told.sees refl in
    kept_seat c.give.new.pass.me.1 (view c.give.new.pass) c.to.inside.actor c.to.inside.counts old c.take-system.result
    c.give.ensures.pass.1 told.back told.sees.0.0 i.2 counted i.4

pub returns-clause-from : goal.returns-clause-from
returns-clause-from g c =
    let noted = c.another-note.ensures in
    (λ j. seat (noted.queue.0.0 j) c.from.inside.actor (seen_in (noted.rule.0 j).claims) c.from.inside.stopped)
    ∙ c.from.view_is

pub returns-clause-same : goal.returns-clause-same
returns-clause-same g c =
    let told = told_here g c in
    record {
      station = c.give.ensures.pass.0 ∙ ap (λ (b : Baton). b.id) c.self.view_is ∙ sym c.requires.1;
      actor = ap (λ (s : Seat). s.actor) c.to.view_is;
      setting = ap (λ (y : View). (seen_in y.claims).setting) told.back ∙ told.sees.0.0
          ∙ ap (λ (s : Seat). s.seen.setting) c.to.view_is;
      stopped = ap (λ (s : Seat). s.stopped) c.to.view_is;
    }

pub returns-clause-to : goal.returns-clause-to
returns-clause-to g c =
    let told = told_here g c in
    let back = ap (λ (y : View). seen_in y.claims) told.back in
    let old =
    seat c.to.inside.pass.table_id c.to.inside.actor (seen_in (view c.to.inside.pass).claims) c.to.inside.stopped in
    let teller = seat c.from.inside.pass.table_id c.from.inside.actor
    (seen_in (view c.from.inside.pass).claims) c.from.inside.stopped in
    let new =
    seat c.give.new.pass.table_id c.to.inside.actor (seen_in (view c.give.new.pass).claims) c.to.inside.stopped in
    subst (λ (y : Seat × Seat). Looks y.0 new × Extends new.seen y.1.seen) (λ i. (c.to.view_is i, c.from.view_is i))
    (looks old new c.take-system.result back told.sees (c.history.ensures.legal (ap (λ (s : Setting). s.timer) told.sees.0.0 ∙ c.to.invariant.4)), subst (λ x. Extends x teller.seen) (sym back) told.told)
