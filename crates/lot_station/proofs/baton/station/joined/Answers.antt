use Rattle.lot_station.proofs.Lemmas.{IfSome, List, Seat, View, all_taken, ap, arith, at_middle, claim_of, false, head_first, here_at, joins, length, map, moves_on, one_more, own_claim, resting, rules, slice_get, subst, sym, ◌++◌, ◌∙◌, ◌∷◌, ◌≡◌}
use Rattle.lot_station.proofs.baton.station.joined.Goals as goal

pub loop-seat-init : goal.loop-seat-init
loop-seat-init c =
    let gives = c.into_iter-seat-iterator.ensures.into_iter_gives in
    let first = c.remove.result in
    let all = head_first c.args.seats.items first c.requires.some c.remove.ensures.value
    ∙ ap (λ l. first ∷ l) (sym (gives.0 ∙ c.remove.ensures.items)) in
    let here = ap (λ (s : Seat). s.station) c.pass.view_is
    ∙ here_at _ _ c.requires.seats 0 first (ap (λ l. slice_get l 0) all) in (
      tt,
      tt,
      (here, c.pass.invariant.0),
      gives.1 ∙ sym (ap length gives.0 ∙ search rules),
      (first, all, own_claim _ _ _ _ _ _ c.pass.invariant.1 c.pass.view_is, sym (ap (λ (s : Seat). s.seen.setting.timer) c.pass.view_is) ∙ c.pass.invariant.4),
    )

pub absorb-requires-clause-queue : goal.absorb-requires-clause-queue
absorb-requires-clause-queue c =
    let i = c.loop-seat.invariant in
    let old = i.4.0 ∷ c.loop-seat.yielded in
    let next = c.in-Some.seat in
    let all = i.4.1 ∙ ap (λ l. old ++ l) c.in-Some.ensures.steps.0 in
    let here = ap (λ (s : Seat). s.station) c.seat.view_is ∙ here_at _ _ c.requires.seats (length old) next
    (ap (λ l. slice_get l (length old)) all ∙ at_middle old next c.next.new.self.rest.items) in
    (i.2, (here, c.seat.invariant.0))

pub absorb-requires-clause-rule : goal.absorb-requires-clause-rule
absorb-requires-clause-rule c =
    joins _ _ _ _ (ap (λ (v : View). v.fresh) c.loop-seat.invariant.4.2) (ap (λ (v : View). v.held) c.seat.invariant.1)

pub loop-seat-preserved : goal.loop-seat-preserved
loop-seat-preserved c =
    let i = c.loop-seat.invariant in
    let old = i.4.0 ∷ c.loop-seat.yielded in
    let step = c.in-Some.ensures.steps in
    let q = c.absorb.ensures.queue in (
      tt,
      tt,
      (q.0 ∙ i.2.0, q.2 ∙ i.2.1),
      omega (arith, i.3, step.1, ap length step.0),
      (
        i.4.0,
        moves_on _ old _ _ c.in-Some.seat i.4.1 step.0,
        one_more _ _ _ old c.in-Some.seat i.4.2
            (own_claim _ _ _ _ _ _ c.seat.invariant.1 c.seat.view_is) c.absorb.ensures.rule,
        i.4.3,
      ),
    )

pub returns-clause-pass : goal.returns-clause-pass
returns-clause-pass c = c.loop-seat.invariant.2

pub returns-clause-view : goal.returns-clause-view
returns-clause-view c =
    let i = c.loop-seat.invariant in
    i.4.2 ∙ ap (λ l. resting (map claim_of l)) (sym (all_taken _
    (i.4.0 ∷ c.loop-seat.yielded) c.loop-seat.seat-iterator.rest.items i.4.1 (sym i.3 ∙ c.in-None.ensures.steps.0)))

pub returns-clause-timer : goal.returns-clause-timer
returns-clause-timer c =
    let i = c.loop-seat.invariant in
    subst (λ (l : List Seat). IfSome (slice_get l 0) (λ s. s.seen.setting.timer ≡ false)) (sym i.4.1) i.4.3
