use Rattle.lot_station.proofs.Lemmas.{Holder, ap, arith, has_more, has_one, length, rules, sym, [], ◌++◌, ◌∙◌, ◌∷◌}
use Rattle.lot_station.proofs.Merging.{head_first, moves_on}
use Rattle.lot_station.proofs.closing.merged.Goals as goal

pub loop-seat-init : goal.loop-seat-init
loop-seat-init g c =
    let gives = c.into_iter-seat-iterator.ensures.into_iter_gives in
    let first = c.remove.result in
    let turns = c.into_share-all_turns.ensures in
    let quanta = c.into_share-all_quanta.ensures in
    let ticks = c.into_share-all_ticks.ensures in
    let all = head_first c.args.seats.items first c.requires c.remove.ensures.value
    ∙ ap (λ l. first ∷ l) (sym (gives.0 ∙ c.remove.ensures.items)) in
    let is = c.turns.view_is in (
      tt,
      tt,
      gives.1 ∙ sym (ap length gives.0 ∙ search rules),
      (
        first ∷ [],
        all,
        has_one _ _ _ _ _ _ first turns.parts quanta.parts ticks.parts (turns.amount ∙ ap (λ (h : Holder). h.turns) is)
            (quanta.amount ∙ ap (λ (h : Holder). h.quanta) is) (ticks.amount ∙ ap (λ (h : Holder). h.ticks) is),
      ),
    )

pub loop-seat-preserved : goal.loop-seat-preserved
loop-seat-preserved g c =
    let i = c.loop-seat.invariant in
    let done = i.3.0 in
    let step = c.in-Some.ensures.steps in
    let seat = c.in-Some.seat in
    let is = c.seat.view_is in
    let turns = c.into_share.ensures in
    let quanta = c.into_share-in-loop-seat.ensures in
    let ticks = c.into_share-in-loop-seat-2.ensures in
    let one = has_one _ _ _ _ _ _ seat turns.parts quanta.parts ticks.parts (turns.amount ∙ ap (λ (h : Holder). h.turns)
    is) (quanta.amount ∙ ap (λ (h : Holder). h.quanta) is) (ticks.amount ∙ ap (λ (h : Holder). h.ticks) is) in (
      tt,
      tt,
      omega (arith, i.2, step.1, ap length step.0),
      (
        done ++ seat ∷ [],
        moves_on _ done _ _ seat i.3.1 step.0,
        has_more _ _ _ _ _ _ _ _ _ _ _ _ _ _ _ _ _ _ done seat i.3.2 one c.merge.ensures.parts
            c.merge-in-loop-seat.ensures.parts c.merge-in-loop-seat-2.ensures.parts c.merge.ensures.amount
            c.merge-in-loop-seat.ensures.amount c.merge-in-loop-seat-2.ensures.amount,
      ),
    )
