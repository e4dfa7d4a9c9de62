use Rattle.lot_playback.proofs.Lemmas.{alarm_at, alarms_in, ap, arith, earliest, earliest-more, flat_map, range_with_len, sooner_of, [], ◌∙◌, ◌≡◌}
use Rattle.lot_playback.proofs.alarms.Alarms.earliest.Goals as goal

pub loop-place-preserved : goal.loop-place-preserved
loop-place-preserved c =
    let due = alarm_at c.args.processors (alarms_in c.args.self.now.threads.items) in
    c.sooner_of-first.ensures
    ∙ ap (λ o. sooner_of o c.due-due.result) c.loop-place.invariant
    ∙ ap (sooner_of (earliest (flat_map due (range_with_len 1 c.loop-place.place)))) c.due-due.ensures
    ∙ earliest-more [] due c.loop-place.place

pub returns : goal.returns
returns c =
    let due = alarm_at c.args.processors (alarms_in c.args.self.now.threads.items) in
    let all : c.loop-place.place ≡ c.args.self.now.highest =
    omega (arith, c.loop-place-test.false, c.loop-place.auto.place-end) in
    c.loop-place.invariant ∙ ap (λ n. earliest (flat_map due (range_with_len 1 n))) all
