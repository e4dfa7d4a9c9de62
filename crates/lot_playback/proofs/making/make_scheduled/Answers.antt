use Rattle.lot_playback.proofs.Lemmas.{Answered, Bool, Event, IsAtPlace, IsEnded, IsFalse, IsNext, IsPlayed, IsTrue, MadeTurn, MakesTurn, NextTurn, None, Reply, Seen, after_turn, arith, counted-answered, counted-ended, ended-answer, false, not, place-actor, place-below, place-made, place-more, place-room, refl, true, turn_in, ℕ, ◌+◌, ◌≡◌}
use Rattle.lot_playback.proofs.making.make_scheduled.Goals as goal

pub overflow_add-place : goal.overflow_add-place
overflow_add-place c = omega
    (arith, place-below c.args.system.now c.args.place.now c.requires.there c.args.next c.requires.next, c.requires.there.legal.schedule_length)

pub next_turn-requires-clause-there : goal.next_turn-requires-clause-there
next_turn-requires-clause-there c =
    place-actor c.args.system.now c.args.place.now c.requires.there c.args.next c.requires.next

pub next_turn-requires-clause-room : goal.next_turn-requires-clause-room
next_turn-requires-clause-room c =
    place-room c.args.system.now c.args.place.now c.requires.there c.args.next c.requires.next

pub returns-clause-there : goal.returns-clause-there
returns-clause-there c = place-more c.args.system.now c.args.place.now c.requires.there c.args.next c.requires.next
    c.next_turn.new.self c.next_turn.ensures.played

-- the turn is made, with a reply or without
made-by : (seen : Seen) (place : ℕ) (there : IsAtPlace seen place) (next : NextTurn)
    (is : IsNext (record { seen = seen; made = place }) next) (now : Seen) (played : IsPlayed seen next.actor now)
    (e : Event) (r : Reply) (goes : Bool)
    → (IsTrue goes → (now ≡ after_turn seen next.actor) × ((turn_in seen next.actor).answer ≡ Answered e r))
    → (IsFalse goes → IsEnded seen next.actor × (now ≡ seen))
    → (made : MadeTurn) × MakesTurn (record { seen = seen; made = place }) (record { seen = now; made = place + 1 })
    (record { time = None; actor = next.actor; has_ended = not goes; event = e; reply = r }) made
made-by seen place there next is now played e r true made ended =
    let its = made refl in
    place-made seen place there next is now played
    (record { time = None; actor = next.actor; has_ended = false; event = e; reply = r })
    (record { time = refl; actor = refl; answer = its.1 }) (counted-answered seen now next.actor e r its.0 its.1)
made-by seen place there next is now played e r false made ended =
    let its = ended refl in
    let answer = ended-answer seen next.actor its.0 in
    place-made seen place there next is now played
    (record { time = None; actor = next.actor; has_ended = true; event = e; reply = r })
    (record { time = refl; actor = refl; answer = answer }) (counted-ended seen now next.actor its.1 answer)

pub returns-clause-made : goal.returns-clause-made
returns-clause-made c =
    made-by c.args.system.now c.args.place.now c.requires.there c.args.next c.requires.next c.next_turn.new.self
    c.next_turn.ensures.played
    c.next_turn.new.event c.next_turn.new.reply c.next_turn.result c.next_turn.ensures.made c.next_turn.ensures.ended
