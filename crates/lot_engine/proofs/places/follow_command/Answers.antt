-- The new thread comes after all the others, or in the place of a removed one.
use Rattle.lot_engine.proofs.Lemmas.{MakesIn, MakesNone, Sizes, Thread, ap, arith, at-lengths, free_threads, is_some, made-there, new-at, next-few, next-same, next-within, none-at, option_map, subst, sym, ◌∙◌}
use Rattle.lot_engine.proofs.places.follow_command.Goals as goal

pub unwrap-script-requires : goal.unwrap-script-requires
unwrap-script-requires c =
    let s = c.requires.made.0 in
    let more = subst (MakesIn s c.args.kernel.now.state) (sym c.in-Some.ensures) c.requires.made.2 in
    ap is_some (c.script_of.ensures
    ∙ ap (option_map (λ (t : Thread). t.script)) (made-there s c.args.kernel.now.state c.in-Some.thread more))

pub put_place-requires-clause-next : goal.put_place-requires-clause-next
put_place-requires-clause-next c =
    let s = c.requires.made.0 in
    let more = subst (MakesIn s c.args.kernel.now.state) (sym c.in-Some.ensures) c.requires.made.2 in
    let lengths = at-lengths c.args.program.now s.threads c.args.places.now.items c.requires.made.1 c.requires.made.3 in
    next-few c.args.places.now.items (free_threads s) c.in-Some.thread
    (next-same s.threads c.args.places.now.items (free_threads s) c.in-Some.thread lengths.0 more.next)

pub put_place-requires-clause-room : goal.put_place-requires-clause-room
put_place-requires-clause-room c =
    let s = c.requires.made.0 in
    let more = subst (MakesIn s c.args.kernel.now.state) (sym c.in-Some.ensures) c.requires.made.2 in
    let room = ap (λ (l : Sizes). l.threads) more.limits in
    omega (arith, next-within s.threads (free_threads s) c.in-Some.thread s.limits.threads more.next c.requires.made.5 more.room, room, c.requires.room)

pub returns-in-Some-clause-at : goal.returns-in-Some-clause-at
returns-in-Some-clause-at c = λ s before makes at.
    let more = subst (MakesIn s c.args.kernel.now.state) (sym c.in-Some.ensures) makes in
    let lengths = at-lengths c.args.program.now s.threads c.args.places.now.items before at in
    rw (c.put_place.ensures.put (free_threads s) (next-same s.threads c.args.places.now.items (free_threads s) c.in-Some.thread lengths.0 more.next), ← c.in-Some.ensures)
    (new-at c.args.program.now s c.args.kernel.now.state c.in-Some.thread c.unwrap-script.result c.args.places.now.items
    before c.begin.result more at (sym c.unwrap-script.ensures ∙ c.script_of.ensures) c.begin.ensures)

pub returns-in_default-clause-at : goal.returns-in_default-clause-at
returns-in_default-clause-at c = λ s before makes at.
    let none : MakesNone s c.args.kernel.now.state =
    subst (MakesIn s c.args.kernel.now.state) (sym c.in_default.ensures) makes in
    rw (← c.in_default.ensures)
    (none-at c.args.program.now s c.args.kernel.now.state c.args.places.now.items before none at)
