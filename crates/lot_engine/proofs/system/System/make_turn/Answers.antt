-- The event is that of the work's slice, and the fields then represent the world after it.
use Rattle.lot_engine.proofs.Lemmas.{Answered, Seen, ap, arith, at_number, given-event, if◌then◌else◌, length, number_from, processor-more, seed_from, set_number, subst, system_run, system_turn, takes_number, turn-answer, turn-held, turn-names, turns_made, unwrap_or, world_of, ◌<◌, ◌∙◌, ◌≡◌}
use Rattle.lot_engine.proofs.system.System.make_turn.Goals as goal

pub follow_turn-requires : goal.follow_turn-requires
follow_turn-requires c =
    let s = c.self.inside in
    let requires = rw (← c.self.view_is) at c.requires in
    let fresh = requires.goes.fresh in
    let seed = unwrap_or (at_number s.generators.items c.args.actor) 0 in
    let number = ap (λ wide. number_from wide seed) c.self.invariant.wide in
    turn-names s.program (system_run s.program s.history.items) s.kernel.state s.places.items s.generators.items
    s.tickets s.spent c.self.invariant.held c.args.actor (omega (arith, c.if-actor-eq0.false)) requires.actor
    (number_from s.is_wide seed) fresh.0 c.args.slice.now fresh.1 fresh.2 c.done_in-done.ensures.exact number
    c.next_event.new.event (given-event c.args.actor _ c.next_event.new.event c.args.slice.now c.done_in-done.result
    c.done_in-done.ensures.done c.next_event.ensures.event) c.answer.new.self.state c.answer.new.reply
    c.answer.ensures.state c.answer.ensures.reply

pub count_turn-requires-clause-bounded : goal.count_turn-requires-clause-bounded
count_turn-requires-clause-bounded c =
    let s = c.self.inside in
    let requires = rw (← c.self.view_is) at c.requires in
    (turns_made s.program s.history.items, length s.history.items, omega (arith, requires.goes.room), c.self.invariant.each_counted)

pub invariant_of-self : goal.invariant_of-self
invariant_of-self c =
    let s = c.self.inside in
    let i = c.self.invariant in
    let requires = rw (← c.self.view_is) at c.requires in
    let fresh = requires.goes.fresh in
    let some : 0 < c.args.actor = omega (arith, c.if-actor-eq0.false) in
    let seed = unwrap_or (at_number s.generators.items c.args.actor) 0 in
    let number = ap (λ wide. number_from wide seed) c.self.invariant.wide in
    let passed = c.next_event.ensures.values ∙ ap (λ wide. if takes_number c.next_event.new.event
    then set_number s.generators.items c.args.actor (seed_from wide seed) else s.generators.items) i.wide in
    let held =
    turn-held s.program (system_run s.program s.history.items) s.kernel.state s.places.items s.generators.items
    s.tickets s.spent i.held c.args.actor some requires.actor
    (number_from s.is_wide seed) fresh.0 c.args.slice.now fresh.1 fresh.2 c.done_in-done.ensures.exact number
    c.next_event.new.event (given-event c.args.actor _ c.next_event.new.event c.args.slice.now c.done_in-done.result
    c.done_in-done.ensures.done c.next_event.ensures.event) c.answer.new.self.state c.answer.new.reply
    c.answer.ensures.state c.answer.ensures.reply
    c.follow_turn.new.places.items c.next_event.new.generators.items c.follow_turn.ensures.follows passed in
    let answer =
    turn-answer s.program (system_run s.program s.history.items) s.kernel.state s.places.items s.generators.items
    s.tickets s.spent i.held c.args.actor some requires.actor
    (number_from s.is_wide seed) fresh.0 c.args.slice.now fresh.1 fresh.2 c.done_in-done.ensures.exact number
    c.next_event.new.event (given-event c.args.actor _ c.next_event.new.event c.args.slice.now c.done_in-done.result
    c.done_in-done.ensures.done c.next_event.ensures.event) c.answer.new.self.state c.answer.new.reply
    c.answer.ensures.state c.answer.ensures.reply in
    rw c.push.ensures.items (processor-more s.program s.room s.is_wide s.has_timer s.history.items s.kernel.state
    s.places.items s.generators.items _ s.tickets s.spent s.counts.items _ s.total _ _ i c.args.actor requires.goes.room
    c.next_event.new.event c.answer.new.reply answer
    some requires.actor c.answer.new.self.state c.follow_turn.new.places.items c.next_event.new.generators.items held _
    c.next_event.ensures.count
    c.count_turn.new.counts.items (c.count_turn.ensures.exact (turns_made s.program s.history.items)
    (length s.history.items) c.next_event.new.event i.each_counted) _ c.count_turn.ensures.count
    _ c.count_turn.ensures.total (c.count_turn.ensures.total_small (length s.history.items) i.total_counted.small) _ _
    c.follow_turn.ensures.room c.push.ensures.size)

pub returns-clause-answer : goal.returns-clause-answer
returns-clause-answer c =
    let s = c.self.inside in
    let requires = rw (← c.self.view_is) at c.requires in
    let fresh = requires.goes.fresh in
    let seed = unwrap_or (at_number s.generators.items c.args.actor) 0 in
    let number = ap (λ wide. number_from wide seed) c.self.invariant.wide in
    subst (λ (x : Seen). (system_turn x.setting.program (world_of x) c.args.actor).answer
    ≡ Answered c.next_event.new.event c.answer.new.reply) c.self.view_is
    (turn-answer s.program (system_run s.program s.history.items) s.kernel.state s.places.items s.generators.items
    s.tickets s.spent c.self.invariant.held c.args.actor (omega (arith, c.if-actor-eq0.false)) requires.actor
    (number_from s.is_wide seed) fresh.0 c.args.slice.now fresh.1 fresh.2
    c.done_in-done.ensures.exact number c.next_event.new.event (given-event c.args.actor _ c.next_event.new.event
    c.args.slice.now c.done_in-done.result c.done_in-done.ensures.done c.next_event.ensures.event)
    c.answer.new.self.state c.answer.new.reply c.answer.ensures.state c.answer.ensures.reply)
