-- The place that advances is the work's, and the fields then represent the world after it.
use Rattle.lot_engine.proofs.Lemmas.{Answered, Fits, Seen, ap, arith, at_number, if◌then◌else◌, length, number_from, place_of, processor-more, run-answer, run-held, run-names, run-sleeper, seed_from, set_number, sleeper_by, sleeper_on, subst, sym, system_run, system_turn, takes_number, thread-kept, turns_made, unwrap_or, work-kept, world_of, ◌∙◌, ◌≡◌}
use Rattle.lot_engine.proofs.system.System.run_turn.Goals as goal

pub script_numbered-script-requires : goal.script_numbered-script-requires
script_numbered-script-requires c =
    let runs = rw (← c.self.view_is) at c.requires.runs in
    runs.1.1.there

pub pass_slice-done-requires : goal.pass_slice-done-requires
pass_slice-done-requires c =
    let s = c.self.inside in
    let runs = rw (← c.self.view_is) at c.requires.runs in
    let work = work-kept s.program (system_run s.program s.history.items) s.kernel.state s.places.items
    s.generators.items s.tickets s.spent c.self.invariant.held c.args.actor c.args.running runs.0 runs.1.1 in
    record {
      there = thread-kept s.program (system_run s.program s.history.items) s.kernel.state s.places.items
          s.generators.items s.tickets s.spent c.self.invariant.held c.args.actor c.args.running runs.0 runs.1.1;
      fits = subst (λ lines. Fits lines (place_of s.places.items c.args.running.thread))
          (sym c.script_numbered-script.ensures.lines) work.fits;
      budget = work.some_left;
    }

pub receive-requires : goal.receive-requires
receive-requires c =
    let s = c.self.inside in
    let requires = rw (← c.self.view_is) at c.requires in
    let runs = requires.runs in
    let number =
    ap (λ wide. number_from wide (unwrap_or (at_number s.generators.items c.args.actor) 0)) c.self.invariant.wide in
    let passed = c.pass_slice-done.ensures in
    run-names s.program (system_run s.program s.history.items) s.kernel.state s.places.items s.generators.items
    s.tickets s.spent c.self.invariant.held c.args.actor c.args.running runs.0 runs.1.1 requires.actor
    c.script_numbered-script.result.now c.script_numbered-script.ensures.lines c.pass_slice-done.result
    c.pass_slice-done.new.places.items passed.slice passed.places passed.accumulator _ number
    c.next_event.new.event c.next_event.ensures.event c.answer.new.self.state c.answer.new.reply c.answer.ensures.state
    c.answer.ensures.reply

pub count_turn-requires-clause-bounded : goal.count_turn-requires-clause-bounded
count_turn-requires-clause-bounded c =
    let s = c.self.inside in
    let requires = rw (← c.self.view_is) at c.requires in
    (turns_made s.program s.history.items, length s.history.items, omega (arith, requires.room), c.self.invariant.each_counted)

pub invariant_of-self : goal.invariant_of-self
invariant_of-self c =
    let s = c.self.inside in
    let i = c.self.invariant in
    let requires = rw (← c.self.view_is) at c.requires in
    let runs = requires.runs in
    let number =
    ap (λ wide. number_from wide (unwrap_or (at_number s.generators.items c.args.actor) 0)) c.self.invariant.wide in
    let passed = c.pass_slice-done.ensures in
    let numbers = c.next_event.ensures.values
    ∙ ap (λ wide. if takes_number c.next_event.new.event then set_number s.generators.items c.args.actor (seed_from wide
    (unwrap_or (at_number s.generators.items c.args.actor) 0)) else s.generators.items) c.self.invariant.wide in
    let held =
    run-held s.program (system_run s.program s.history.items) s.kernel.state s.places.items s.generators.items s.tickets
    s.spent i.held c.args.actor c.args.running runs.0 runs.1.1 requires.actor
    c.script_numbered-script.result.now c.script_numbered-script.ensures.lines c.pass_slice-done.result
    c.pass_slice-done.new.places.items passed.slice passed.places passed.accumulator _ number
    c.next_event.new.event c.next_event.ensures.event c.answer.new.self.state c.answer.new.reply c.answer.ensures.state
    c.answer.ensures.reply
    c.receive.new.places.items c.next_event.new.generators.items c.receive.ensures.received numbers in
    let answer =
    run-answer s.program (system_run s.program s.history.items) s.kernel.state s.places.items s.generators.items
    s.tickets s.spent i.held c.args.actor c.args.running runs.0 runs.1.1 requires.actor
    c.script_numbered-script.result.now c.script_numbered-script.ensures.lines c.pass_slice-done.result
    c.pass_slice-done.new.places.items passed.slice passed.places passed.accumulator _ number
    c.next_event.new.event c.next_event.ensures.event c.answer.new.self.state c.answer.new.reply c.answer.ensures.state
    c.answer.ensures.reply in
    rw c.push.ensures.items (processor-more s.program s.room s.is_wide s.has_timer s.history.items s.kernel.state
    s.places.items s.generators.items _ s.tickets s.spent s.counts.items _ s.total _ _ i c.args.actor requires.room
    c.next_event.new.event c.answer.new.reply answer
    (omega (arith, requires.actor.0)) requires.actor.1 c.answer.new.self.state c.receive.new.places.items
    c.next_event.new.generators.items held _ c.next_event.ensures.count
    c.count_turn.new.counts.items (c.count_turn.ensures.exact (turns_made s.program s.history.items)
    (length s.history.items) c.next_event.new.event i.each_counted) _ c.count_turn.ensures.count
    _ c.count_turn.ensures.total (c.count_turn.ensures.total_small (length s.history.items) i.total_counted.small) _ _
    (c.receive.ensures.room ∙ c.pass_slice-done.ensures.room) c.push.ensures.size)

pub returns-clause-answer : goal.returns-clause-answer
returns-clause-answer c =
    let s = c.self.inside in
    let requires = rw (← c.self.view_is) at c.requires in
    let runs = requires.runs in
    let number =
    ap (λ wide. number_from wide (unwrap_or (at_number s.generators.items c.args.actor) 0)) c.self.invariant.wide in
    let passed = c.pass_slice-done.ensures in
    subst (λ (x : Seen). (system_turn x.setting.program (world_of x) c.args.actor).answer
    ≡ Answered c.next_event.new.event c.answer.new.reply) c.self.view_is
    (run-answer s.program (system_run s.program s.history.items) s.kernel.state s.places.items s.generators.items
    s.tickets s.spent c.self.invariant.held c.args.actor c.args.running runs.0 runs.1.1 requires.actor
    c.script_numbered-script.result.now c.script_numbered-script.ensures.lines c.pass_slice-done.result
    c.pass_slice-done.new.places.items passed.slice passed.places passed.accumulator _ number
    c.next_event.new.event c.next_event.ensures.event c.answer.new.self.state c.answer.new.reply c.answer.ensures.state
    c.answer.ensures.reply)

pub returns-clause-sleeper : goal.returns-clause-sleeper
returns-clause-sleeper c =
    let s = c.self.inside in
    let requires = rw (← c.self.view_is) at c.requires in
    let runs = requires.runs in
    let number =
    ap (λ wide. number_from wide (unwrap_or (at_number s.generators.items c.args.actor) 0)) c.self.invariant.wide in
    let passed = c.pass_slice-done.ensures in
    c.sleeper_by.ensures ∙ sym (subst (λ (x : Seen). sleeper_on (world_of x) c.args.actor
    ≡ sleeper_by c.args.running.thread c.pass_slice-done.result.trap) c.self.view_is
    (run-sleeper s.program (system_run s.program s.history.items) s.kernel.state s.places.items s.generators.items
    s.tickets s.spent c.self.invariant.held c.args.actor c.args.running runs.0 runs.1.1 requires.actor
    c.script_numbered-script.result.now c.script_numbered-script.ensures.lines c.pass_slice-done.result
    c.pass_slice-done.new.places.items passed.slice passed.places passed.accumulator _ number
    c.next_event.new.event c.next_event.ensures.event c.answer.new.self.state c.answer.new.reply c.answer.ensures.state
    c.answer.ensures.reply))
