-- The timer's turn leaves the threads' places and the other actors' counters.
use Rattle.lot_engine.proofs.Lemmas.{Answered, IsPlayed, List, Seen, State, after_turn, ap, arith, length, played-after, step, subst, sym, system_run, timer-more, timer_for, turn_in, wake-answer, ℕ, [], ◌++◌, ◌+◌, ◌∙◌, ◌∷◌, ◌≡◌}
use Rattle.lot_machine.specs.declared.event.Event.TheVariants as event
use Rattle.lot_engine.proofs.system.System.wake.Goals as goal

pub invariant_of-self : goal.invariant_of-self
invariant_of-self c =
    let s = c.self.inside in
    let i = c.self.invariant in
    let requires = rw (← c.self.view_is) at c.requires in
    rw (c.push_wake.ensures.items, i.processors) (timer-more s.program s.room s.is_wide s.has_timer s.history.items
    s.kernel.state s.places.items s.generators.items _ s.tickets s.spent s.counts.items _ s.total _ _ i c.args.thread
    (omega (arith, requires.there.0)) requires.timer requires.room (omega arith)
    c.answer.new.self.state c.answer.new.reply c.answer.ensures.state c.answer.ensures.reply
    _ c.add_turn.ensures.exact
    (c.add_turn.ensures.small (length s.history.items) i.total_counted.small) _ c.push_wake.ensures.size)

pub returns-clause-answer : goal.returns-clause-answer
returns-clause-answer c =
    let s = c.self.inside in
    let requires = rw (← c.self.view_is) at c.requires in
    let replies : c.answer.new.reply
    ≡ (step (system_run s.program s.history.items).state (event.Wake c.args.thread)).reply =
    c.answer.ensures.reply
    ∙ ap (λ (x : State). (step x (event.Wake c.args.thread)).reply) c.self.invariant.held.state in
    subst (λ (x : Seen). (turn_in x (timer_for x.setting c.args.thread)).answer
    ≡ Answered (event.Wake c.args.thread) c.answer.new.reply) c.self.view_is
    (wake-answer s.program (system_run s.program s.history.items) c.args.thread
    (omega (arith, requires.there.0)) c.answer.new.reply replies)

pub returns-clause-seen : goal.returns-clause-seen
returns-clause-seen c =
    let s = c.self.inside in
    let items : c.push_wake.new.self.items ≡ s.history.items ++ (s.program.limits.processors + c.args.thread) ∷ [] =
    c.push_wake.ensures.items ∙ ap (λ n. s.history.items ++ (n + c.args.thread) ∷ []) c.self.invariant.processors in
    let after : List ℕ → Seen =
    λ h. record { setting = record { program = s.program; room = s.room; timer = s.has_timer }; history = h } in
    ap after items ∙ ap (λ (x : Seen). after_turn x (timer_for x.setting c.args.thread)) c.self.view_is

pub returns-clause-played : goal.returns-clause-played
returns-clause-played c =
    let old = c.args.self.now in
    subst (IsPlayed old (timer_for old.setting c.args.thread)) (sym (returns-clause-seen c))
    (played-after old (timer_for old.setting c.args.thread) (event.Wake c.args.thread) c.answer.new.reply
    (returns-clause-answer c))
