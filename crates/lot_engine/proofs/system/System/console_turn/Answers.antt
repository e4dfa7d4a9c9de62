-- The command is the next one, and the fields then represent the world after it.
use Rattle.lot_engine.proofs.Lemmas.{Answered, IsInOrder, Seen, ap, arith, command-answer, command-held, command-left, command-made, command-next, console-more, kept-made, length, next_name, refl, resolved, run-in-order, subst, sym, system_run, system_turn, tickets_after, turns_made, world_of, ◌∙◌, ◌≡◌}
use Rattle.lot_machine.specs.declared.event.Event.TheVariants as event
use Rattle.lot_engine.proofs.system.System.console_turn.Goals as goal

pub follow_command-requires-clause-made : goal.follow_command-requires-clause-made
follow_command-requires-clause-made c =
    let s = c.self.inside in
    let i = c.self.invariant in
    let left = rw (← c.self.view_is) at c.requires.left in
    let w = system_run s.program s.history.items in
    let named : c.next_name-name.result ≡ next_name w = c.next_name-name.ensures
    ∙ ap (λ (x : Seen). next_name (world_of x)) (sym c.self.view_is) in
    let resolves : c.resolve.result ≡ resolved s.tickets (next_name w) c.at-command.result = c.resolve.ensures
    ∙ ap (λ n. resolved s.tickets n c.at-command.result) named in
    let below =
    command-left s.program w s.kernel.state s.places.items s.generators.items s.tickets s.spent i.held left in
    let order : IsInOrder s.kernel.state =
    subst IsInOrder (sym i.held.state) (run-in-order s.program s.history.items i.program.limits) in
    let next = command-next s.program w s.kernel.state s.places.items s.generators.items s.tickets s.spent i.held
    c.commands.result.now c.at-command.result below c.commands.ensures.commands c.at-command.ensures in (
      s.kernel.state,
      w.contexts,
      command-made s.program w s.kernel.state s.places.items s.generators.items s.tickets s.spent i.held
          c.at-command.result _ next c.resolve.result resolves c.answer.new.self.state c.answer.new.reply
          c.answer.ensures.state c.answer.ensures.reply order,
      i.held.places_at,
      ap (λ l. l.scripts) i.held.kept.limits ∙ sym i.program.script_count,
      i.held.kept.count,
    )

pub follow_command-requires-clause-room : goal.follow_command-requires-clause-room
unfolding follow_command-requires-clause-made
follow_command-requires-clause-room c =
    let i = c.self.invariant in
    let made = follow_command-requires-clause-made c in
    let kept = kept-made c.self.inside.program c.self.inside.kernel.state c.answer.new.self.state c.answer.new.reply
    i.held.kept made.2 in
    omega (arith, ap (λ l. l.threads) kept.limits, i.threads)

pub count_turn-requires-clause-bounded : goal.count_turn-requires-clause-bounded
count_turn-requires-clause-bounded c =
    let s = c.self.inside in
    let requires = rw (← c.self.view_is) at c.requires in
    (turns_made s.program s.history.items, length s.history.items, omega (arith, requires.room), c.self.invariant.each_counted)

pub invariant_of-self : goal.invariant_of-self
invariant_of-self c =
    let s = c.self.inside in
    let i = c.self.invariant in
    let requires = rw (← c.self.view_is) at c.requires in
    let w = system_run s.program s.history.items in
    let named : c.next_name-name.result ≡ next_name w = c.next_name-name.ensures
    ∙ ap (λ (x : Seen). next_name (world_of x)) (sym c.self.view_is) in
    let resolves : c.resolve.result ≡ resolved s.tickets (next_name w) c.at-command.result = c.resolve.ensures
    ∙ ap (λ n. resolved s.tickets n c.at-command.result) named in
    let below =
    command-left s.program w s.kernel.state s.places.items s.generators.items s.tickets s.spent i.held requires.left in
    let order : IsInOrder s.kernel.state =
    subst IsInOrder (sym i.held.state) (run-in-order s.program s.history.items i.program.limits) in
    let next = command-next s.program w s.kernel.state s.places.items s.generators.items s.tickets s.spent i.held
    c.commands.result.now c.at-command.result below c.commands.ensures.commands c.at-command.ensures in
    let made = command-made s.program w s.kernel.state s.places.items s.generators.items s.tickets s.spent i.held
    c.at-command.result _ next c.resolve.result resolves c.answer.new.self.state c.answer.new.reply
    c.answer.ensures.state c.answer.ensures.reply order in
    let held =
    command-held s.program w s.kernel.state s.places.items s.generators.items s.tickets s.spent i.held
    c.at-command.result _ next c.resolve.result resolves c.answer.new.self.state c.answer.new.reply
    c.answer.ensures.state c.answer.ensures.reply order refl
    c.follow_command.new.places.items (c.follow_command.ensures.at s.kernel.state w.contexts made i.held.places_at)
    c.follow.new.self (c.follow.ensures c.resolve.result refl
    ∙ ap (λ n. tickets_after s.tickets n c.resolve.result c.answer.new.reply) named) in
    let answer =
    command-answer s.program w s.kernel.state s.places.items s.generators.items s.tickets s.spent i.held
    c.at-command.result _ next c.resolve.result resolves c.answer.new.self.state c.answer.new.reply
    c.answer.ensures.state c.answer.ensures.reply in
    rw c.push.ensures.items (console-more s.program s.room s.is_wide s.has_timer s.history.items s.kernel.state
    s.places.items s.generators.items _ s.tickets s.spent s.counts.items _ s.total _ _ i requires.room
    (event.Command c.resolve.result) c.answer.new.reply answer
    below c.answer.new.self.state c.follow_command.new.places.items c.follow.new.self held
    c.count_turn.new.counts.items (c.count_turn.ensures.exact (turns_made s.program s.history.items)
    (length s.history.items) (event.Command c.resolve.result) i.each_counted) _ c.count_turn.ensures.count
    _ c.count_turn.ensures.total (c.count_turn.ensures.total_small (length s.history.items) i.total_counted.small) _ _
    c.follow_command.ensures.room c.push.ensures.size)

pub returns-clause-answer : goal.returns-clause-answer
returns-clause-answer c =
    let s = c.self.inside in
    let i = c.self.invariant in
    let requires = rw (← c.self.view_is) at c.requires in
    let w = system_run s.program s.history.items in
    let named : c.next_name-name.result ≡ next_name w = c.next_name-name.ensures
    ∙ ap (λ (x : Seen). next_name (world_of x)) (sym c.self.view_is) in
    let resolves : c.resolve.result ≡ resolved s.tickets (next_name w) c.at-command.result = c.resolve.ensures
    ∙ ap (λ n. resolved s.tickets n c.at-command.result) named in
    let below =
    command-left s.program w s.kernel.state s.places.items s.generators.items s.tickets s.spent i.held requires.left in
    let order : IsInOrder s.kernel.state =
    subst IsInOrder (sym i.held.state) (run-in-order s.program s.history.items i.program.limits) in
    let next = command-next s.program w s.kernel.state s.places.items s.generators.items s.tickets s.spent i.held
    c.commands.result.now c.at-command.result below c.commands.ensures.commands c.at-command.ensures in
    subst (λ (x : Seen). (system_turn x.setting.program (world_of x) 0).answer
    ≡ Answered (event.Command c.resolve.result) c.answer.new.reply) c.self.view_is
    (command-answer s.program w s.kernel.state s.places.items s.generators.items s.tickets s.spent i.held
    c.at-command.result _ next c.resolve.result resolves c.answer.new.self.state c.answer.new.reply
    c.answer.ensures.state c.answer.ensures.reply)
