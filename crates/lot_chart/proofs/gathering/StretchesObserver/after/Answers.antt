use Rattle.lot_chart.proofs.Lemmas.{Answered, HasSearched, Program, answered-noted, ap, arith, commands-noted, early-noted, ended-commands, ended-noted, length-append, subst, sym, turn-ran, turn_stretches, [], ◌++◌, ◌∙◌, ◌∷◌}
use Rattle.lot_chart.proofs.gathering.StretchesObserver.after.Goals as goal

pub end_of-end-requires : goal.end_of-end-requires
end_of-end-requires c none =
    let just = c.requires.awaits.3 in
    let there = just.actor (sym just.reports.time ∙ none) in
    omega (arith, there, just.reports.actor, ap (λ (p : Program). p.limits.processors) c.requires.program)

pub push_turn-requires : goal.push_turn-requires
push_turn-requires c =
    let (turns, made, first, just, (by, noted, searched, name, stopped)) = c.requires.awaits in
    record { searched = (made.before.state, made.actor, subst (λ what. HasSearched what made.before.state made.actor c.args.self.now.above c.args.self.now.count) (sym by) searched) }

pub returns-then-turn-clause-ok : goal.returns-then-turn-clause-ok
returns-then-turn-clause-ok c turns made first just (by, noted, searched, name, stopped) =
    let longer = length-append turns (made ∷ []) in (
      by,
      record {
        room = noted.room;
        stretches_are = ended-noted c.args.program.now turns made c.args.turn.now c.args.system.now just first.by
            c.if-turn.true c.args.self.now.stretches.items noted.stretches_are;
        few = noted.few;
        early = omega (arith, noted.early, longer);
        commands_are = ended-commands c.args.program.now turns made c.args.turn.now c.args.system.now just
            c.if-turn.true c.args.self.now.commands.items noted.commands_are;
      },
      name,
      stopped,
    )

pub returns-clause-ok : goal.returns-clause-ok
returns-clause-ok c turns made first just (by, noted, searched, name, stopped) =
    let turn = c.args.turn.now in
    let what = c.args.self.now.by in
    let looked = subst (λ what.
    HasSearched what made.before.state made.actor c.args.self.now.above c.args.self.now.count) (sym by) searched in
    let pushed = c.in_ok-push_turn.ensures.turn made.before.state made.actor turn.event
    (turn-ran c.args.program.now turns made turn c.args.system.now just c.if-turn.false) looked in
    let after = c.push_turn.new.stretches.items in (
      by,
      record {
        room = noted.room;
        stretches_are =
            answered-noted c.args.program.now turns made turn c.args.system.now just first.by c.if-turn.false
            c.end_of-end.result c.end_of-end.ensures.end c.args.self.now.stretches.items after noted.stretches_are
            (pushed ∙ ap (λ what. c.args.self.now.stretches.items ++ turn_stretches what made.before.state
            (record { time = c.end_of-end.result; answer = Answered turn.event turn.reply })) by);
        few = c.in_ok-push_turn.ensures.few;
        early = early-noted c.args.program.now turns made turn c.args.system.now just c.end_of-end.result _ _
            c.end_of-end.ensures.early noted.early c.in_ok-push_turn.ensures.early;
        commands_are =
            commands-noted c.args.program.now turns made turn c.args.system.now just c.args.self.now.commands.items
            c.push_command.new.commands.items noted.commands_are c.in_ok-push_command.ensures;
      },
      name,
      c.note_turn.ensures.stopped ∙ stopped,
    )
