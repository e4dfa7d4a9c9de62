use Rattle.lot_chart.proofs.Lemmas.{ap, ends_refused, gathered, refl, ◌||◌, ◌∙◌}
use Rattle.lot_chart.proofs.gathering.gather_by.Goals as goal

pub names_at_end-requires-clause-program : goal.names_at_end-requires-clause-program
names_at_end-requires-clause-program c = c.in_ok-stretches.ensures.made.program_is

pub returns-clause-curves : goal.returns-clause-curves
returns-clause-curves c =
    let noted = c.in_ok-stretches.ensures in
    c.new.ensures
    ∙ gathered c.args.by c.args.program.now c.note_turns.new.playback.seen c.in_ok-names.names.items
    c.in_ok-stretches.stretches.items c.in_ok-stretches.commands.items refl noted.made c.in_ok-names.ensures.names
    noted.noted noted.commands

pub returns-clause-stopped : goal.returns-clause-stopped
returns-clause-stopped c =
    c.names_at_end.ensures.stopped ∙ ap (λ b. b || ends_refused c.args.program.now) c.in_ok-stretches.ensures.stopped
