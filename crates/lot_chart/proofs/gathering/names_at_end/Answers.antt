use Rattle.lot_chart.proofs.Common.{IfOk, Seen, ap, names_by, stopped-at-end, subst, world_of, ◌||◌, ◌∙◌, ◌≡◌}
use Rattle.lot_chart.proofs.gathering.names_at_end.Goals as goal

pub note_last-requires-clause-program : goal.note_last-requires-clause-program
note_last-requires-clause-program c = ap (λ (s : Seen). s.setting.program) c.into_parts-system.ensures.system
    ∙ c.requires.program

pub returns-clause-names : goal.returns-clause-names
returns-clause-names c =
    subst (λ (s : Seen). IfOk c.names_of.result (λ names. names.items ≡ names_by c.args.by (world_of s).state))
    (c.note_last.ensures.same ∙ c.into_parts-system.ensures.system)
    (rw c.settle.ensures.state at c.names_of.ensures.names)

pub returns-clause-stopped : goal.returns-clause-stopped
returns-clause-stopped c =
    let parts = c.into_parts-system.ensures in
    let at = stopped-at-end c.args.program.now c.args.playback c.into_parts-system.result.0 c.into_parts-system.result.1
    c.requires.program parts.system parts.made parts.order c.requires.ended in
    c.note_last.ensures.stopped ∙ ap (λ b. c.args.warnings.now.stopped || b) at
