-- The end of the play is that of its system.
use Rattle.lot_system.proofs.Lemmas.{IsInOrder, Seen, ap, on-any, over-at-end, stopped-at-end, stopped_in, subst, sym, ◌||◌, ◌∙◌}
use Rattle.lot_system.proofs.reports.end_play.Goals as goal

pub returns-clause-stopped : goal.returns-clause-stopped
returns-clause-stopped g c =
    let program = c.args.program.now in
    let parts = c.into_parts-system.ensures in
    let seen = c.into_parts-system.result.0 in
    let order = c.into_parts-system.result.1 in
    let old = c.args.warnings.now.stopped in
    let at = stopped-at-end program c.args.playback seen order c.requires.program parts.system parts.made parts.order
    c.requires.ended in
    on-any c.write_flushed-written.result
    (c.note_ended.ensures ∙ ap (λ (s : Seen). old || stopped_in program s order) c.write_flushed-written.ensures.same
    ∙ ap (λ b. old || b) at)

pub write_flushed-written-requires-clause-program : goal.write_flushed-written-requires-clause-program
write_flushed-written-requires-clause-program g c =
    ap (λ (s : Seen). s.setting.program) c.into_parts-system.ensures.system ∙ c.requires.program

pub write_flushed-written-requires-clause-order : goal.write_flushed-written-requires-clause-order
write_flushed-written-requires-clause-order g c = c.into_parts-system.ensures.order

pub write_flushed-written-requires-clause-ended : goal.write_flushed-written-requires-clause-ended
write_flushed-written-requires-clause-ended g c =
    let parts = c.into_parts-system.ensures in
    (over-at-end c.args.playback c.into_parts-system.result.0 c.into_parts-system.result.1 parts.system parts.made
    parts.order c.requires.ended).ended

pub write_flushed-written-requires-clause-working : goal.write_flushed-written-requires-clause-working
write_flushed-written-requires-clause-working g c = c.requires.working

pub note_ended-requires-clause-program : goal.note_ended-requires-clause-program
note_ended-requires-clause-program g c =
    ap (λ (s : Seen). s.setting.program) (c.write_flushed-written.ensures.same ∙ c.into_parts-system.ensures.system)
    ∙ c.requires.program

pub note_ended-requires-clause-order : goal.note_ended-requires-clause-order
note_ended-requires-clause-order g c =
    subst (λ (s : Seen). IsInOrder s c.into_parts-system.result.1)
    (sym c.write_flushed-written.ensures.same) c.into_parts-system.ensures.order

pub returns-clause-flushed : goal.returns-clause-flushed
returns-clause-flushed g c = c.write_flushed-written.ensures.flushed

pub returns-clause-text : goal.returns-clause-text
returns-clause-text g c = c.write_flushed-written.ensures.text
