-- The text written is the report alone.
use Rattle.lot_system.proofs.Lemmas.{Err, ap, ends-err, ends_refused, err-is, refl, report_text, ◌||◌, ◌∙◌, ◌≡◌}
use Rattle.lot_system.proofs.summary.report_program.Goals as goal

pub returns-in_err-end_in_form-clause-reported : goal.returns-in_err-end_in_form-clause-reported
returns-in_err-end_in_form-clause-reported g c =
    let is : c.from_residual.result ≡ Err c.in_err-end_in_form.field-0.0 =
    err-is c.from_residual.result _ c.from_residual.ensures.1 in
    ends-err (g.W.Write.contents c.args.writer.now.inner) (g.W.Write.contents c.end_in_form.new.writer.inner)
    (report_text c.args.form c.args.program.now) c.end_in_form.new.writer.failed c.from_residual.result _ is
    c.in_err-end_in_form.ensures.text

pub note_turns-requires-clause-none : goal.note_turns-requires-clause-none
note_turns-requires-clause-none g c = c.in-Ok.ensures.none

pub note_turns-requires-clause-made : goal.note_turns-requires-clause-made
note_turns-requires-clause-made g c = c.in-Ok.ensures.made

pub end_in_form-requires-clause-made : goal.end_in_form-requires-clause-made
end_in_form-requires-clause-made g c = c.note_turns.ensures.made

pub end_in_form-requires-clause-ended : goal.end_in_form-requires-clause-ended
end_in_form-requires-clause-ended g c = c.note_turns.ensures.ended

pub end_in_form-requires-clause-working : goal.end_in_form-requires-clause-working
end_in_form-requires-clause-working g c = c.requires

pub returns-in_err-end_in_form-clause-flushed : goal.returns-in_err-end_in_form-clause-flushed
returns-in_err-end_in_form-clause-flushed g c = rw (err-is c.from_residual.result _ c.from_residual.ensures.1) tt

pub returns-in_err-end_in_form-clause-stopped : goal.returns-in_err-end_in_form-clause-stopped
returns-in_err-end_in_form-clause-stopped g c = rw (err-is c.from_residual.result _ c.from_residual.ensures.1) tt

pub returns-clause-flushed : goal.returns-clause-flushed
returns-clause-flushed g c = c.in_ok-end_in_form.ensures.flushed

pub returns-clause-reported : goal.returns-clause-reported
returns-clause-reported g c = (refl, c.in_ok-end_in_form.ensures.text.0, c.in_ok-end_in_form.ensures.text.1)

pub returns-clause-stopped : goal.returns-clause-stopped
returns-clause-stopped g c = c.in_ok-end_in_form.ensures.stopped
    ∙ ap (λ b. b || ends_refused c.args.program.now) c.note_turns.ensures.stopped
