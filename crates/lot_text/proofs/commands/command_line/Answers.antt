-- A line of a command has an argument that isn't read, or it is read.
use Rattle.lot_text.proofs.Lemmas.{Gives-refusal, ap, length, refl, sym, ◌∙◌, ◌≡◌}
use Rattle.lot_text.proofs.Common.{form, length-map}
use Rattle.lot_text.proofs.CommandLemmas.{line-read, refused-behind}
use Rattle.lot_text.proofs.commands.command_line.Goals as goal

pub returns-in_err-token-in-Ok : goal.returns-in_err-token-in-Ok
returns-in_err-token-in-Ok c =
    let read = line-read c.args.reading.now c.args.verb c.args.tokens in
    Gives-refusal _ c.from_residual.result c.in_err-token-in-Ok.field-0.0 _ c.from_residual.ensures
    (rw (read, (rw c.again.ensures at c.in-Ok.ensures), ← c.arguments.view_is, c.in_err-token-in-Ok.ensures) refl)

pub returns-in-Some : goal.returns-in-Some
returns-in-Some c =
    let read = line-read c.args.reading.now c.args.verb c.args.tokens in
    rw (read, (rw c.again.ensures at c.in-Ok.ensures), ← c.arguments.view_is, c.in_ok-token-in-Ok.ensures, c.in-Some.is)
    c.add_named.ensures

pub returns-in-None : goal.returns-in-None
returns-in-None c =
    let read = line-read c.args.reading.now c.args.verb c.args.tokens in
    rw (read, (rw c.again.ensures at c.in-Ok.ensures), ← c.arguments.view_is, c.in_ok-token-in-Ok.ensures, c.in-None.is)
    c.add_naming.ensures

pub returns-in_ok-name_at_end-in-Err : goal.returns-in_ok-name_at_end-in-Err
returns-in_ok-name_at_end-in-Err c =
    let read = line-read c.args.reading.now c.args.verb c.args.tokens in
    let count : length c.form_of.result.now ≡ length (form c.args.verb) =
    sym (length-map c.form_of.result.now (λ argument. argument.1)) ∙ ap length c.form_of.ensures.slots in
    let behind = refused-behind c.args.reading.now c.args.verb c.args.tokens c.in_ok-rest-in-Err.rest c.in-Err.refusal
    (rw (← count) c.in_ok-rest-in-Err.ensures) in
    rw (read, (rw c.again.ensures at c.in-Err.ensures), behind, c.in_ok-name_at_end-in-Err.ensures) refl
