use Rattle.lot_command.proofs.Lemmas.{Ok, Warnings, ap, on-any, played-stops, program_in, refused-shown, refused-stops, seeded, sym, ◌≡◌}
use Rattle.lot_command.proofs.view.show_bytes.Goals as goal

pub returns-in-Err-Input-clause-shown : goal.returns-in-Err-Input-clause-shown
returns-in-Err-Input-clause-shown g c =
    refused-shown g.W.Write.contents c.args.writer.now c.refuse.new.writer c.refuse.result c.args.showing.now.view
    c.args.title.now c.args.showing.now.seed c.args.bytes.items c.in-Err-Input.fault
    (rw (c.in-Err-Input.field-0-is, c.as_slice.ensures.value) at c.in-Err-Input.ensures.fault)
    (rw c.in-Err-Input.field-0-is at c.refuse.ensures.played)

pub returns-in-Ok-clause-stopped : goal.returns-in-Ok-clause-stopped
returns-in-Ok-clause-stopped g c =
    let s = c.args.showing.now in
    let bytes = c.args.bytes.items in
    let is : seeded s.seed (program_in bytes) ≡ Ok c.in-Ok.program =
    rw c.as_slice.ensures.value at c.in-Ok.ensures.program in
    let kept = ap (λ (w : Warnings). w.stopped) c.keep_played.ensures in
    played-stops c.show_program.result s.view s.seed bytes c.in-Ok.program c.args.diagnostics.now.warnings.stopped
    c.keep_played.new.self.warnings.stopped c.show_program.new.warnings.stopped is kept c.show_program.ensures.stopped

pub returns-in-Err-Input-clause-stopped : goal.returns-in-Err-Input-clause-stopped
returns-in-Err-Input-clause-stopped g c =
    let s = c.args.showing.now in
    let is = rw (c.in-Err-Input.field-0-is, c.as_slice.ensures.value) at c.in-Err-Input.ensures.fault in
    on-any c.refuse.result (sym
    (refused-stops s.view s.seed c.args.bytes.items c.in-Err-Input.fault c.args.diagnostics.now.warnings.stopped is))
