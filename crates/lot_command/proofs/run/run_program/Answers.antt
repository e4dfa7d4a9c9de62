-- The output of the free run was written, or a beginning of it if the writer fails.
use Rattle.lot_command.proofs.Common.{Appends, Begins, EndsRun, Err, IoFault, Ok, Play, Program, Setting, ap, end_text, subst, sym}
use Rattle.lot_command.proofs.run.run_program.Goals as goal

pub returns-in-Ok-write_end-clause-run : goal.returns-in-Ok-write_end-clause-run
returns-in-Ok-write_end-clause-run g c =
    let program = c.args.program.now in
    let system = c.in-Ok.system in
    let old = g.W.Write.contents c.args.writer.now.inner in
    let new = g.W.Write.contents c.write_end.new.writer.inner in
    let told = c.in-Ok-write_end.ensures.text (ap (λ (s : Setting). s.timer) c.in-Ok.ensures.setting) in
    let its = subst (λ (p : Program). Appends old new (end_text p system.history))
    (ap (λ (s : Setting). s.program) c.in-Ok.ensures.setting) told.1 in
    (told.0, (c.noted.ensures, (system.history, c.in-Ok.ensures.history, its)))

pub returns-clause-run : goal.returns-clause-run
returns-clause-run g c =
    let program = c.args.program.now in
    let system = c.in-Ok.system in
    let old = g.W.Write.contents c.args.writer.now.inner in
    let new = g.W.Write.contents c.write_end.new.writer.inner in
    let told = c.in-Err-write_end.ensures.text (ap (λ (s : Setting). s.timer) c.in-Ok.ensures.setting) in
    let its = subst (λ (p : Program). Begins old new (end_text p system.history))
    (ap (λ (s : Setting). s.program) c.in-Ok.ensures.setting) told.2 in
    subst (λ (f : IoFault). EndsRun (Ok program) old new c.write_end.new.writer.failed (Err (Play f))) (sym told.0)
    (told.1, (system.history, c.in-Ok.ensures.history, its))
