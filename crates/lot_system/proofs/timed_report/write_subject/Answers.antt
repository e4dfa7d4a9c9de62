use Rattle.lot_system.proofs.Lemmas.{Written, ap, option_map_or, subst, text-is, timed_turns, told_text, moment_in, Told, [], ◌∙◌}
use Rattle.lot_system.proofs.timed_report.write_subject.Goals as goal

pub returns-clause-text : goal.returns-clause-text
returns-clause-text g c =
    let s = c.args.system.now in
    let asked = c.in-Some.ensures.told in
    let text = ap (λ o. option_map_or
    (λ (told : Told). told_text c.args.layout c.args.subject c.args.number told.name told.cells.items) o []) asked
    ∙ text-is c.args.layout (moment_in s c.args.timekeeper.now) c.args.ending.time
    (timed_turns s.setting.program) c.args.subject c.args.number in
    subst (Written (g.W.Write.contents c.args.writer.now.inner) (g.W.Write.contents c.write_told.new.writer.inner)
    c.write_told.new.writer.failed c.write_told.result) text (rw c.as_slice.ensures.value at c.write_told.ensures)
