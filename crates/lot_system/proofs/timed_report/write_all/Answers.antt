use Rattle.lot_system.proofs.Lemmas.{Err, List, Seen, Subject, Timekeeper, all_subjects, flat_map, moment_in, part-more, part-stops, rules, subjects_text, timed_turns, ℕ, ◌∙◌, ◌≡◌}
use Rattle.lot_system.proofs.Common.{Thread}
use Rattle.lot_simulation.specs.declared.columns.Layout.TheVariants.{InLine}
use Rattle.lot_system.proofs.timed_report.write_all.Goals as goal

-- the lines of the subjects of a kind
abbrev lines : Seen → Timekeeper → ℕ → Subject → List ℕ
lines s w end = subjects_text InLine (moment_in s w) end (timed_turns s.setting.program)

pub returns-in_err-write_subjects-clause-text : goal.returns-in_err-write_subjects-clause-text
returns-in_err-write_subjects-clause-text g c =
    let is : c.from_residual.result ≡ Err c.in_err-write_subjects.field-0.0 = search rules in
    let i = c.loop-rest.invariant in
    let told = rw i.system at c.in_err-write_subjects.ensures.text in
    let text = lines c.args.system.now c.args.timekeeper.now c.args.ending.time in
    rw is (
      told.0,
      told.1,
      part-stops text (g.W.Write.contents c.args.writer.now.inner) (g.W.Write.contents c.loop-rest.writer.inner)
          (g.W.Write.contents c.write_subjects.new.writer.inner)
          (flat_map text all_subjects) c.loop-rest.rest.now Thread
          c.in-len1-up.len_at_least i.bytes told.2,
    )

pub loop-rest-preserved : goal.loop-rest-preserved
loop-rest-preserved g c =
    let i = c.loop-rest.invariant in
    let told = rw i.system at c.in_ok-write_subjects.ensures.text in
    let text = lines c.args.system.now c.args.timekeeper.now c.args.ending.time in
    record {
      working = told.0;
      system = c.in_ok-write_subjects.ensures.same ∙ i.system;
      bytes = part-more text (g.W.Write.contents c.args.writer.now.inner) (g.W.Write.contents c.loop-rest.writer.inner)
          (g.W.Write.contents c.write_subjects.new.writer.inner)
          (flat_map text all_subjects) c.loop-rest.rest.now Thread
          c.in-len1-up.len_at_least i.bytes told.1;
    }
