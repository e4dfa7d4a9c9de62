use Rattle.lot_system.proofs.Lemmas.{Err, List, Program, Subject, all_subjects, flat_map, part-more, part-stops, rules, seeds_between, ℕ, ◌≡◌}
use Rattle.lot_system.proofs.Common.{None, Thread, subjects_over}
use Rattle.lot_system.proofs.seeds.write_all.Goals as goal

-- the lines of the subjects of a kind
abbrev lines : Program → ℕ → ℕ → Subject → List ℕ
lines program first last = subjects_over None program (seeds_between first last)

pub returns-in_err-write_subjects : goal.returns-in_err-write_subjects
returns-in_err-write_subjects g c =
    let is : c.from_residual.result ≡ Err c.in_err-write_subjects.field-0.0 = search rules in
    let told = c.in_err-write_subjects.ensures in
    let text = lines c.args.program.now c.args.seeds.now.first c.args.seeds.now.last in
    rw is (
      told.0,
      told.1,
      part-stops text (g.W.Write.contents c.args.writer.now.inner) (g.W.Write.contents c.loop-rest.writer.inner)
          (g.W.Write.contents c.write_subjects.new.writer.inner)
          (flat_map text all_subjects) c.loop-rest.rest.now Thread
          c.in-len1-up.len_at_least c.loop-rest.invariant.bytes told.2,
    )

pub loop-rest-preserved : goal.loop-rest-preserved
loop-rest-preserved g c =
    let told = c.in_ok-write_subjects.ensures in
    let text = lines c.args.program.now c.args.seeds.now.first c.args.seeds.now.last in
    record {
      working = told.0;
      bytes = part-more text (g.W.Write.contents c.args.writer.now.inner) (g.W.Write.contents c.loop-rest.writer.inner)
          (g.W.Write.contents c.write_subjects.new.writer.inner)
          (flat_map text all_subjects) c.loop-rest.rest.now Thread
          c.in-len1-up.len_at_least c.loop-rest.invariant.bytes told.1;
    }
