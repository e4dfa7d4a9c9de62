use Rattle.lot_system.proofs.Lemmas.{Err, Layout, List, Seen, Subject, Timekeeper, arith, moment_in, range-more, range-stops, rules, subject_text, timed_turns, ℕ, ◌+◌, ◌∙◌, ◌≡◌}
use Rattle.lot_simulation.specs.TimedReport.{count_of}
use Rattle.lot_engine.specs.Seen.{world_of}
use Rattle.lot_system.proofs.timed_report.write_subjects.Goals as goal

-- the line or row of the subject with a number
abbrev line : Layout → Seen → Timekeeper → ℕ → Subject → ℕ → List ℕ
line layout s w end subject = subject_text layout (moment_in s w) end (timed_turns s.setting.program) subject

pub returns-in_err-write_subject-clause-text : goal.returns-in_err-write_subject-clause-text
returns-in_err-write_subject-clause-text g c =
    let is : c.from_residual.result ≡ Err c.in_err-write_subject.field-0.0 = search rules in
    let i = c.loop-place.invariant in
    let s = c.args.system.now in
    let told = rw i.system at c.in_err-write_subject.ensures.text in
    rw is (
      told.0,
      told.1,
      range-stops (g.W.Write.contents c.args.writer.now.inner) (g.W.Write.contents c.loop-place.writer.inner)
          (g.W.Write.contents c.write_subject.new.writer.inner)
          (line c.args.layout s c.args.timekeeper.now c.args.ending.time c.args.subject) 1 c.loop-place.place
          (count_of (world_of s).state c.args.subject) (c.loop-place.place + 1)
          (omega (arith, c.loop-place-test.true, c.count_of-place-end.ensures.count)) (omega arith) i.bytes told.2,
    )

pub loop-place-preserved : goal.loop-place-preserved
loop-place-preserved g c =
    let i = c.loop-place.invariant in
    let s = c.args.system.now in
    let told = rw i.system at c.in_ok-write_subject.ensures.text in
    record {
      working = told.0;
      system = c.in_ok-write_subject.ensures.same ∙ i.system;
      bytes = range-more (g.W.Write.contents c.args.writer.now.inner) (g.W.Write.contents c.loop-place.writer.inner)
          (g.W.Write.contents c.write_subject.new.writer.inner)
          (line c.args.layout s c.args.timekeeper.now c.args.ending.time c.args.subject) 1 c.loop-place.place
          (c.loop-place.place + 1) (omega arith) i.bytes told.1;
    }
