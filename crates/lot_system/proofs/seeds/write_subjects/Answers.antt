use Rattle.lot_system.proofs.Common.{slice_index_or}
use Rattle.lot_system.proofs.Lemmas.{Err, Figures, List, Option, Program, Subject, ap, arith, most_of, figures_over, figures_text, range-more, range-stops, rules, seeds_between, ℕ, ◌+◌, ◌<◌, ◌∙◌, ◌≡◌}
use Rattle.lot_simulation.specs.declared.columns.Table as tables
use Rattle.lot_system.proofs.seeds.write_subjects.Goals as goal

-- the lines or the row of the subject with a number
abbrev line : Option tables.Table → Subject → Program → ℕ → ℕ → ℕ → List ℕ
line table subject program first last n =
    figures_text table subject n (figures_over subject program (seeds_between first last) n)

pub returns-in_err-write_subject : goal.returns-in_err-write_subject
returns-in_err-write_subject g c =
    let is : c.from_residual.result ≡ Err c.in_err-write_subject.field-0.0 = search rules in
    let i = c.loop-place.invariant in
    let all = most_of c.args.subject c.args.program.now in
    let below : c.loop-place.place < all = omega (arith, c.loop-place-test.true, c.most_of-place-end.ensures) in
    let are = c.requires.are.are c.args.subject in
    let read = c.index-figures-place.result in
    let same : read ≡ figures_over c.args.subject c.args.program.now
    (seeds_between c.args.seeds.now.first c.args.seeds.now.last) (c.loop-place.place + 1) =
    c.index-figures-place.is ∙ ap (λ (figures : List Figures). slice_index_or figures c.loop-place.place read)
    c.of-figures.ensures ∙ are.each c.loop-place.place read (omega (arith, below, are.many)) in
    let told = rw same at c.in_err-write_subject.ensures in
    rw is (
      told.0,
      told.1,
      range-stops (g.W.Write.contents c.args.writer.now.inner) (g.W.Write.contents c.loop-place.writer.inner)
          (g.W.Write.contents c.write_subject.new.writer.inner)
          (line c.args.table c.args.subject c.args.program.now c.args.seeds.now.first c.args.seeds.now.last) 1
          c.loop-place.place all (c.loop-place.place + 1) below (omega arith) i.bytes told.2,
    )

pub loop-place-preserved : goal.loop-place-preserved
loop-place-preserved g c =
    let i = c.loop-place.invariant in
    let below : c.loop-place.place < most_of c.args.subject c.args.program.now =
    omega (arith, c.loop-place-test.true, c.most_of-place-end.ensures) in
    let are = c.requires.are.are c.args.subject in
    let read = c.index-figures-place.result in
    let same : read ≡ figures_over c.args.subject c.args.program.now
    (seeds_between c.args.seeds.now.first c.args.seeds.now.last) (c.loop-place.place + 1) =
    c.index-figures-place.is ∙ ap (λ (figures : List Figures). slice_index_or figures c.loop-place.place read)
    c.of-figures.ensures ∙ are.each c.loop-place.place read (omega (arith, below, are.many)) in
    let told = rw same at c.in_ok-write_subject.ensures in
    record {
      working = told.0;
      bytes = range-more (g.W.Write.contents c.args.writer.now.inner) (g.W.Write.contents c.loop-place.writer.inner)
          (g.W.Write.contents c.write_subject.new.writer.inner)
          (line c.args.table c.args.subject c.args.program.now c.args.seeds.now.first c.args.seeds.now.last) 1
          c.loop-place.place (c.loop-place.place + 1) (omega arith) i.bytes told.1;
    }
