-- The first line, and then the others.
use Rattle.lot_system.proofs.Common.{Appends, Begins, Err, List, Option, Program, ReportForm, Written, ap, appends-both, begins-after, begins-front, rules, seeds_between, seeds_heading, seeds_report, flat_map, subjects_in, subjects_over, subst, table_of, writes-flushed, ℕ, ◌++◌, ◌≡◌}
use Rattle.lot_simulation.specs.declared.columns.Table as tables
use Rattle.lot_system.proofs.seeds.write_report.Goals as goal

-- the lines after the first, or the rows
abbrev lines : Option tables.Table → Program → ℕ → ℕ → List ℕ
lines table program first last = flat_map (subjects_over table program (seeds_between first last)) (subjects_in table)

text-is : (form : ReportForm) (program : Program) (first last : ℕ) (table : Option tables.Table)
    → table ≡ table_of form program.duration
    → (seeds_heading table first last ++ lines table program first last) ≡ seeds_report form first last program
text-is form program first last table is = ap (λ t. seeds_heading t first last ++ lines t program first last) is

pub returns-in_err-write_heading-clause-text : goal.returns-in_err-write_heading-clause-text
returns-in_err-write_heading-clause-text g c =
    let is : c.from_residual.result ≡ Err c.in_err-write_heading.field-0.0 = search rules in
    let seeds = c.args.seeds.now in
    let program = c.args.program.now in
    let table = c.table_of-table.result in
    let told = c.in_err-write_heading.ensures in
    let old = g.W.Write.contents c.args.writer.now.inner in
    let new = g.W.Write.contents c.write_heading.new.writer.inner in
    rw is (
      told.0,
      told.1,
      subst (Begins old new) (text-is c.args.form program seeds.first seeds.last table c.table_of-table.ensures)
          (begins-front old new (seeds_heading table seeds.first seeds.last)
          (lines table program seeds.first seeds.last) told.2),
    )

pub returns-in_err-write_lines-clause-text : goal.returns-in_err-write_lines-clause-text
returns-in_err-write_lines-clause-text g c =
    let is : c.from_residual-in_err-write_lines.result ≡ Err c.in_err-write_lines.field-0.0 = search rules in
    let seeds = c.args.seeds.now in
    let program = c.args.program.now in
    let table = c.table_of-table.result in
    let told = c.in_err-write_lines.ensures in
    let old = g.W.Write.contents c.args.writer.now.inner in
    let one = g.W.Write.contents c.write_heading.new.writer.inner in
    let two = g.W.Write.contents c.write_lines.new.writer.inner in
    rw is (
      told.0,
      told.1,
      subst (Begins old two) (text-is c.args.form program seeds.first seeds.last table c.table_of-table.ensures)
          (begins-after old one two (seeds_heading table seeds.first seeds.last)
          (lines table program seeds.first seeds.last) c.in_ok-write_heading.ensures.1 told.2),
    )

pub returns-clause-text : goal.returns-clause-text
returns-clause-text g c =
    let seeds = c.args.seeds.now in
    let program = c.args.program.now in
    let table = c.table_of-table.result in
    let old = g.W.Write.contents c.args.writer.now.inner in
    let one = g.W.Write.contents c.write_heading.new.writer.inner in
    let two = g.W.Write.contents c.write_lines.new.writer.inner in
    let three = g.W.Write.contents c.flush.new.writer.inner in
    let line = seeds_heading table seeds.first seeds.last in
    let others = lines table program seeds.first seeds.last in
    let both : Appends old two (line ++ others) =
    appends-both old one two line others c.in_ok-write_heading.ensures.1 c.in_ok-write_lines.ensures.1 in
    subst (Written old three c.flush.new.writer.failed c.flush.result)
    (text-is c.args.form program seeds.first seeds.last table c.table_of-table.ensures)
    (writes-flushed old two three c.flush.new.writer.failed c.flush.result (line ++ others) both c.flush.ensures.text)
