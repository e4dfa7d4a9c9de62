use Rattle.lot_print.proofs.Common.{Err, begins-after, begins-front, codes, flat_map, rules, run_text, runs_in, take, writes-after, [], ◌++◌, ◌∷◌, ◌≡◌}
use Rattle.lot_print.proofs.runs.write_runs_line.Goals as goal

pub returns-in_err-write_bytes : goal.returns-in_err-write_bytes
returns-in_err-write_bytes g c =
    let is : c.from_residual.result ≡ Err c.in_err-write_bytes.field-0.0 = search rules in
    let told = c.in_err-write_bytes.ensures in
    rw is (told.0, told.1, begins-front (g.W.Write.contents c.args.writer.now.inner) (g.W.Write.contents c.write_bytes.new.writer.inner) (codes "runs") (flat_map run_text (take 32 (runs_in c.args.history.now)) ++ 10 ∷ []) told.2)

pub returns-in_err-write_run_texts : goal.returns-in_err-write_run_texts
returns-in_err-write_run_texts g c =
    let is : c.from_residual-in_err-write_run_texts.result ≡ Err c.in_err-write_run_texts.field-0.0 = search rules in
    let told = c.in_err-write_run_texts.ensures in
    let old = g.W.Write.contents c.args.writer.now.inner in
    let one = g.W.Write.contents c.write_bytes.new.writer.inner in
    let new = g.W.Write.contents c.write_run_texts.new.writer.inner in
    let text = flat_map run_text (take 32 (runs_in c.args.history.now)) in
    rw is (told.0, told.1, begins-after old one new (codes "runs") (text ++ 10 ∷ []) c.in_ok-write_bytes.ensures.1 (begins-front one new text (10 ∷ []) told.2))

pub returns : goal.returns
returns g c =
    let old = g.W.Write.contents c.args.writer.now.inner in
    let one = g.W.Write.contents c.write_bytes.new.writer.inner in
    let two = g.W.Write.contents c.write_run_texts.new.writer.inner in
    let new = g.W.Write.contents c.write_bytes-2.new.writer.inner in
    let failed = c.write_bytes-2.new.writer.failed in
    let result = c.write_bytes-2.result in
    let text = flat_map run_text (take 32 (runs_in c.args.history.now)) in
    writes-after old one new failed result (codes "runs") (text ++ 10 ∷ []) c.in_ok-write_bytes.ensures.1
    (writes-after one two new failed result text (10 ∷ []) c.in_ok-write_run_texts.ensures.1 c.write_bytes-2.ensures)
