-- The report is written after the lines.
use Rattle.lot_system.proofs.Lemmas.{Begins, Err, OnOk, Written, begins-front, ends_refused, err-is, last_report, made_texts, played-texts, program_turns, subst, sym, writes-after, ◌||◌, ◌≡◌}
use Rattle.lot_system.proofs.lines.write_play.Goals as goal

pub returns-in_err-write_turns-clause-text : goal.returns-in_err-write_turns-clause-text
returns-in_err-write_turns-clause-text g c =
    let program = c.args.program.now in
    let is : c.from_residual.result ≡ Err c.in_err-write_turns.field-0.0 =
    err-is c.from_residual.result _ c.from_residual.ensures.1 in
    let told = c.in_err-write_turns.ensures.text in
    let old = g.W.Write.contents c.args.writer.now.inner in
    let new = g.W.Write.contents c.write_turns.new.writer.inner in
    rw is (told.0, told.1, subst (Begins old new) (sym (played-texts program program.duration)) (begins-front old new (made_texts (program_turns program)) (last_report program program.duration) told.2))

pub returns-clause-flushed : goal.returns-clause-flushed
returns-clause-flushed g c = c.end_play.ensures.flushed

pub returns-clause-text : goal.returns-clause-text
returns-clause-text g c =
    let program = c.args.program.now in
    let old = g.W.Write.contents c.args.writer.now.inner in
    let mid = g.W.Write.contents c.write_turns.new.writer.inner in
    let new = g.W.Write.contents c.end_play.new.writer.inner in
    let failed = c.end_play.new.writer.failed in
    let result = c.end_play.result in
    subst (Written old new failed result) (sym (played-texts program program.duration))
    (writes-after old mid new failed result (made_texts (program_turns program))
    (last_report program program.duration) c.in_ok-write_turns.ensures.text.1 c.end_play.ensures.text)

pub returns-clause-stopped : goal.returns-clause-stopped
returns-clause-stopped g c =
    subst (λ b. OnOk c.end_play.result (c.end_play.new.warnings.stopped ≡ (b || ends_refused c.args.program.now)))
    c.in_ok-write_turns.ensures.stopped c.end_play.ensures.stopped
