-- Flushing writes nothing more.
use Rattle.lot_system.proofs.Common.{end_text, shown_end, writes-flushed}
use Rattle.lot_system.proofs.ending.write_end.Goals as goal

pub returns-clause-text : goal.returns-clause-text
returns-clause-text g c =
    let s = c.args.system.now in
    let old = g.W.Write.contents c.args.writer.now.inner in
    let mid = g.W.Write.contents c.write_texts.new.writer.inner in
    let new = g.W.Write.contents c.flush.new.writer.inner in
    λ untimed. writes-flushed old mid new c.flush.new.writer.failed c.flush.result
    (end_text s.setting.program s.history) (c.in_ok-write_texts.ensures.text untimed).1 c.flush.ensures.text

pub returns-clause-shown : goal.returns-clause-shown
returns-clause-shown g c =
    let old = g.W.Write.contents c.args.writer.now.inner in
    let mid = g.W.Write.contents c.write_texts.new.writer.inner in
    let new = g.W.Write.contents c.flush.new.writer.inner in
    writes-flushed old mid new c.flush.new.writer.failed c.flush.result
    (shown_end c.args.system.now) c.in_ok-write_texts.ensures.shown.1 c.flush.ensures.text
