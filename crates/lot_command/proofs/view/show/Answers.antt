use Rattle.lot_command.proofs.Lemmas.{come-of, text_of}
use Rattle.lot_command.proofs.view.show.Goals as goal

pub returns-clause-came : goal.returns-clause-came
returns-clause-came g c =
    let s = c.args.showing.now in
    let bytes = c.in_ok-bytes.bytes.items in
    come-of g.W.Write.contents c.args.writer.now c.show_bytes.new.writer c.show_bytes.result s.view s.seed
    (g.R.Read.remaining c.args.reader.now.inner)
    (g.R.Read.remaining c.read_input.new.reader.inner) c.args.diagnostics.now.warnings.stopped
    c.show_bytes.new.diagnostics.warnings.stopped bytes (text_of s.view c.args.title.now s.seed bytes)
    c.in_ok-bytes.ensures.read c.show_bytes.ensures.shown c.show_bytes.ensures.stopped
