use Rattle.std.proofs.Common.{refl, rules}
use Rattle.lot_io.proofs.WritingFacts.{begins-with}
use Rattle.lot_io.proofs.writing.write_bytes.Goals as goal

pub returns-in-Err : goal.returns-in-Err
returns-in-Err g c = (refl, search rules, begins-with (g.W.Write.contents c.args.writer.now.inner) (g.W.Write.contents c.write_all.new.self.inner) c.args.bytes.now c.write_all.ensures.begun)
