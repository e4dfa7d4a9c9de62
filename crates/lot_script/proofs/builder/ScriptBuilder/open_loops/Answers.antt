use Rattle.lot_script.proofs.Lemmas.{arith, count-most}
use Rattle.lot_script.proofs.builder.ScriptBuilder.open_loops.Goals as goal

pub returns-clause-most : goal.returns-clause-most
returns-clause-most c =
    rw (c.self.invariant.loops) (count-most 0 c.self.inside.lines.items (omega arith) c.self.invariant.nests)
