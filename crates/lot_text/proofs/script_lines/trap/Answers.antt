use Rattle.lot_text.proofs.ScriptLemmas.{trap-line}
use Rattle.lot_text.proofs.script_lines.trap.Goals as goal

pub add_line-requires-clause-number : goal.add_line-requires-clause-number
add_line-requires-clause-number c = rw c.with.ensures (trap-line c.args.word c.args.number c.requires.number)
