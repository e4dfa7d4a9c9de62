use Rattle.lot_simulation.specs.declared.input.HeaderWord.TheVariants as header
use Rattle.lot_text.proofs.HeaderLemmas.{early-place, early-unseeded}
use Rattle.lot_text.proofs.header.header_arguments.Goals as goal

pub read_processors-requires-clause-unseeded : goal.read_processors-requires-clause-unseeded
read_processors-requires-clause-unseeded c = early-unseeded c.args.reading.now (rw c.in-Processors.is at c.requires)

pub read_processors-requires-clause-early : goal.read_processors-requires-clause-early
read_processors-requires-clause-early c =
    early-place c.args.reading.now header.Processors (rw c.in-Processors.is at c.requires)
