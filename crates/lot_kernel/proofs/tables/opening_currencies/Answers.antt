use Rattle.lot_kernel.proofs.Lemmas.{next-free, []}
use Rattle.lot_kernel.proofs.tables.opening_currencies.Goals as goal

pub add-requires-clause-free : goal.add-requires-clause-free
add-requires-clause-free c = next-free c.in_ok-index.index [] c.in_ok-index.ensures.empty
