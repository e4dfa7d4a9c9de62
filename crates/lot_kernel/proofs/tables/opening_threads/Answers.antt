use Rattle.lot_kernel.proofs.Lemmas.{opens-threads, sizes_of}
use Rattle.lot_kernel.proofs.tables.opening_threads.Goals as goal

pub returns-clause-threads : goal.returns-clause-threads
returns-clause-threads c = opens-threads (sizes_of c.args.limits.now) c.in_ok-new.field-0 c.in_ok-new.ensures.opening
