use Rattle.lot_threads.proofs.threads.Threads.is_stale.Goals as goal

pub returns : goal.returns
returns c = rw (← c.self.view_is) c.is_stale.ensures
