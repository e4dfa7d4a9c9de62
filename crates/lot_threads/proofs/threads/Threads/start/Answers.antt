use Rattle.lot_threads.proofs.Moving.{nobody-else}
use Rattle.lot_threads.proofs.threads.Threads.start.Goals as goal

pub change-requires : goal.change-requires
change-requires c = record {
  there = c.requires.thread;
  timely = (tt, c.requires.quantum);
  lend = tt;
  run =
      (c.requires.processor, nobody-else c.args.self.now c.args.processor.number c.args.thread.number c.requires.free);
}
