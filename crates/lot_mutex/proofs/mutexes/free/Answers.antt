use Rattle.lot_mutex.proofs.Lemmas.{List, None, Option, ap, owners-after, refl, ℕ, [], ◌∙◌}
use Rattle.lot_mutex.proofs.mutexes.free.Goals as goal

pub returns-clause-frees : goal.returns-clause-frees
returns-clause-frees c value d = rw c.requires.nobody (record {
  outcome = refl;
  after = refl;
  threads = c.apply.ensures.applied
      ∙ ap (λ (xs : List (Option ℕ)). record c.args.threads.now { owners = xs; stale = c.apply.new.self.stale })
      (owners-after c.args.queues.now.mutexes c.args.threads.now.owners c.args.mutex
      (record { owner = None; waiters = [] }) c.requires.owners);
  queues = rw (c.set_owner.ensures, c.requires.nobody) refl;
})
