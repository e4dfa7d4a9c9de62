use Rattle.lot_mutex.proofs.Lemmas.{List, Option, ap, at_number, free-owner, live-apart, live-there, lock-takes, lock-waits, option_flatten, owned-there, owner-at, refl, rules, sym, ℕ, ◌∙◌}
use Rattle.lot_mutex.proofs.mutexes.lock.Goals as goal

pub returns-then-is_some-clause-trap : goal.returns-then-is_some-clause-trap
returns-then-is_some-clause-trap c = record {
  outcome = search rules;
  after = search rules;
  threads = lock-waits c.args.threads.now c.args.queues.now.mutexes c.args.thread.number c.args.mutex.number
      c.requires.mutex c.requires.owners c.owner.result (sym c.owner.ensures) (search rules);
  queues = search rules;
}

pub apply-requires-clause-allowed : goal.apply-requires-clause-allowed
apply-requires-clause-allowed c =
    let v = c.args.threads.now in
    let mutexes = c.args.queues.now.mutexes in
    let free = ap (λ (xs : List (Option ℕ)). option_flatten (at_number xs c.args.mutex.number)) (sym c.requires.owners)
    ∙ ap option_flatten (owner-at mutexes c.args.mutex.number c.requires.mutex)
    ∙ free-owner mutexes c.args.mutex.number c.owner.result c.owner.ensures (search rules) in
    ((owned-there mutexes v.owners c.args.mutex.number c.requires.mutex c.requires.owners, live-there v c.args.thread.number c.requires.thread, live-apart v c.args.thread.number c.args.mutex.number c.requires.thread), free)

pub returns-clause-trap : goal.returns-clause-trap
returns-clause-trap c =
    let free = free-owner c.args.queues.now.mutexes c.args.mutex.number c.owner.result c.owner.ensures (search rules) in
    record {
      outcome = rw free refl;
      after = rw free refl;
      threads = lock-takes c.args.threads.now c.args.queues.now.mutexes c.args.thread.number c.args.mutex.number
          c.requires.mutex c.requires.owners c.apply.new.self free c.apply.ensures.applied;
      queues = rw free c.set_owner.ensures;
    }
