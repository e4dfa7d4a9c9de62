use Rattle.lot_mutex.proofs.Lemmas.{LimitedFunding, ap, arith, funding_in, length, mutex_at, owner_of, owners-same, refl, subst, suc, ℕ, ◌+◌, ◌≡◌}
use Rattle.lot_mutex.proofs.checks.have_same_owners.Goals as goal

pub returns : goal.returns
returns c = (
  (λ yes. owners-same c.args.queues.now.mutexes c.args.threads.now.owners c.mutexes-place-end.result
      c.mutexes-place-end.ensures
      (omega (arith, c.if-mutexes.false, c.mutexes.ensures, ap (λ (w : LimitedFunding). length w.funding.owners) c.graph.ensures, c.mutexes-2.ensures, c.mutexes-place-end.ensures))
      (λ k low. subst (λ n. owner_of (funding_in c.args.threads.now) n ≡ (mutex_at c.args.queues.now.mutexes n).owner)
      (next k) (c.loop-place.invariant.same k (omega (arith, low, c.loop-place-test.false))))),
  (λ same. refl),
)
  where
    next : (k : ℕ) → k + 1 ≡ suc k
    next k = omega arith
