-- The mutexes passed so far have the same owners.
use Rattle.lot_mutex.proofs.Common.{funding_in, mutex_at, owner_of, ℕ, ◌+◌, ◌<◌, ◌≡◌}
use Rattle.lot_mutex.proofs.checks.have_same_owners.Given as goal

abbrev pub invariant-loop-place : goal.invariant-loop-place
invariant-loop-place l =
    record { same : (k : ℕ) → k < l.place → owner_of (funding_in l.threads) (k + 1) ≡ (mutex_at l.queues.mutexes (k + 1)).owner }
