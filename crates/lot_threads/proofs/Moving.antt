-- The threads that may start to run.
use Rattle.lot_threads.proofs.Common.{None, Running, Some, Threaded, nobody-runs, status_of, thread_on, ℕ, ◌≡◌}

-- nobody else runs where nobody runs
pub nobody-else : (v : Threaded) (p t : ℕ) → thread_on v.records p ≡ None → (u more : ℕ)
    → status_of v.records u ≡ Some (Running p more) → u ≡ t
nobody-else v p t free u more runs = absurd (nobody-runs v.records p u more free runs)
