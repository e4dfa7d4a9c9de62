use Rattle.lot_laws.proofs.Lemmas.{first-wins, never-of, place-of, place_wins, sum, thread-of, thread_wins, total_weight, weight_of}
use Rattle.lot_laws.proofs.fairness.first_wins_are_geometric.Goals as goal

pub returns-clause-place : goal.returns-clause-place
returns-clause-place c ws place weight n k at low =
    first-wins (place_wins ws place) (sum ws) weight (place-of ws place weight at) n k low

pub returns-clause-thread : goal.returns-clause-thread
returns-clause-thread c s p t n k ready low =
    first-wins (thread_wins s p t) (total_weight s) (weight_of s t) (thread-of s p t ready) n k low

pub returns-clause-place_never : goal.returns-clause-place_never
returns-clause-place_never c ws place weight n at =
    never-of (place_wins ws place) (sum ws) weight (place-of ws place weight at) n

pub returns-clause-thread_never : goal.returns-clause-thread_never
returns-clause-thread_never c s p t n ready =
    never-of (thread_wins s p t) (total_weight s) (weight_of s t) (thread-of s p t ready) n
