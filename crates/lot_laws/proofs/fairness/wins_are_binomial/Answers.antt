use Rattle.lot_laws.proofs.Lemmas.{binomial-of, place-of, place_wins, sum, thread-of, thread_wins, total_weight, weight_of}
use Rattle.lot_laws.proofs.fairness.wins_are_binomial.Goals as goal

pub returns-clause-place : goal.returns-clause-place
returns-clause-place c ws place weight n k at =
    binomial-of (place_wins ws place) (sum ws) weight (place-of ws place weight at) n k

pub returns-clause-thread : goal.returns-clause-thread
returns-clause-thread c s p t n k ready =
    binomial-of (thread_wins s p t) (total_weight s) (weight_of s t) (thread-of s p t ready) n k
