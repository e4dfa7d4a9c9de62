use Rattle.lot_laws.proofs.Lemmas.{all-of, mean-of, place-of, place_wins, sum, thread-of, thread_wins, total_weight, weight_of}
use Rattle.lot_laws.proofs.fairness.wins_are_in_proportion.Goals as goal

pub returns-clause-place : goal.returns-clause-place
returns-clause-place c ws place weight n at =
    all-of (place_wins ws place) (sum ws) weight (place-of ws place weight at) n

pub returns-clause-thread : goal.returns-clause-thread
returns-clause-thread c s p t n ready =
    all-of (thread_wins s p t) (total_weight s) (weight_of s t) (thread-of s p t ready) n

pub returns-clause-place_mean : goal.returns-clause-place_mean
returns-clause-place_mean c ws place weight n at =
    mean-of (place_wins ws place) (sum ws) weight (place-of ws place weight at) n

pub returns-clause-thread_mean : goal.returns-clause-thread_mean
returns-clause-thread_mean c s p t n ready =
    mean-of (thread_wins s p t) (total_weight s) (weight_of s t) (thread-of s p t ready) n
