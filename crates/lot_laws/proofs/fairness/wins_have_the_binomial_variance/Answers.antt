use Rattle.lot_laws.proofs.Lemmas.{place-of, place_wins, spread-of, sum, thread-of, thread_wins, total_weight, weight_of}
use Rattle.lot_laws.proofs.fairness.wins_have_the_binomial_variance.Goals as goal

pub returns-clause-place : goal.returns-clause-place
returns-clause-place c ws place weight n at =
    spread-of (place_wins ws place) (sum ws) weight (place-of ws place weight at) n

pub returns-clause-thread : goal.returns-clause-thread
returns-clause-thread c s p t n ready =
    spread-of (thread_wins s p t) (total_weight s) (weight_of s t) (thread-of s p t ready) n
