-- Fairness by counting, without probabilities: the number of draws of n lotteries that a client wins, and how often
-- (2.2). A client is given by the test of the numbers with which it wins.
use Rattle.std.specs.Prelude.{ℕ, zero, suc, ◌+◌, ◌-◌, ◌*◌, ◌==◌, Bool, Option, Some, None, List, [], ◌∷◌, map, flat_map, count_by, sum_by, option_map, if◌then◌else◌, codes}
use Rattle.std.specs.List.{range_with_len}
use Rattle.lot_machine.specs.Numbered.{option_any}
use Rattle.lot_machine.specs.Lottery.{winner}
use Rattle.lot_machine.specs.State.{State}
use Rattle.lot_machine.specs.Step.{draw}
use Rattle.lot_machine.specs.Facts.{is_won_by}
use Rattle.lot_machine.specs.Worked.{mkcur, mktkt, fund, fundx, base}
use Rattle.lot_machine.specs.declared.event.Event.{Event}

-- ---- clients

-- whether the index wins with this number, in a lottery over these weights
abbrev pub place_wins : List ℕ → ℕ → ℕ → Bool
place_wins ws place d = option_any (λ w. w.place == place) (winner ws d)

-- whether the thread wins with this number, in a draw of the processor
abbrev pub thread_wins : State → ℕ → ℕ → ℕ → Bool
thread_wins s p t d = is_won_by t (draw s p d).reply

-- ---- draws

-- the lists of n of these elements, in each order and with repetition
abbrev pub lists_of : {A : Type 0} → List A → ℕ → List (List A)
lists_of xs zero = [] ∷ []
lists_of xs (suc n) = flat_map (λ x. map (λ rest. x ∷ rest) (lists_of xs n)) xs

-- all draws of n lotteries: the lists of n numbers below the total
abbrev pub all_draws : ℕ → ℕ → List (List ℕ)
all_draws total n = lists_of (range_with_len 0 total) n

-- ---- wins

-- the number of these draws that the client wins
abbrev pub win_count : (ℕ → Bool) → List ℕ → ℕ
win_count wins draws = count_by wins draws

-- the client's wins, summed over all draws of n lotteries
abbrev pub wins_in_all : (ℕ → Bool) → ℕ → ℕ → ℕ
wins_in_all wins total n = sum_by (win_count wins) (all_draws total n)

-- the number of draws of n lotteries in which the client wins exactly k of them
abbrev pub draws_with_wins : (ℕ → Bool) → ℕ → ℕ → ℕ → ℕ
draws_with_wins wins total n k = count_by (λ draws. win_count wins draws == k) (all_draws total n)

-- the index of the client's first win among these draws, from 0
abbrev pub first_win : (ℕ → Bool) → List ℕ → Option ℕ
first_win wins [] = None
first_win wins (d ∷ draws) = if wins d then Some 0 else option_map suc (first_win wins draws)

-- the number of draws of n lotteries in which the client's first win comes after k losses
abbrev pub draws_first_won_after : (ℕ → Bool) → ℕ → ℕ → ℕ → ℕ
draws_first_won_after wins total n k = count_by (λ draws. option_any (λ j. j == k) (first_win wins draws)) (all_draws total n)

-- ---- the binomial distribution

-- the number of ways to choose k of n, by Pascal's rule
abbrev pub choose : ℕ → ℕ → ℕ
choose zero zero = 1
choose zero (suc k) = 0
choose (suc n) zero = 1
choose (suc n) (suc k) = choose n k + choose n (suc k)

-- the square of the difference of two numbers
abbrev pub squared_distance : ℕ → ℕ → ℕ
squared_distance a b = (a - b) * (a - b) + (b - a) * (b - a)

-- The squared distances of the client's wins from its share n * weight / total, both times the total, summed over all
-- draws of n lotteries.
abbrev pub squared_distances : (ℕ → Bool) → ℕ → ℕ → ℕ → ℕ
squared_distances wins total weight n = sum_by (λ draws. squared_distance (win_count wins draws * total) (n * weight)) (all_draws total n)

-- ---- two processors

-- the number of processors, of two, that these threads get if processor 1 draws with d and then processor 2 with e
abbrev pub processors_won : State → List ℕ → ℕ → ℕ → ℕ
processors_won s ts d e = count_by (λ t. thread_wins s 1 t d) ts + count_by (λ t. thread_wins (draw s 1 d).state 2 t e) ts

-- the same, summed over all d below m and all e below n
abbrev pub processors_in_all : State → List ℕ → ℕ → ℕ → ℕ
processors_in_all s ts m n = sum_by (λ d. sum_by (processors_won s ts d) (range_with_len 0 n)) (range_with_len 0 m)

-- two users with 4 of base each: u has the threads 1 and 2, worth 2 each, and v the threads 3 to 6, worth 1 each
abbrev pub two_users : List Event
two_users = mkcur (codes "u") ∷ mkcur (codes "v") ∷ mktkt 4 base ∷ mktkt 4 base ∷ fund 1 (codes "u") ∷ fund 2 (codes "v")
    ∷ fundx 1 (codes "u") (codes "a") ∷ fundx 1 (codes "u") (codes "b")
    ∷ fundx 1 (codes "v") (codes "c") ∷ fundx 1 (codes "v") (codes "d")
    ∷ fundx 1 (codes "v") (codes "e") ∷ fundx 1 (codes "v") (codes "f") ∷ []
