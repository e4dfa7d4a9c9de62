-- Weights, drawing and drawn numbers (2, 3.4, 4.1, 4.2, 4.5).
use Rattle.std.specs.Prelude.{ℕ, zero, suc, ◌+◌, ◌-◌, ◌*◌, ◌/◌, ◌%◌, ◌<◌, ◌≤◌, min, max, ◌==◌, nat_lt, Option, Some, None, List, [], ◌∷◌, take, sum, if◌then◌else◌}
use Rattle.lot_machine.specs.declared.drawn.Drawn.{Drawn}

-- A value's weight in a draw: a compensation, the ticks used, scales it to a whole quantum, up or down. A value above
-- 0 weighs at least 1 (3.4, 4.5).
abbrev pub weight : ℕ → Option ℕ → ℕ → ℕ
weight value None quantum = value
weight value (Some used) quantum = max (min value 1) (value * quantum / used)

-- for each weight, `before` plus the sum of the weights up to and including it
abbrev pub running_sums : ℕ → List ℕ → List ℕ
running_sums before [] = []
running_sums before (w ∷ ws) = (before + w) ∷ running_sums (before + w) ws

-- the index of the first number that is greater than n, or the length if there is none
abbrev pub first_above : ℕ → List ℕ → ℕ
first_above n [] = 0
first_above n (x ∷ xs) = if nat_lt n x then 0 else suc (first_above n xs)

-- The lottery: nobody wins if the weights sum to 0; otherwise the first whose running sum exceeds the drawn number
-- modulo the total wins (2, 4.2).
abbrev pub winner : List ℕ → ℕ → Option Drawn
winner ws d =
    if sum ws == 0 then None
    else Some (record { place = first_above (d % sum ws) (running_sums 0 ws); number = d % sum ws; total = sum ws })

-- this index is the first whose running sum is strictly greater than the number
pub record IsFirstAbove (ws : List ℕ) (number place : ℕ) : Type 0 where
  pub above : number < sum (take (suc place) ws)
  pub first : (k : ℕ) → k < place → sum (take (suc k) ws) ≤ number

-- the next value of the generator (Park and Miller; 4.1)
abbrev pub next_seed : ℕ → ℕ
next_seed s = 16807 * s % 2147483647

-- the number drawn from the generator's next two values
abbrev pub drawn_number : ℕ → ℕ
drawn_number s = (next_seed s - 1) * 2147483646 + (next_seed (next_seed s) - 1)

-- the generator's value after a number is drawn
abbrev pub seed_after_number : ℕ → ℕ
seed_after_number s = next_seed (next_seed s)

-- The wide number drawn from the next four values: the first two and the last two each make a number, the first the
-- more significant (4.1).
abbrev pub wide_number : ℕ → ℕ
wide_number s = drawn_number s * (2147483646 * 2147483646) + drawn_number (seed_after_number s)

-- the generator's value after a wide number is drawn
abbrev pub seed_after_wide_number : ℕ → ℕ
seed_after_wide_number s = seed_after_number (seed_after_number s)

-- A distinct seed for processor p: the pth value after 1 of the generator with multiplier 48271, so that processors
-- don't draw in lock step (4.1).
abbrev pub mixed_seed : ℕ → ℕ
mixed_seed zero = 1
mixed_seed (suc p) = 48271 * mixed_seed p % 2147483647
