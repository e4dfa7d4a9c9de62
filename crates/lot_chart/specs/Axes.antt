-- The marks of axes.
use Rattle.std.specs.Prelude.{ℕ, ◌+◌, ◌-◌, ◌*◌, ◌/◌, ◌%◌, min, max, nat_lt, List, [], ◌∷◌, find, map, unwrap_or}
use Rattle.std.specs.List.{range_with_len}

-- the possible distances between marks
abbrev pub steps : List ℕ
steps =
    1 ∷ 2 ∷ 5 ∷ 10 ∷ 20 ∷ 50 ∷ 100 ∷ 200 ∷ 500 ∷ 1000 ∷ 2000 ∷ 5000 ∷ 10000 ∷ 20000 ∷ 50000 ∷ 100000 ∷ 200000 ∷ 500000 ∷ 1000000 ∷ 2000000 ∷ 5000000
    ∷ 10000000 ∷ 20000000 ∷ 50000000 ∷ 100000000 ∷ 200000000 ∷ 500000000 ∷ 1000000000 ∷ []

-- the distance between the marks of an axis that ends at this value: the first with at most five marks after 0
abbrev pub axis_step : ℕ → ℕ
axis_step most = unwrap_or (find (λ step. nat_lt most (6 * step)) steps) 2000000000

-- the number of marks after 0
abbrev pub mark_count : ℕ → ℕ
mark_count most = min (most / max (axis_step most) 1) 5

-- the values of the marks, 0 first
abbrev pub marks : ℕ → List ℕ
marks most = map (λ n. n * axis_step most) (range_with_len 0 (mark_count most + 1))

-- ---- the time axis, which begins at an origin

-- the distance from the origin to the first multiple of the step at or after it
abbrev pub lead : ℕ → ℕ → ℕ
lead step origin = (step - origin % step) % step

-- the number of marks after the first
abbrev pub time_mark_count : ℕ → ℕ → ℕ
time_mark_count origin last = min ((last - lead (axis_step last) origin) / axis_step last) 5

-- the marks, at multiples of the step: their distances from the origin
abbrev pub time_marks : ℕ → ℕ → List ℕ
time_marks origin last = map (λ n. lead (axis_step last) origin + n * axis_step last) (range_with_len 0 (time_mark_count origin last + 1))
