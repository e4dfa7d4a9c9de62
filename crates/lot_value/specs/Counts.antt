-- Counts that saturate at the largest `u64`.
use Rattle.std.specs.Prelude.{ℕ, zero, suc, ◌+◌, ◌-◌, ◌^◌, min}

-- a count after n more, saturating at the largest `u64`
abbrev pub counted_up : ℕ → ℕ → ℕ
counted_up count zero = count
counted_up count (suc more) = min (count + suc more) (2 ^ 64 - 1)
