-- 64-bit numbers.
use Rattle.std.specs.Prelude.{ℕ, ◌-◌, ◌^◌, nat_le, Option}
use Rattle.std.specs.Bool.{then_some}

-- the number, if it has at most 64 bits
abbrev pub within_64_bits : ℕ → Option ℕ
within_64_bits n = then_some (nat_le n (2 ^ 64 - 1)) n
