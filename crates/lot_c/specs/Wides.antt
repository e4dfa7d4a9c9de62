-- 128-bit numbers in plain fields.
use Rattle.std.specs.Prelude.{ℕ, ◌+◌, ◌*◌, ◌/◌, ◌%◌, ◌^◌}
use Rattle.lot_c.specs.declared.wide.Wide.{Wide}

-- a number below 2 ^ 128 as its low and its high 64 bits
abbrev pub plain_wide : ℕ → Wide
plain_wide n = record { low = n % (2 ^ 64); high = n / (2 ^ 64) }

-- the number with these low and high 64 bits
abbrev pub wide_meant : Wide → ℕ
wide_meant w = w.high * (2 ^ 64) + w.low
