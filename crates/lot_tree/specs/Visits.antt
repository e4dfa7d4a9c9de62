-- Counts of reads.
use Rattle.std.specs.Prelude.{ℕ, ◌≡◌, ◌+◌, ◌-◌, ◌^◌, ◌<◌, ◌≤◌, min}

-- a count after this many more, saturating at the largest `u64`
abbrev pub counted_up : ℕ → ℕ → ℕ
counted_up visits reads = min (visits + reads) (2 ^ 64 - 1)

-- the count rises by at least one read, and by at most the digits of n in any binary numeral
pub record CountsReads (n old new : ℕ) : Type 0 where
  pub reads : ℕ
  pub some : 1 ≤ reads
  pub few : (digits : ℕ) → n < 2 ^ digits → reads ≤ digits
  pub counted : new ≡ counted_up old reads
