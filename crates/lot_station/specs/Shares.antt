-- Splitting a share.
use Rattle.std.specs.Prelude.{◌≡◌, ℕ, ◌<◌, ◌≤◌}

-- One part with `taken` can be split off from this many parts with this amount. The last part takes all of it.
pub record IsEnough (parts amount taken : ℕ) : Type 0 where
  pub some_part : 0 < parts
  pub has : taken ≤ amount
  pub last : parts ≡ 1 → taken ≡ amount
