-- The first few items of a kind.
use Rattle.std.specs.Prelude.{ℕ, ◌+◌, ◌-◌, ◌^◌, List, [], ◌∷◌, ◌++◌, length, min, nat_lt, if◌then◌else◌}

-- the first few items, and the number of all
pub record Kept (A : Type 0) : Type 0 where
  pub first : List A
  pub count : ℕ

-- the record of no items
abbrev pub none_kept : {A : Type 0} → Kept A
none_kept = record { first = []; count = 0 }

-- the count plus one, saturating at the largest number of a count
abbrev pub one_more : ℕ → ℕ
one_more n = min (n + 1) (2 ^ 64 - 1)

-- the record with one more item, which is counted, and kept if fewer than eight are
abbrev pub kept_with : {A : Type 0} → Kept A → A → Kept A
kept_with kept one = record { first = if nat_lt (length kept.first) 8 then kept.first ++ one ∷ [] else kept.first; count = one_more kept.count }
