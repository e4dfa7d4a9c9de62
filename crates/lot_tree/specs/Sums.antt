-- The contents of a tree's fields: weights and partial sums.
use Rattle.std.specs.Prelude.{ℕ, ◌≡◌, ◌+◌, ◌-◌, ◌*◌, ◌^◌, ◌<◌, ◌≤◌, List, length, sum, take, slice_index}

-- the partial sum just before `to` is the sum of the weights from place `from` up to it
pub record IsPartialSum (ws sums : List ℕ) (from to : ℕ) : Type 0 where
  pub adds : sum (take from ws) + slice_index sums (to - 1) ≡ sum (take to ws)

-- each whole even block of 2 ^ level places keeps its partial sum
abbrev pub ArePartialSumsAt : List ℕ → List ℕ → ℕ → Type 0
ArePartialSumsAt ws sums level =
    (pair : ℕ) → (2 * pair + 1) * 2 ^ level ≤ length ws → IsPartialSum ws sums (2 * pair * 2 ^ level) ((2 * pair + 1) * 2 ^ level)

-- the partial sum at each place, and the height below which blocks keep theirs
pub record Kept : Type 0 where
  pub sums : List ℕ
  pub height : ℕ

-- The blocks of each level below the height keep their partial sums, and no place from 2 ^ height on has one; the
-- first 2 ^ height places have all the weight. There is a level if there is a place, and no more levels than have
-- whole blocks.
pub record AreKept (ws : List ℕ) (kept : Kept) : Type 0 where
  pub same_length : length kept.sums ≡ length ws
  pub partial : (level : ℕ) → level < kept.height → ArePartialSumsAt ws kept.sums level
  pub blank : (place : ℕ) → 2 ^ kept.height ≤ place → slice_index kept.sums place ≡ 0
  pub reach : sum (take (2 ^ kept.height) ws) ≡ sum ws
  pub fits : 2 ^ kept.height ≤ 2 * length ws + 1
  pub some : 0 < length ws → 0 < kept.height
  pub few : kept.height ≤ 64

-- the partial sums are those of the weights, and the total is their sum and within its limit
pub record IsSumTree (ws : List ℕ) (kept : Kept) (total : ℕ) : Type 0 where
  pub held : AreKept ws kept
  pub whole : total ≡ sum ws
  pub limited : total < 2 ^ 112
