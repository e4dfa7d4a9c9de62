-- The invariants after a write of one weight and of the partial sums over it, level by level.
use Rattle.lot_tree.proofs.Common.{AreKept, ArePartialSumsAt, IsPartialSum, Kept, List, add-one, ap, arith, bit_at, bit_at-trailing_ones, bit_at_cat_low, bit_at_ones, bit_or, cases_eq, cases_lt, div-add-mod', div-div-eq-div-mul, div-mul-add, get_or, get_or-set_other, get_or-set_same, inl, inr, length, length-set, mod_below, mul-le-mul_right, pow-add, pow-le-pow_right, pow-suc, pow_pos, refl, same_from_place, set, subst, suc, sum, sum_by-set, sum_by-take-le, sym, take, trailing_ones, w64, zero, ℕ, ◌%◌, ◌*◌, ◌+◌, ◌-◌, ◌/◌, ◌<◌, ◌^◌, ◌∙◌, ◌≡◌, ◌≢◌, ◌≤◌, ◌⊎◌}
use Rattle.lot_tree.proofs.Digits.{ones-least, or-next}
use Rattle.lot_tree.proofs.Sums.{sum-take-le, sum-take-set, sum-take-set_past, weight-le}

-- twice an odd multiple, written as an odd multiple of the double
double : (p a : ℕ) → (2 * a + 1) * (p * 2) ≡ 2 * ((2 * a + 1) * p)
double p a = omega arith

-- a number is an odd multiple of one power of two only
same_level : (k m a b : ℕ) → (2 * a + 1) * 2 ^ k ≡ (2 * b + 1) * 2 ^ m → k ≡ m
same_level zero zero a b e = refl
same_level zero (suc m) a b e = let f = rw (pow-suc, double) at e in absurd (omega arith)
same_level (suc k) zero a b e = let f = rw (pow-suc, double) at e in absurd (omega arith)
same_level (suc k) (suc m) a b e =
    let f = rw (pow-suc 2 k, pow-suc 2 m, double (2 ^ k) a, double (2 ^ m) b) at e in
    ap suc (same_level k m a b (omega arith))

-- a partial sum stays if the weight that is written is not one of its own
IsPartialSum-set_outside : (ws sums : List ℕ) (i w from to : ℕ) → i < length ws → from ≤ to → (i < from) ⊎ (to ≤ i)
    → IsPartialSum ws sums from to → IsPartialSum (set ws i w) sums from to
IsPartialSum-set_outside ws sums i w from to place ordered (inl before) held = record {
  adds = omega (arith, held.adds, sum-take-set ws i w from place before, sum-take-set ws i w to place (omega arith));
}
IsPartialSum-set_outside ws sums i w from to place ordered (inr after) held = record {
  adds = omega (arith, held.adds, sum-take-set_past ws i w from (omega arith), sum-take-set_past ws i w to after);
}

-- a partial sum over the written weight, with the one weight taken out and the other put in
IsPartialSum-set_inside : (ws sums : List ℕ) (i w from to : ℕ) → i < length ws → from ≤ i → i < to → to ≤ length sums
    → IsPartialSum ws sums from to
    → IsPartialSum (set ws i w) (set sums (to - 1) (get_or sums (to - 1) 0 - get_or ws i 0 + w)) from to
IsPartialSum-set_inside ws sums i w from to place after before kept held =
    let within : to - 1 < length sums = omega arith in record {
      adds = rw get_or-set_same
          (omega (arith, held.adds, weight-le ws i from to place after before, sum-take-set ws i w to place before, sum-take-set_past ws i w from after));
    }

-- a partial sum stays if another is written
IsPartialSum-set_other : (ws sums : List ℕ) (at value from to : ℕ) → to - 1 ≢ at → IsPartialSum ws sums from to
    → IsPartialSum ws (set sums at value) from to
IsPartialSum-set_other ws sums at value from to other held = record { adds = rw get_or-set_other held.adds }

-- ---- the blocks of one level: `size` is the number of places in each
-- a block has no place i if its number is not that of the block of i
block_apart : (size i block : ℕ) → 0 < size → block ≢ i / size → (i < block * size) ⊎ ((block + 1) * size ≤ i)
block_apart size i block some other = elim (cases_lt block (i / size)) [
  | inl below ↦
      inr (omega (arith, div-add-mod' i size, mul-le-mul_right {m = block + 1} {n = i / size} size (omega arith)))
  | inr above ↦ inl (omega (arith, div-add-mod' i size, mod_below i size some, mul-le-mul_right {m = i / size + 1} {n = block} size (omega arith)))
]

-- the block of i has the place i
block_around : (size i : ℕ) → 0 < size → (i / size * size ≤ i) × (i < (i / size + 1) * size)
block_around size i some =
    (omega (arith, div-add-mod' i size), omega (arith, div-add-mod' i size, mod_below i size some))

-- each block that is not empty ends past 0
ends_past_zero : (size block : ℕ) → 0 < size → 0 < (block + 1) * size
ends_past_zero size block some = omega arith

-- a block ends no earlier than the first one
ends_past : (size block : ℕ) → size ≤ (block + 1) * size
ends_past size block = omega arith

-- two blocks of one level end at two places
end_apart : (size a b : ℕ) → 0 < size → a ≢ b → (2 * a + 1) * size - 1 ≢ (2 * b + 1) * size - 1
end_apart size a b some other same =
    other (omega (arith, (same_from_place (2 * a + 1) 0 (2 * b + 1) 0 size some some (omega (arith, ends_past_zero size (2 * a) some, ends_past_zero size (2 * b) some))).0))

-- the blocks of two levels end at two places
level_apart : (k m a b : ℕ) → k ≢ m → (2 * a + 1) * 2 ^ k - 1 ≢ (2 * b + 1) * 2 ^ m - 1
level_apart k m a b other same =
    other (same_level k m a b
    (omega (arith, ends_past_zero (2 ^ k) (2 * a) (pow_pos k), ends_past_zero (2 ^ m) (2 * b) (pow_pos m))))

module _ (ws sums : List ℕ) (i w level : ℕ) (place : i < length ws) (held : ArePartialSumsAt ws sums level) where
  -- if the block of i keeps no partial sum, none changes
  ArePartialSumsAt-set_skipped : ((pair : ℕ) → 2 * pair ≡ i / 2 ^ level → length ws < (2 * pair + 1) * 2 ^ level)
      → ArePartialSumsAt (set ws i w) sums level
  ArePartialSumsAt-set_skipped none pair whole =
      let kept : (2 * pair + 1) * 2 ^ level ≤ length ws = omega (arith, length-set ws i w) in
      let other : 2 * pair ≢ i / 2 ^ level = λ same. absurd (omega (arith, none pair same)) in
      IsPartialSum-set_outside ws sums i w _ _ place (omega arith)
      (block_apart (2 ^ level) i (2 * pair) (pow_pos level) other) (held pair kept)

  -- if it keeps one, that one changes
  ArePartialSumsAt-set_written : (pair : ℕ) → 2 * pair ≡ i / 2 ^ level → (2 * pair + 1) * 2 ^ level ≤ length sums
      → ArePartialSumsAt (set ws i w) (set sums ((2 * pair + 1) * 2 ^ level - 1)
      (get_or sums ((2 * pair + 1) * 2 ^ level - 1) 0 - get_or ws i 0 + w)) level
  ArePartialSumsAt-set_written pair its kept other whole =
      let whole_before : (2 * other + 1) * 2 ^ level ≤ length ws = omega (arith, length-set ws i w) in
      let around = block_around (2 ^ level) i (pow_pos level) in
      elim (cases_eq other pair) [
        | inl same ↦ rw same (IsPartialSum-set_inside ws sums i w (2 * pair * 2 ^ level) ((2 * pair + 1) * 2 ^ level)
            place (rw its around.0) (rw its around.1) kept (held pair (rw (← same) whole_before)))
        | inr apart ↦
            IsPartialSum-set_other (set ws i w) sums _ _ _ _ (end_apart (2 ^ level) other pair (pow_pos level) apart)
            (IsPartialSum-set_outside ws sums i w _ _ place (omega arith) (block_apart (2 ^ level) i (2 * other)
            (pow_pos level) (λ same. apart (omega arith))) (held other whole_before))
      ]

-- a write at one level changes nothing at another
ArePartialSumsAt-set_other : (ws sums : List ℕ) (k level pair value : ℕ) → k ≢ level → ArePartialSumsAt ws sums k
    → ArePartialSumsAt ws (set sums ((2 * pair + 1) * 2 ^ level - 1) value) k
ArePartialSumsAt-set_other ws sums k level pair value other held block whole =
    IsPartialSum-set_other ws sums _ _ _ _ (level_apart k level block pair other) (held block whole)

-- ---- level by level
-- the partial sums of the levels below `level` are those after the write, and those of the others below the height are those before it
pub record IsWrittenBelow (ws sums : List ℕ) (i w height level : ℕ) : Type 0 where
  pub written : (k : ℕ) → k < level → ArePartialSumsAt (set ws i w) sums k
  pub unwritten : (k : ℕ) → level ≤ k → k < height → ArePartialSumsAt ws sums k

module _ (ws sums : List ℕ) (i w height level : ℕ) (place : i < length ws) (low : level < height)
    (done : IsWrittenBelow ws sums i w height level) where
  -- one level more, at which the block of i is an odd one or not whole
  IsWrittenBelow_skipped : ((pair : ℕ) → 2 * pair ≡ i / 2 ^ level → length ws < (2 * pair + 1) * 2 ^ level)
      → IsWrittenBelow ws sums i w height (level + 1)
  IsWrittenBelow_skipped none = record {
    written = λ k below. elim (cases_eq k level) [
      | inl same ↦
          rw same (ArePartialSumsAt-set_skipped ws sums i w level place (done.unwritten level (omega arith) low) none)
      | inr other ↦ done.written k (omega arith)
    ];
    unwritten = λ k above few. done.unwritten k (omega arith) few;
  }

  -- one level more, at which the block of i has a partial sum
  IsWrittenBelow_written : (pair : ℕ) → 2 * pair ≡ i / 2 ^ level → (2 * pair + 1) * 2 ^ level ≤ length sums
      → IsWrittenBelow ws (set sums ((2 * pair + 1) * 2 ^ level - 1)
      (get_or sums ((2 * pair + 1) * 2 ^ level - 1) 0 - get_or ws i 0 + w)) i w height (level + 1)
  IsWrittenBelow_written pair its kept = record {
    written = λ k below. elim (cases_eq k level) [
      | inl same ↦ rw same
          (ArePartialSumsAt-set_written ws sums i w level place (done.unwritten level (omega arith) low) pair its kept)
      | inr other ↦ ArePartialSumsAt-set_other (set ws i w) sums k level pair _ other (done.written k (omega arith))
    ];
    unwritten = λ k above few. ArePartialSumsAt-set_other ws sums k level pair _ (λ same. absurd (omega arith))
        (done.unwritten k (omega arith) few);
  }

-- ---- the climb of the code: `last` is the last place of the block of i, at the levels that it goes through
-- a weight is within the partial sum over it, which stays within the sum of all
IsPartialSum-within : (ws sums : List ℕ) (i w from to : ℕ) → i < length ws → from ≤ i → i < to
    → IsPartialSum ws sums from to
    → (get_or ws i 0 ≤ get_or sums (to - 1) 0) × (get_or sums (to - 1) 0 - get_or ws i 0 + w ≤ sum (set ws i w))
IsPartialSum-within ws sums i w from to place after before held =
    let least : get_or ws i 0 ≤ get_or sums (to - 1) 0 =
    omega (arith, held.adds, weight-le ws i from to place after before) in
    (least, omega (arith, held.adds, sum-take-set ws i w to place before, sum_by-take-le (λ x. x) (set ws i w) to))

-- the place past the block of i
abbrev pub block_end : ℕ → ℕ → ℕ
block_end i level = (i / 2 ^ level + 1) * 2 ^ level

twice_as_long : (level : ℕ) → 2 ^ (level + 1) ≡ 2 ^ level * 2
twice_as_long level = rw add-one (pow-suc 2 level)

-- the block of twice the length that has i has half the number
half_block : (i level : ℕ) → i / 2 ^ (level + 1) ≡ i / 2 ^ level / 2
half_block i level = rw twice_as_long (sym (div-div-eq-div-mul i (2 ^ level) 2))

double_odd : (half size : ℕ) → (half + 1) * (size * 2) ≡ (2 * half + 1 + 1) * size
double_odd half size = omega arith

double_even : (half size : ℕ) → (half + 1) * (size * 2) ≡ (2 * half + 1) * size + size
double_even half size = omega arith

block_end-suc : (i level : ℕ) → block_end i (level + 1) ≡ (i / 2 ^ level / 2 + 1) * (2 ^ level * 2)
block_end-suc i level = ap (λ n. (n + 1) * 2 ^ (level + 1)) (half_block i level)
    ∙ ap (λ n. (i / 2 ^ level / 2 + 1) * n) (twice_as_long level)

-- a level up from an odd block, the block of i ends at the same place
block_end-odd : (i level : ℕ) → i / 2 ^ level % 2 ≡ 1 → block_end i (level + 1) ≡ block_end i level
block_end-odd i level odd =
    let is : 2 * (i / 2 ^ level / 2) + 1 ≡ i / 2 ^ level = omega arith in
    block_end-suc i level ∙ double_odd (i / 2 ^ level / 2) (2 ^ level) ∙ ap (λ n. (n + 1) * 2 ^ level) is

-- and up from an even block, one block further on
block_end-even : (i level : ℕ) → i / 2 ^ level % 2 ≡ 0 → block_end i (level + 1) ≡ block_end i level + 2 ^ level
block_end-even i level even =
    let is : 2 * (i / 2 ^ level / 2) ≡ i / 2 ^ level = omega arith in
    block_end-suc i level ∙ double_even (i / 2 ^ level / 2) (2 ^ level) ∙ ap (λ n. (n + 1) * 2 ^ level + 2 ^ level) is

block_end-grows : (i level : ℕ) → block_end i level ≤ block_end i (level + 1)
block_end-grows i level = elim (cases_eq (i / 2 ^ level % 2) 0) [
  | inl even ↦ omega (arith, block_end-even i level even)
  | inr odd ↦ omega (arith, block_end-odd i level (omega (arith, odd)))
]

-- at each level up to the height, the block of i ends within the first 2 ^ height places
block_end-within : (i level height : ℕ) → level ≤ height → i < 2 ^ height → block_end i level ≤ 2 ^ height
block_end-within i level height low reached =
    let more = height - level in
    let split : 2 ^ height ≡ 2 ^ more * 2 ^ level = ap (λ n. 2 ^ n) (omega (arith, low)) ∙ pow-add 2 more level in
    let around = block_around (2 ^ level) i (pow_pos level) in
    elim (cases_lt (i / 2 ^ level) (2 ^ more)) [
      | inl below ↦ omega
          (arith, split, mul-le-mul_right {m = i / 2 ^ level + 1} {n = 2 ^ more} (2 ^ level) (omega (arith, below)))
      | inr above ↦ absurd (omega
          (arith, reached, split, around.0, mul-le-mul_right {m = 2 ^ more} {n = i / 2 ^ level} (2 ^ level) above))
    ]

module _ (i last level : ℕ) (ends : last + 1 ≡ block_end i level) where
  -- in binary, the last place of a block is the block's number, and then a digit 1 for each level below
  last_digits : last ≡ i / 2 ^ level * 2 ^ level + (2 ^ level - 1)
  last_digits = omega (arith, ends, pow_pos level)

  last_block : bit_at last level ≡ i / 2 ^ level % 2
  last_block = ap (λ n. bit_at n level) last_digits
      ∙ ap (λ n. n % 2) (div-mul-add (i / 2 ^ level) (2 ^ level) (2 ^ level - 1) (omega (arith, pow_pos level)))

  ones_below : (k : ℕ) → k < level → bit_at last k ≡ 1
  ones_below k low = ap (λ n. bit_at n k) last_digits ∙ bit_at_cat_low (i / 2 ^ level) level (2 ^ level - 1) k low
      ∙ bit_at_ones level k low

-- the levels below `level` are done, and the block of i at that level has the last place `last`
pub record IsClimbed (ws sums : List ℕ) (i w height last level : ℕ) : Type 0 where
  pub below : IsWrittenBelow ws sums i w height level
  pub ends : last + 1 ≡ block_end i level

module _ (ws sums : List ℕ) (i w height last : ℕ) (place : i < length ws) where
  -- up past a level at which the block of i is an odd one
  IsClimbed_odd : (level : ℕ) → level < height → IsClimbed ws sums i w height last level → bit_at last level ≡ 1
      → IsClimbed ws sums i w height last (level + 1)
  IsClimbed_odd level low done odd =
      let is : i / 2 ^ level % 2 ≡ 1 = sym (last_block i last level done.ends) ∙ odd in
      record {
        below = IsWrittenBelow_skipped ws sums i w height level place low done.below
            (λ pair its. absurd (omega (arith, its, is)));
        ends = done.ends ∙ sym (block_end-odd i level is);
      }

  -- up past all levels below a digit of `last`, if those digits are 1
  IsClimbed_ones : (more level : ℕ) → level + more ≤ height → ((k : ℕ) → k < level + more → bit_at last k ≡ 1)
      → IsClimbed ws sums i w height last level → IsClimbed ws sums i w height last (level + more)
  IsClimbed_ones zero level low ones done = let same : level + 0 ≡ level = omega arith in rw same done
  IsClimbed_ones (suc more) level low ones done =
      let next : level + 1 + more ≡ level + suc more = omega arith in
      rw next at (IsClimbed_ones more (level + 1) (omega arith) (λ k below. ones k (omega arith))
      (IsClimbed_odd level (omega arith) done (ones level (omega arith))))

  -- up past all levels if the block of i is cut short
  IsWrittenBelow_short : (more level : ℕ) → level + more ≤ height → length ws < block_end i level
      → IsWrittenBelow ws sums i w height level → IsWrittenBelow ws sums i w height (level + more)
  IsWrittenBelow_short zero level low short below = let same : level + 0 ≡ level = omega arith in rw same below
  IsWrittenBelow_short (suc more) level low short below =
      let next : level + 1 + more ≡ level + suc more = omega arith in
      rw next at (IsWrittenBelow_short more (level + 1) (omega arith) (omega (arith, short, block_end-grows i level))
      (IsWrittenBelow_skipped ws sums i w height level place (omega arith) below (λ pair its. rw its short)))

  -- past the last place no level is left with a partial sum over i
  pub IsWrittenBelow_past : (level : ℕ) → level ≤ height → IsClimbed ws sums i w height last level → length ws ≤ last
      → IsWrittenBelow ws sums i w height height
  IsWrittenBelow_past level within done past =
      let up : level + (height - level) ≡ height = omega (arith, within) in
      rw up at
      (IsWrittenBelow_short (height - level) level (omega (arith, up)) (omega (arith, done.ends, past)) done.below)

  -- nor at the last of the first 2 ^ height places, whose digits below the height are all 1
  pub IsWrittenBelow_top : (level : ℕ) → level ≤ height → IsClimbed ws sums i w height last level → i < 2 ^ height
      → 2 ^ height - 1 ≤ last → IsWrittenBelow ws sums i w height height
  IsWrittenBelow_top level within done reached past =
      let up : level + (height - level) ≡ height = omega (arith, within) in
      let is : last ≡ 2 ^ height - 1 = omega (arith, past, done.ends, block_end-within i level height within reached) in
      (rw up at (IsClimbed_ones (height - level) level (omega (arith, up))
      (λ k below. rw is (bit_at_ones height k (omega (arith, up, below)))) done)).below

  -- the code looks for the lowest digit 0 of `last`
  module _ (level lowest : ℕ) (within : level ≤ height) (done : IsClimbed ws sums i w height last level)
      (fits : last + 1 < 2 ^ 64)
      (is_lowest : lowest ≡ trailing_ones w64 last) where
    zero_at_lowest : bit_at last lowest ≡ 0
    zero_at_lowest = rw is_lowest (bit_at-trailing_ones w64 last fits).1

    ones_to_lowest : (k : ℕ) → k < lowest → bit_at last k ≡ 1
    ones_to_lowest k low = (bit_at-trailing_ones w64 last fits).2 k (rw is_lowest at low)

    -- it is at no level below, where the digits are 1
    lowest_from : level ≤ lowest
    lowest_from = elim (cases_lt lowest level) [
      | inl below ↦ absurd (omega (arith, zero_at_lowest, ones_below i last level done.ends lowest below))
      | inr from ↦ from
    ]

    -- it is at a level below the height if `last` is not the last of the first 2 ^ height places or past it
    pub lowest-below : last < 2 ^ height - 1 → lowest < height
    lowest-below before = elim (cases_lt lowest height) [
      | inl below ↦ below
      | inr past ↦
          absurd (omega (arith, before, ones-least height last (λ k low. ones_to_lowest k (omega (arith, low, past)))))
    ]

    -- and the code sets it to 1
    pub next-last : bit_or last (last + 1) ≡ last + 2 ^ lowest
    next-last = or-next lowest last ones_to_lowest zero_at_lowest

    -- below the height the block of i is there an even one, with its partial sum at `last`
    module _ (low : lowest < height) where
      IsClimbed_lowest : IsClimbed ws sums i w height last lowest
      IsClimbed_lowest =
          let up : level + (lowest - level) ≡ lowest = omega (arith, lowest_from) in
          rw up at (IsClimbed_ones (lowest - level) level (omega (arith, up, low))
          (λ k below. ones_to_lowest k (omega (arith, up, below))) done)

      lowest_even : i / 2 ^ lowest % 2 ≡ 0
      lowest_even = sym (last_block i last lowest IsClimbed_lowest.ends) ∙ zero_at_lowest

      abbrev pair : ℕ
      pair = i / 2 ^ lowest / 2

      its : 2 * pair ≡ i / 2 ^ lowest
      its = omega (arith, lowest_even)

      last_of_pair : last ≡ (2 * pair + 1) * 2 ^ lowest - 1
      last_of_pair = rw its (omega (arith, IsClimbed_lowest.ends))

      -- which is one of the first 2 ^ height places
      pub last_below : i < 2 ^ height → last < 2 ^ height
      last_below reached =
          omega (arith, IsClimbed_lowest.ends, block_end-within i lowest height (omega (arith, low)) reached)

      module _ (same_length : length sums ≡ length ws) (whole : last < length ws) where
        pub last_sum_within : (get_or ws i 0 ≤ get_or sums last 0)
            × (get_or sums last 0 - get_or ws i 0 + w ≤ sum (set ws i w))
        last_sum_within =
            let around = block_around (2 ^ lowest) i (pow_pos lowest) in
            rw last_of_pair
            (IsPartialSum-within ws sums i w (2 * pair * 2 ^ lowest) _ place (rw its around.0) (rw its around.1)
            (IsClimbed_lowest.below.unwritten lowest (omega arith) low pair (omega (arith, whole, last_of_pair))))

        pub last_sum_written : IsClimbed ws (set sums last (get_or sums last 0 - get_or ws i 0 + w)) i w height
            (last + 2 ^ lowest) (lowest + 1)
        last_sum_written = record {
          below = rw last_of_pair (IsWrittenBelow_written ws sums i w height lowest place low IsClimbed_lowest.below
              pair its (omega (arith, whole, last_of_pair, same_length)));
          ends = omega (arith, IsClimbed_lowest.ends, block_end-even i lowest lowest_even);
        }

-- ---- one level more
-- all the weight is in the first places, and so it is in more of them
pub reach-more : (ws : List ℕ) (few more : ℕ) → few ≤ more → sum (take few ws) ≡ sum ws → sum (take more ws) ≡ sum ws
reach-more ws few more past all = omega (arith, all, sum-take-le ws few more past, sum_by-take-le (λ x. x) ws more)

module _ (ws : List ℕ) (kept : Kept) (total : ℕ) (held : AreKept ws kept) (whole : total ≡ sum ws)
    (room : 2 ^ kept.height ≤ length ws) (few : kept.height < 64) where
  abbrev at : ℕ
  at = 2 ^ kept.height - 1

  last-is : (2 * 0 + 1) * 2 ^ kept.height - 1 ≡ at
  last-is = omega arith

  -- at the new level the first block has all the weight, and the others have none
  grown-block : (pair : ℕ) → (2 * pair + 1) * 2 ^ kept.height ≤ length ws
      → IsPartialSum ws (set kept.sums at total) (2 * pair * 2 ^ kept.height) ((2 * pair + 1) * 2 ^ kept.height)
  grown-block zero within =
      let some = pow_pos kept.height in
      let low : at < length kept.sums = omega (arith, held.same_length, room, some) in
      let here : get_or (set kept.sums at total) ((2 * 0 + 1) * 2 ^ kept.height - 1) 0 ≡ total =
      rw last-is (get_or-set_same kept.sums at total 0 low) in
      let none : sum (take (2 * 0 * 2 ^ kept.height) ws) ≡ 0 = let z : 2 * 0 * 2 ^ kept.height ≡ 0 = omega arith in
      rw z refl in
      let end : (2 * 0 + 1) * 2 ^ kept.height ≡ 2 ^ kept.height = omega arith in
      record { adds = omega (arith, here, none, whole, held.reach, ap (λ n. sum (take n ws)) end) }
  grown-block (suc p) within =
      let some = pow_pos kept.height in
      let from : 2 ^ kept.height ≤ 2 * suc p * 2 ^ kept.height = omega arith in
      let to : 2 ^ kept.height ≤ (2 * suc p + 1) * 2 ^ kept.height = omega arith in
      let past : 2 ^ kept.height ≤ (2 * suc p + 1) * 2 ^ kept.height - 1 = omega (arith, some) in
      let other : (2 * suc p + 1) * 2 ^ kept.height - 1 ≢ at = λ same. absurd (omega (arith, some, past, same)) in
      let here = get_or-set_other kept.sums at _ total 0 other
      ∙ held.blank ((2 * suc p + 1) * 2 ^ kept.height - 1) past in
      record { adds = omega (arith, here, reach-more ws (2 ^ kept.height) (2 * suc p * 2 ^ kept.height) from held.reach, reach-more ws (2 ^ kept.height) ((2 * suc p + 1) * 2 ^ kept.height) to held.reach) }

  pub AreKept-grown : AreKept ws (record { sums = set kept.sums at total; height = kept.height + 1 })
  AreKept-grown =
      let twice : 2 ^ (kept.height + 1) ≡ 2 * 2 ^ kept.height = rw add-one (omega (arith, pow-suc 2 kept.height)) in
      let some = pow_pos kept.height in
      record {
        same_length = length-set kept.sums at total ∙ held.same_length;
        partial = λ level low. elim (cases_eq level kept.height) [
          | inl same ↦ subst (ArePartialSumsAt ws (set kept.sums at total)) (sym same) grown-block
          | inr other ↦ subst (λ n. ArePartialSumsAt ws (set kept.sums n total) level) last-is
              (ArePartialSumsAt-set_other ws kept.sums level kept.height 0 total other
              (held.partial level (omega (arith, low, other))))
        ];
        blank = λ place past.
            let other : place ≢ at = λ same. absurd (omega (arith, some, past, twice, same)) in
            get_or-set_other kept.sums at place total 0 other ∙ held.blank place (omega (arith, past, twice));
        reach = reach-more ws (2 ^ kept.height) (2 ^ (kept.height + 1)) (omega (arith, twice)) held.reach;
        fits = omega (arith, twice, room);
        some = λ n. omega arith;
        few = omega (arith, few);
      }

-- after a write of a weight and of the partial sums over it
pub AreKept-written : (ws sums : List ℕ) (kept : Kept) (i w : ℕ) → AreKept ws kept → i < length ws → i < 2 ^ kept.height
    → length sums ≡ length kept.sums
    → ((level : ℕ) → level < kept.height → ArePartialSumsAt (set ws i w) sums level)
    → ((place : ℕ) → 2 ^ kept.height ≤ place → get_or sums place 0 ≡ get_or kept.sums place 0)
    → AreKept (set ws i w) (record { sums = sums; height = kept.height })
AreKept-written ws sums kept i w held place reached length-same partial others = record {
  same_length = length-same ∙ held.same_length ∙ sym (length-set ws i w);
  partial = partial;
  blank = λ at past. others at past ∙ held.blank at past;
  reach = omega (arith, sum-take-set ws i w (2 ^ kept.height) place reached, sum_by-set (λ x. x) ws i w 0 place, held.reach, sum_by-take-le (λ x. x) ws (2 ^ kept.height));
  fits = omega (arith, held.fits, length-set ws i w);
  some = λ n. held.some (omega (arith, n, length-set ws i w));
  few = held.few;
}

-- a level that a place needs has a whole block among the places up to it
pub level-room : (i level digits : ℕ) → level < digits → 2 ^ digits ≤ 2 * i + 1 → 2 ^ level ≤ i
level-room i level digits low needed =
    let twice : 2 ^ (level + 1) ≡ 2 * 2 ^ level = rw add-one (omega (arith, pow-suc 2 level)) in
    omega
    (arith, twice, needed, pow-le-pow_right {n = 2} (omega arith) {i = level + 1} {j = digits} (omega (arith, low)))
