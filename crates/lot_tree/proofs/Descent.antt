-- The descent that narrows the range of places, and its end.
use Rattle.lot_tree.proofs.Common.{ArePartialSumsAt, IsFirstAbove, List, add-one, ap, arith, cases_lt, first_above, get_or, inl, inr, le-ltb, length, lt-ltb, mod_below, mul-le-mul_right, pow-suc, pow_pos, refl, running_sums, shr_split, suc, sum, sum_by-cons, sum_by-take-le, sym, take, take_all, zero, ℕ, [], ◌*◌, ◌+◌, ◌-◌, ◌/◌, ◌<◌, ◌^◌, ◌∷◌, ◌≡◌, ◌≤◌}
use Rattle.lot_tree.proofs.Sums.{sum-take-le}
use Rattle.lot_tree.proofs.Levels.{level-room}

-- The place that a number draws is in the block with the number `block`, of 2 ^ level places, of whose running sums
-- `rest` is to be passed. The block is among the first 2 ^ height places.
pub record IsNarrowed (ws : List ℕ) (number height level block rest : ℕ) : Type 0 where
  pub inside : (block + 1) * 2 ^ level ≤ 2 ^ height
  pub within : block * 2 ^ level ≤ length ws
  pub passed : sum (take (block * 2 ^ level) ws) + rest ≡ number
  pub reached : number < sum (take ((block + 1) * 2 ^ level) ws)

-- at first that is every place that may have a weight
pub IsNarrowed_reach : (ws : List ℕ) (number height : ℕ) → number < sum ws → sum (take (2 ^ height) ws) ≡ sum ws
    → IsNarrowed ws number height height 0 number
IsNarrowed_reach ws number height drawn all = record {
  inside = omega arith;
  within = omega arith;
  passed = let from : 0 * 2 ^ height ≡ 0 = omega arith in rw from (omega arith);
  reached = let to : (0 + 1) * 2 ^ height ≡ 2 ^ height = omega arith in rw (to, all) drawn;
}

-- what is left to be passed is less than the sum of all
pub rest-within : (ws : List ℕ) (number height level block rest : ℕ) → number < sum ws
    → IsNarrowed ws number height level block rest → rest < sum ws
rest-within ws number height level block rest drawn narrowed = omega (arith, narrowed.passed)

-- ---- one step down, from a block of 2 ^ upper places to one of its halves, of which the left one has twice its number
module _ (ws sums : List ℕ) (number height upper level block rest : ℕ) (next : upper ≡ level + 1)
    (narrowed : IsNarrowed ws number height upper block rest) where
  twice : 2 ^ upper ≡ 2 * 2 ^ level
  twice = rw (next, add-one) (omega (arith, pow-suc 2 level))

  start : block * 2 ^ upper ≡ block * 2 * 2 ^ level
  start = omega (arith, ap (λ (x : ℕ). block * x) twice)

  end : (block + 1) * 2 ^ upper ≡ (block * 2 + 1 + 1) * 2 ^ level
  end = omega (arith, ap (λ (x : ℕ). (block + 1) * x) twice)

  -- the left half is whole if n places are 2 ^ height or more, as they are if n has more binary digits
  pub whole-half : (n digits : ℕ) → height < digits → 2 ^ digits ≤ 2 * n + 1 → (block * 2 + 1) * 2 ^ level ≤ n
  whole-half n digits more needed = omega (arith, narrowed.inside, end, level-room n height digits more needed)

  -- the left half has the place if its end is past the number
  in_left : number < sum (take ((block * 2 + 1) * 2 ^ level) ws) → IsNarrowed ws number height level (block * 2) rest
  in_left reached = record {
    inside = omega (arith, narrowed.inside, end);
    within = omega (arith, start, narrowed.within);
    passed = rw start at narrowed.passed;
    reached = reached;
  }

  -- and so it has if it goes to the last place or past it
  pub IsNarrowed_short : length ws < (block * 2 + 1) * 2 ^ level → IsNarrowed ws number height level (block * 2) rest
  IsNarrowed_short short = in_left (
      let all : take ((block * 2 + 1) * 2 ^ level) ws ≡ ws = take_all ((block * 2 + 1) * 2 ^ level) ws (omega arith) in
      let more : sum (take ((block + 1) * 2 ^ upper) ws) ≤ sum ws =
      sum_by-take-le (λ x. x) ws ((block + 1) * 2 ^ upper) in
      rw all (omega (arith, narrowed.reached, more))
      )

  module _ (held : ArePartialSumsAt ws sums level) (whole : (block * 2 + 1) * 2 ^ level ≤ length ws) (left : ℕ)
      (is_left : left ≡ get_or sums ((block * 2 + 1) * 2 ^ level - 1) 0) where
    -- the partial sum of the left half takes the sum before it to the sum up to its end
    left_half : sum (take (block * 2 * 2 ^ level) ws) + left ≡ sum (take ((block * 2 + 1) * 2 ^ level) ws)
    left_half =
        let order : 2 * block ≡ block * 2 = omega arith in
        rw is_left (rw order at (held block (rw order whole)).adds)

    -- which is no more than the sum of all
    pub left-within : left ≤ sum ws
    left-within = omega (arith, left_half, sum_by-take-le (λ x. x) ws ((block * 2 + 1) * 2 ^ level))

    -- if the rest passes the left half, the place is in the right half
    pub IsNarrowed_right : left ≤ rest → IsNarrowed ws number height level (block * 2 + 1) (rest - left)
    IsNarrowed_right past = record {
      inside = omega (arith, narrowed.inside, end);
      within = whole;
      passed = omega (arith, rw start at narrowed.passed, left_half);
      reached = rw end at narrowed.reached;
    }

    -- if it does not, the place is in the left half
    pub IsNarrowed_left : rest < left → IsNarrowed ws number height level (block * 2) rest
    IsNarrowed_left short = in_left (omega (arith, rw start at narrowed.passed, left_half))

-- ---- which blocks are whole
-- a block ends no later than n if its number is less than the number of whole blocks among n places
pub whole-block : (n level block : ℕ) → block < n / 2 ^ level → (block + 1) * 2 ^ level ≤ n
whole-block n level block few =
    omega (arith, shr_split n level, mul-le-mul_right {m = block + 1} {n = n / 2 ^ level} (2 ^ level) (omega arith))

-- and else it ends later
pub short-block : (n level block : ℕ) → n / 2 ^ level ≤ block → n < (block + 1) * 2 ^ level
short-block n level block many =
    omega (arith, shr_split n level, mod_below n (2 ^ level) (pow_pos level), mul-le-mul_right {m = n / 2 ^ level + 1} {n = block + 1} (2 ^ level) (omega arith))

-- ---- at the end
-- a block of one place is the first above the number
module _ (ws : List ℕ) (number height block rest : ℕ) (narrowed : IsNarrowed ws number height 0 block rest) where
  one-place : block * 2 ^ 0 ≡ block
  one-place = omega arith

  IsFirstAbove-from_IsNarrowed : IsFirstAbove ws number block
  IsFirstAbove-from_IsNarrowed = record {
    above = let next : (block + 1) * 2 ^ 0 ≡ suc block = omega arith in rw next at narrowed.reached;
    first = λ k before. omega (arith, rw one-place at narrowed.passed, sum-take-le ws (suc k) block (omega arith));
  }

-- no place from the length on is the first above a number, since the running sum grows no more
length-from_IsFirstAbove : (ws : List ℕ) (number place : ℕ) → place ≤ length ws → IsFirstAbove ws number place
    → sum (take place ws) ≤ number → place < length ws
length-from_IsFirstAbove ws number place within found passed = elim (cases_lt place (length ws)) [
  | inl below ↦ below
  | inr past ↦
      let all : take place ws ≡ ws = take_all place ws past in
      let more : sum (take (suc place) ws) ≤ sum ws = sum_by-take-le (λ x. x) ws (suc place) in
      absurd (omega (arith, found.above, more, rw all at passed))
]

-- the walk from a list's first weight on, if those before it add up to `before`
first_above_from : (ws : List ℕ) (before number place : ℕ) → place < length ws
    → number < before + sum (take (suc place) ws)
    → ((k : ℕ) → k < place → before + sum (take (suc k) ws) ≤ number)
    → first_above number (running_sums before ws) ≡ place
first_above_from [] before number place within above first = absurd (omega arith)
first_above_from (w ∷ ws) before number zero within above first = rw (lt-ltb number (before + w) (omega arith)) refl
first_above_from (w ∷ ws) before number (suc place) within above first =
    let own : sum (take 1 (w ∷ ws)) ≡ w = omega arith in
    let more : (k : ℕ) → sum (take (suc k) (w ∷ ws)) ≡ w + sum (take k ws) = λ k. sum_by-cons (λ x. x) w (take k ws) in
    let passed : before + w ≤ number = omega (arith, first 0 (omega arith)) in
    rw (le-ltb number (before + w) passed) (
    ap suc (first_above_from ws (before + w) number place (omega arith) (omega (arith, above, more (suc place)))
    (λ k earlier. omega (arith, first (suc k) (omega arith), more (suc k))))
    )

-- the first place above a number is where a walk of the running sums stops
pub first_above-running_sums : (ws : List ℕ) (number place : ℕ) → place < length ws → IsFirstAbove ws number place
    → first_above number (running_sums 0 ws) ≡ place
first_above-running_sums ws number place within found =
    first_above_from ws 0 number place within (omega (arith, found.above))
    (λ k earlier. omega (arith, found.first k earlier))

-- what the end of a descent says of its place
pub record IsDrawn (ws : List ℕ) (number place : ℕ) : Type 0 where
  pub within : place < length ws
  pub first : IsFirstAbove ws number place
  pub walk : place ≡ first_above number (running_sums 0 ws)

pub IsDrawn-from_IsNarrowed : (ws : List ℕ) (number height level block rest : ℕ) → level ≡ 0
    → IsNarrowed ws number height level block rest → IsDrawn ws number block
IsDrawn-from_IsNarrowed ws number height level block rest end narrowed =
    let last = rw end at narrowed in
    let one = one-place ws number height block rest last in
    let found = IsFirstAbove-from_IsNarrowed ws number height block rest last in
    let within =
    length-from_IsFirstAbove ws number block (rw one at last.within) found (omega (arith, rw one at last.passed)) in
    record { within = within; first = found; walk = sym (first_above-running_sums ws number block within found) }
