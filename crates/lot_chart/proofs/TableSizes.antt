-- The largest length of a table.
use Rattle.lot_chart.proofs.Common.{All, Bool, Curves, Draws, List, Measure, None, Option, Some, Stretch, Ticks, arith, codes, cond, decimal, div-le_of_le-mul, false, figure_text, flat_map, get_or, get_or-map-range_with_len, header_line, last_end, length, length-decimal-le, length-map-range_with_len, max, mul-le-mul_right, nat_le, next_field, part_at, part_in, row_at, row_line, sample_count, sample_tick, sample_ticks, sampled_line, samples-few, share_of, shown_at, subst, sum-filter, sum_by-le, sym, table, true, whole_at, ℕ, ◌*◌, ◌++◌, ◌+◌, ◌-◌, ◌<◌, ◌==◌, ◌^◌, ◌≡◌, ◌≤◌}
use Rattle.lot_chart.proofs.Lengths.{all-short, both}
use Rattle.lot_chart.proofs.Sizes.{tenths-short}

-- ---- figures have 64 bits

part-small : (measure : Measure) (tick : ℕ) (s : Stretch) → s.ticks < 2 ^ 32 → s.draws < 2 ^ 32
    → part_at measure tick s ≤ 4294967295
part-small Ticks tick s ticks draws = omega (arith, ticks)
part-small Draws tick s ticks draws = at (nat_le s.end tick)
  where
    at : (b : Bool) → cond b s.draws 0 ≤ 4294967295
    at true = omega (arith, draws)
    at false = omega arith

recent-small : (measure : Measure) (window : Option ℕ) (tick : ℕ) (s : Stretch) → s.ticks < 2 ^ 32 → s.draws < 2 ^ 32
    → part_in measure window tick s ≤ 4294967295
recent-small measure None tick s ticks draws = part-small measure tick s ticks draws
recent-small Ticks (Some window) tick s ticks draws = omega (arith, ticks)
recent-small Draws (Some window) tick s ticks draws = at (nat_le (tick - window) s.end)
  where
    at : (b : Bool) → cond b (part_at Draws tick s) 0 ≤ 4294967295
    at true = part-small Draws tick s ticks draws
    at false = omega arith

module _ (measure : Measure) (curves : Curves) (turns : length curves.stretches < 2 ^ 32)
    (ticks : All (λ (s : Stretch). s.ticks < 2 ^ 32) curves.stretches)
    (draws : All (λ (s : Stretch). s.draws < 2 ^ 32) curves.stretches) where
  figure-small : (tick t : ℕ) → shown_at measure curves tick t < 2 ^ 64
  figure-small tick t =
      let stretches = curves.stretches in
      let own = λ (s : Stretch). cond (s.thread == t) (part_in measure curves.window tick s) 0 in
      omega (
        arith,
        turns,
        sum-filter (part_in measure curves.window tick) (λ (s : Stretch). s.thread == t) stretches,
        sum_by-le own 4294967295 stretches
            (λ k d below. let s = get_or stretches k d in at s (s.thread == t) (ticks k d below) (draws k d below)),
      )
    where
      at : (s : Stretch) (b : Bool) → s.ticks < 2 ^ 32 → s.draws < 2 ^ 32
          → cond b (part_in measure curves.window tick s) 0 ≤ 4294967295
      at s true ticks draws = recent-small measure curves.window tick s ticks draws
      at s false ticks draws = omega arith

  row-small : (tick : ℕ) → All (λ (figure : ℕ). figure < 2 ^ 64) (row_at measure curves tick)
  row-small tick k d below =
      let n = length curves.names in
      let shown = shown_at measure curves tick in
      subst (λ (figure : ℕ). figure < 2 ^ 64) (sym (get_or-map-range_with_len shown 1 n k (k + 1) d
      (omega (arith, below, length-map-range_with_len shown 1 n)) (omega arith))) (figure-small tick (k + 1))

-- ---- no sample comes after the last tick

pub sample-early : (last k : ℕ) → k ≤ sample_count last → sample_tick last k ≤ last
sample-early last k within =
    div-le_of_le-mul (max 1 (sample_count last)) (mul-le-mul_right last (omega (arith, within)))

samples-early : (last : ℕ) → All (λ tick. tick ≤ last) (sample_ticks last)
samples-early last k d below =
    let count = length-map-range_with_len (sample_tick last) 0 (sample_count last + 1) in
    subst (λ tick. tick ≤ last) (sym (get_or-map-range_with_len (sample_tick last) 0 (sample_count last + 1) k k d
    (omega (arith, count, below)) (omega arith)))
    (sample-early last k (omega (arith, count, below)))

-- ---- lines

number-short : (n : ℕ) → n < 2 ^ 64 → length (decimal n) ≤ 20
number-short n small = length-decimal-le 20 n (omega arith) (omega (arith, small)) small

figure-short : (whole : Option ℕ) (figure : ℕ) → figure < 2 ^ 64 → length (figure_text whole figure) ≤ 20
figure-short None figure small = number-short figure small
figure-short (Some whole) figure small = omega (arith, tenths-short (share_of whole figure) (omega arith))

row-short : (whole : Option ℕ) (tick : ℕ) (row : List ℕ) → tick < 2 ^ 64 → All (λ (figure : ℕ). figure < 2 ^ 64) row
    → length (row_line whole tick row) ≤ 21 + length row * 21
row-short whole tick row early small =
    let field = λ (figure : ℕ). next_field (figure_text whole figure) in
    let figures = all-short field 21 row (λ k d below. both 1 20 (codes ",") (figure_text whole (get_or row k d))
    (omega arith) (figure-short whole (get_or row k d) (small k d below))) in
    omega (
      arith,
      both 20 (length row * 21 + 1) (decimal tick) (flat_map field row ++ codes "\n") (number-short tick early)
          (both (length row * 21) 1 (flat_map field row) (codes "\n") figures (omega arith)),
    )

header-short : (names : List (List ℕ)) → All (λ (name : List ℕ). length name ≤ 16) names
    → length (header_line names) ≤ 5 + length names * 17
header-short names short =
    let fields = all-short next_field 17 names
    (λ k d below. both 1 16 (codes ",") (get_or names k d) (omega arith) (short k d below)) in
    omega (arith, both 4 (length names * 17 + 1) (codes "tick") (flat_map next_field names ++ codes "\n") (omega arith) (both (length names * 17) 1 (flat_map next_field names) (codes "\n") fields (omega arith)))

-- ---- the table

pub table-short : (measure : Measure) (curves : Curves) → All (λ (name : List ℕ). length name ≤ 16) curves.names
    → length curves.stretches < 2 ^ 32
    → All (λ (s : Stretch). s.ticks < 2 ^ 32) curves.stretches
    → All (λ (s : Stretch). s.draws < 2 ^ 32) curves.stretches → curves.origin + last_end curves.stretches < 2 ^ 64
    → length (table measure curves) ≤ 4226 + 4238 * length curves.names
table-short measure curves names turns ticks draws early =
    let n = length curves.names in
    let last = last_end curves.stretches in
    let wide : (tick : ℕ) → length (row_at measure curves tick) ≡ n =
    λ tick. length-map-range_with_len (shown_at measure curves tick) 1 n in
    let line : (tick : ℕ) → tick ≤ last → length (sampled_line measure curves tick) ≤ 21 + n * 21 =
    λ tick within. subst (λ m. length (sampled_line measure curves tick) ≤ 21 + m * 21) (wide tick)
    (row-short (whole_at measure curves tick) (curves.origin + tick) (row_at measure curves tick)
    (omega (arith, within, early)) (row-small measure curves turns ticks draws tick)) in
    let lines = all-short (sampled_line measure curves) (21 + n * 21) (sample_ticks last)
    (λ k d below. line (get_or (sample_ticks last) k d) (samples-early last k d below)) in
    let few = mul-le-mul_right (21 + n * 21) (samples-few last) in
    omega (arith, both (5 + n * 17) (length (sample_ticks last) * (21 + n * 21)) (header_line curves.names) (flat_map (sampled_line measure curves) (sample_ticks last)) (header-short curves.names names) lines, few)
