-- The largest length of a picture.
use Rattle.lot_chart.proofs.Common.{All, All-cons, All-nil, Bool, By, Currency, Curves, Dues, List, None, Option, PlotLine, Some, Standing, Stretch, Thread, Ticks, across, ap, arith, at_number, at_number-suc, axes, axis_step, chart, codes, colour, column_mark, command_mark, command_marks, cond, curve, decimal, drawn_of, due_curve, due_curves, due_height, due_point, due_points, escaped, escaped_byte, false, find, first_in, flat_map, frame, get_or, get_or-map-range_with_len, get_or_from_slice_get, had_in, head, height_mark, height_of, heights_label, highest, label, last_end, lead, leader, leb-true, length, length-decimal-le, length-map-range_with_len, length-range_with_len, lines_after, lines_in, lines_label, list_all, longest_name, ltb-true, map, mark_count, marks, measure_label, mod_below, most_shown, mul-le-mul_left, mul-le-mul_right, name_of, name_text, nat_le, nat_lt, place_of, point, point_at, points, range_with_len, refl, sample_count, sample_point, sample_tick, selection, share_of, slice_get_within, stands_in, steps, stroke, strokes, subst, suc, sym, tenths, time_mark, time_mark_count, time_marks, top_at, tops, total, true, unwrap_or, width_for, zero, ℕ, [], ◌%◌, ◌&&◌, ◌*◌, ◌++◌, ◌+◌, ◌-◌, ◌/◌, ◌<◌, ◌==◌, ◌^◌, ◌∙◌, ◌∷◌, ◌≡◌, ◌≤◌}
use Rattle.lot_chart.specs.Charts.{picture}
use Rattle.lot_chart.specs.Marks.{marked}
use Rattle.lot_chart.proofs.Lengths.{all-short, both}
use Rattle.lot_chart.proofs.Places.{names-within, shown-few}

-- ---- parts

pub tenths-short : (n : ℕ) → n ≤ 9999 → length (tenths n) ≤ 5
tenths-short n small =
    let whole = length-decimal-le 3 (n / 10) (omega arith) (omega (arith, small)) (omega (arith, small)) in
    let part = length-decimal-le 1 (n % 10) (omega arith) (omega arith) (omega arith) in
    both 3 2 (decimal (n / 10)) (46 ∷ decimal (n % 10)) whole (omega (arith, part))

byte-short : (byte : ℕ) → length (escaped_byte byte) ≤ 5
byte-short byte = at (byte == 38) (byte == 60) (byte == 62) (nat_lt byte 32)
  where
    at : (a b c d : Bool) → length
        (cond a (codes "&amp;") (cond b (codes "&lt;") (cond c (codes "&gt;") (cond d (codes " ") (byte ∷ []))))) ≤ 5
    at true b c d = omega arith
    at false true c d = omega arith
    at false false true d = omega arith
    at false false false true = omega arith
    at false false false false = omega arith

escaped-short : (text : List ℕ) → length (escaped text) ≤ length text * 5
escaped-short text = all-short escaped_byte 5 text (λ k d below. byte-short (get_or text k d))

-- ---- the axes

and-left : (a b : Bool) → (a && b) ≡ true → a ≡ true
and-left true b both = refl
and-left false b both = both

and-right : (a b : Bool) → (a && b) ≡ true → b ≡ true
and-right true b both = both
and-right false b both = cc

step-small : (most : ℕ) → axis_step most ≤ 2000000000
step-small most = within steps refl
  where
    within : (xs : List ℕ) → list_all (λ s. nat_le s 2000000000) xs ≡ true
        → unwrap_or (find (λ s. nat_lt most (6 * s)) xs) 2000000000 ≤ 2000000000
    within [] all = omega arith
    within (x ∷ xs) all = at (nat_lt most (6 * x))
        (within xs (and-right (nat_le x 2000000000) (list_all (λ s. nat_le s 2000000000) xs) all))
      where
        at : (b : Bool) → unwrap_or (find (λ s. nat_lt most (6 * s)) xs) 2000000000 ≤ 2000000000
            → unwrap_or (cond b (Some x) (find (λ s. nat_lt most (6 * s)) xs)) 2000000000 ≤ 2000000000
        at true rest =
            leb-true x 2000000000 (and-left (nat_le x 2000000000) (list_all (λ s. nat_le s 2000000000) xs) all)
        at false rest = rest

step-positive : (most : ℕ) → 0 < axis_step most
step-positive most = within steps
  where
    within : (xs : List ℕ) → 0 < unwrap_or (find (λ s. nat_lt most (6 * s)) xs) 2000000000
    within [] = omega arith
    within (x ∷ xs) = at (nat_lt most (6 * x)) refl (within xs)
      where
        at : (b : Bool) → nat_lt most (6 * x) ≡ b → 0 < unwrap_or (find (λ s. nat_lt most (6 * s)) xs) 2000000000
            → 0 < unwrap_or (cond b (Some x) (find (λ s. nat_lt most (6 * s)) xs)) 2000000000
        at true wide rest = omega (arith, ltb-true most (6 * x) wide)
        at false narrow rest = rest

height-mark-short : (most ticks : ℕ) → ticks < 10 ^ 11 → length (height_mark most ticks) ≤ 111
height-mark-short most ticks small =
    let height = tenths-short (height_of most ticks) (omega arith) in
    let number = length-decimal-le 11 ticks (omega arith) small (omega (arith, small)) in
    both 14 97 (codes "<path d='M100 ") (tenths (height_of most ticks)
    ++ (codes "H770' stroke='#dddddd'/>\n<text x='92' y='" ++ (tenths (height_of most ticks)
    ++ (codes "' dy='4' text-anchor='end'>" ++ (decimal ticks ++ codes "</text>\n"))))) (omega arith)
    (both 5 92 (tenths (height_of most ticks)) (codes "H770' stroke='#dddddd'/>\n<text x='92' y='" ++ (tenths
    (height_of most ticks) ++ (codes "' dy='4' text-anchor='end'>" ++ (decimal ticks ++ codes "</text>\n")))) height
    (both 41 51 (codes "H770' stroke='#dddddd'/>\n<text x='92' y='") (tenths (height_of most ticks)
    ++ (codes "' dy='4' text-anchor='end'>" ++ (decimal ticks ++ codes "</text>\n"))) (omega arith)
    (both 5 46 (tenths (height_of most ticks))
    (codes "' dy='4' text-anchor='end'>" ++ (decimal ticks ++ codes "</text>\n")) height
    (both 27 19 (codes "' dy='4' text-anchor='end'>") (decimal ticks ++ codes "</text>\n") (omega arith)
    (both 11 8 (decimal ticks) (codes "</text>\n") number (omega arith))))))

time-mark-short : (curves : Curves) → curves.origin < 2 ^ 56 → (tick : ℕ) → tick < 10 ^ 11
    → length (time_mark curves tick) ≤ 115
time-mark-short curves early tick small =
    let last = last_end curves.stretches in
    let at = curves.origin + tick in
    let place = tenths-short (across last tick) (omega arith) in
    let number = length-decimal-le 20 at (omega arith) (omega (arith, early, small)) (omega (arith, early, small)) in
    both 10 105 (codes "<path d='M") (tenths (across last tick) ++ (codes " 460v5' stroke='#222222'/>\n<text x='"
    ++ (tenths (across last tick) ++ (codes "' y='480' text-anchor='middle'>" ++ (decimal at ++ codes "</text>\n")))))
    (omega arith)
    (both 5 100 (tenths (across last tick)) (codes " 460v5' stroke='#222222'/>\n<text x='" ++ (tenths (across last tick)
    ++ (codes "' y='480' text-anchor='middle'>" ++ (decimal at ++ codes "</text>\n")))) place
    (both 36 64 (codes " 460v5' stroke='#222222'/>\n<text x='") (tenths (across last tick)
    ++ (codes "' y='480' text-anchor='middle'>" ++ (decimal at ++ codes "</text>\n"))) (omega arith)
    (both 5 59 (tenths (across last tick))
    (codes "' y='480' text-anchor='middle'>" ++ (decimal at ++ codes "</text>\n")) place
    (both 31 28 (codes "' y='480' text-anchor='middle'>") (decimal at ++ codes "</text>\n") (omega arith)
    (both 20 8 (decimal at) (codes "</text>\n") number (omega arith))))))

-- at most six marks, at small numbers
marks-short : (f : ℕ → List ℕ) (m : ℕ) (at : ℕ → ℕ) (count : ℕ) → count ≤ 5
    → ((tick : ℕ) → tick < 10 ^ 11 → length (f tick) ≤ m) → ((k : ℕ) → k ≤ 5 → at k < 10 ^ 11)
    → length (flat_map f (map at (range_with_len 0 (count + 1)))) ≤ 6 * m
marks-short f m at count few short small =
    let six : length (map at (range_with_len 0 (count + 1))) ≤ 6 =
    omega (arith, length-map-range_with_len at 0 (count + 1), few) in
    omega (arith, all-short f m (map at (range_with_len 0 (count + 1))) each, mul-le-mul_right m six)
  where
    each : All (λ tick. length (f tick) ≤ m) (map at (range_with_len 0 (count + 1)))
    each k d below =
        let many = length-map-range_with_len at 0 (count + 1) in
        subst (λ tick. length (f tick) ≤ m)
        (sym (get_or-map-range_with_len at 0 (count + 1) k k d (omega (arith, many, below)) (omega arith)))
        (short (at k) (small k (omega (arith, many, below, few))))

heights-short : (most : ℕ) → length (flat_map (height_mark most) (marks most)) ≤ 666
heights-short most =
    marks-short (height_mark most) 111 (λ n. n * axis_step most) (mark_count most) (omega arith)
    (height-mark-short most) (λ k few. omega (arith, mul-le-mul_left (axis_step most) few, step-small most))

times-short : (curves : Curves) → curves.origin < 2 ^ 56
    → length (flat_map (time_mark curves) (time_marks curves.origin (last_end curves.stretches))) ≤ 690
times-short curves early =
    let origin = curves.origin in
    let last = last_end curves.stretches in
    let step = axis_step last in
    let first = mod_below (step - origin % step) step (step-positive last) in
    marks-short (time_mark curves) 115 (λ n. lead step origin + n * step) (time_mark_count origin last) (omega arith)
    (time-mark-short curves early) (λ k few. omega (arith, first, mul-le-mul_left step few, step-small last))

lines_label-short : (what : By) → length (lines_label what) ≤ 42
lines_label-short Thread = omega arith
lines_label-short Currency = omega arith

measure_label-short : (window : Option ℕ) → unwrap_or window 0 < 2 ^ 32 → length (measure_label window) ≤ 41
measure_label-short None narrow = omega arith
measure_label-short (Some window) narrow =
    let number = length-decimal-le 10 window (omega arith) (omega (arith, narrow)) (omega (arith, narrow)) in
    both 13 28 (codes " in the last ") (decimal window ++ codes " ticks, in percent") (omega arith)
    (both 10 18 (decimal window) (codes " ticks, in percent") number (omega arith))

heights_label-short : (what : By) (window : Option ℕ) → unwrap_or window 0 < 2 ^ 32
    → length (heights_label what window) ≤ 83
heights_label-short what window narrow =
    both 42 41 (lines_label what) (measure_label window) (lines_label-short what) (measure_label-short window narrow)

frame-short : (what : By) (window : Option ℕ) → unwrap_or window 0 < 2 ^ 32 → length (frame what window) ≤ 283
frame-short what window narrow =
    let lines = codes "<path d='M100 60V460H770' fill='none' stroke='#222222'/>\n<text x='435' y='512' text-anchor='middle'>time, in ticks</text>\n<text transform='translate(14 260) rotate(-90)' text-anchor='middle'>" in
    both 192 91 lines (heights_label what window ++ codes "</text>\n") (omega arith)
    (both 83 8 (heights_label what window) (codes "</text>\n") (heights_label-short what window narrow) (omega arith))

-- ---- the marks of commands

command-mark-short : (curves : Curves) (time : ℕ) → time < 2 ^ 32 → length (command_mark curves time) ≤ 108
command-mark-short curves time small =
    let place = across (last_end curves.stretches) (time - curves.origin) in
    let number = length-decimal-le 10 time (omega arith) (omega (arith, small)) (omega (arith, small)) in
    both 10 98 (codes "<path d='M")
    (tenths place ++ (codes " 60V460' stroke='#bbbbbb' stroke-dasharray='3 3'><title>command at "
    ++ (decimal time ++ codes "</title></path>\n"))) (omega arith)
    (both 5 93 (tenths place) (codes " 60V460' stroke='#bbbbbb' stroke-dasharray='3 3'><title>command at "
    ++ (decimal time ++ codes "</title></path>\n")) (tenths-short place (omega arith))
    (both 67 26 (codes " 60V460' stroke='#bbbbbb' stroke-dasharray='3 3'><title>command at ")
    (decimal time ++ codes "</title></path>\n") (omega arith)
    (both 10 16 (decimal time) (codes "</title></path>\n") number (omega arith))))

All-tail : {X : Type 0} (P : X → Type 0) (x : X) (xs : List X) → All P (x ∷ xs) → All P xs
All-tail P x xs all k d below = all (suc k) d (omega (arith, below))

-- a column's mark, if one for each of these times has at most so many bytes
column-mark-short : (curves : Curves) (n : ℕ) (times : List ℕ) (column : ℕ)
    → All (λ time. length (command_mark curves time) ≤ n) times
    → length (column_mark curves (first_in curves times column)) ≤ n
column-mark-short curves n [] column all = omega arith
column-mark-short curves n (t ∷ times) column all =
    at (stands_in curves column t)
    (column-mark-short curves n times column (All-tail (λ time. length (command_mark curves time) ≤ n) t times all))
  where
    at : (b : Bool) → length (column_mark curves (first_in curves times column)) ≤ n
        → length (column_mark curves (cond b (Some t) (first_in curves times column))) ≤ n
    at true rest = all 0 t (omega arith)
    at false rest = rest

marks-few : (curves : Curves) (n : ℕ) → All (λ time. length (command_mark curves time) ≤ n) curves.commands
    → length (command_marks curves) ≤ 671 * n
unfolding marked
marks-few curves n all =
    let first = first_in curves curves.commands in
    let many = length-map-range_with_len first 0 671 in
    let each : All (λ (o : Option ℕ). length (column_mark curves o) ≤ n) (marked curves) =
    λ k d below. subst (λ (o : Option ℕ). length (column_mark curves o) ≤ n) (sym (get_or-map-range_with_len first 0 671
    k k d (omega (arith, many, below)) (omega arith))) (column-mark-short curves n curves.commands k all) in
    subst (λ m. length (command_marks curves) ≤ m * n) many (all-short (column_mark curves) n (marked curves) each)

marks-short_each : (curves : Curves) → All (λ time. time < 2 ^ 32) curves.commands
    → length (command_marks curves) ≤ 72468
marks-short_each curves small = omega
    (arith, marks-few curves 108 (λ k d below. command-mark-short curves (get_or curves.commands k d) (small k d below)))

marks-none : (curves : Curves) → curves.commands ≡ [] → length (command_marks curves) ≤ 0
marks-none curves none = omega
    (arith, marks-few curves 0 (subst (λ (ts : List ℕ). All (λ time. length (command_mark curves time) ≤ 0) ts) (sym none) (All-nil (λ time. length (command_mark curves time) ≤ 0))))

-- the axes, if the marks of commands have at most so many bytes
axes-short : (curves : Curves) (most n : ℕ) → curves.origin < 2 ^ 56 → unwrap_or curves.window 0 < 2 ^ 32
    → length (command_marks curves) ≤ n → length (axes curves most) ≤ 1639 + n
axes-short curves most n early narrow few =
    let times = flat_map (time_mark curves) (time_marks curves.origin (last_end curves.stretches)) in
    let commands = command_marks curves in
    let top = highest curves.window most in
    let bottom = frame curves.by curves.window in
    let end : length (commands ++ bottom) ≤ n + 283 =
    both n 283 commands bottom few (frame-short curves.by curves.window narrow) in
    let two : length (times ++ (commands ++ bottom)) ≤ 690 + (n + 283) =
    both 690 (n + 283) times (commands ++ bottom) (times-short curves early) end in
    omega (arith, both 666 (690 + (n + 283)) (flat_map (height_mark top) (marks top)) (times ++ (commands ++ bottom)) (heights-short top) two)

-- ---- the lines

colour-short : (style : ℕ) → length (colour style) ≤ 7
colour-short style = at (style % 8 == 0) (style % 8 == 1) (style % 8 == 2) (style % 8 == 3) (style % 8 == 4)
    (style % 8 == 5) (style % 8 == 6)
  where
    at : (a b c d e f g : Bool)
        → length (cond a (codes "#0072b2") (cond b (codes "#d55e00") (cond c (codes "#009e73") (cond d (codes "#cc79a7")
        (cond e (codes "#e69f00") (cond f (codes "#56b4e9") (cond g (codes "#000000") (codes "#f0e442")))))))) ≤ 7
    at true b c d e f g = omega arith
    at false true c d e f g = omega arith
    at false false true d e f g = omega arith
    at false false false true e f g = omega arith
    at false false false false true f g = omega arith
    at false false false false false true g = omega arith
    at false false false false false false true = omega arith
    at false false false false false false false = omega arith

strokes-short : (style : ℕ) → length (strokes style) ≤ 23
strokes-short style = at (nat_le 8 style)
  where
    at : (b : Bool) → length (cond b (codes " stroke-dasharray='7 4'") []) ≤ 23
    at true = omega arith
    at false = omega arith

point_at-short : (curves : Curves) (tick height : ℕ) → height ≤ 4600 → length (point_at curves tick height) ≤ 12
point_at-short curves tick height within =
    let last = last_end curves.stretches in
    both 1 11 (codes " ") (tenths (across last tick) ++ (codes "," ++ tenths height)) (omega arith)
    (both 5 6 (tenths (across last tick)) (codes "," ++ tenths height) (tenths-short (across last tick) (omega arith))
    (both 1 5 (codes ",") (tenths height) (omega arith) (tenths-short height (omega (arith, within)))))

point-short : (curves : Curves) (top : ℕ) (stretches : List Stretch) (tick : ℕ)
    → length (point curves top stretches tick) ≤ 12
point-short curves top stretches tick =
    point_at-short curves tick (height_of top (had_in Ticks curves.window tick stretches)) (omega arith)

points-short : (curves : Curves) (heads : List ℕ) (stretches : List Stretch)
    → length (points curves heads stretches) ≤ 2412
points-short curves heads stretches =
    let last = last_end curves.stretches in
    let samples = range_with_len 0 (sample_count last + 1) in
    let each = λ (k d : ℕ) (below : k < length samples).
    point-short curves (get_or heads (get_or samples k d) 0) stretches (sample_tick last (get_or samples k d)) in
    omega (arith, all-short (sample_point curves heads stretches) 12 samples each, length-range_with_len 0 (sample_count last + 1))

-- a line of these points
line-short : (own : List ℕ) (style : ℕ) → length own ≤ 2412
    → length (codes "<polyline points='" ++ (own ++ stroke style)) ≤ 2474
line-short own style short =
    both 18 2456 (codes "<polyline points='") (own ++ stroke style) (omega arith)
    (both 2412 44 own (stroke style) short
    (both 10 34 (codes "' stroke='") (colour style ++ (codes "'" ++ (strokes style ++ codes "/>\n"))) (omega arith)
    (both 7 27 (colour style) (codes "'" ++ (strokes style ++ codes "/>\n")) (colour-short style)
    (both 1 26 (codes "'") (strokes style ++ codes "/>\n") (omega arith)
    (both 23 3 (strokes style) (codes "/>\n") (strokes-short style) (omega arith))))))

curve-short : (curves : Curves) (others : List Stretch) (heads : List ℕ) (line : PlotLine)
    → length (curve curves others heads line) ≤ 2474
curve-short curves others heads line =
    line-short (points curves heads (drawn_of curves others line.thread)) line.style
    (points-short curves heads (drawn_of curves others line.thread))

due_points-short : (curves : Curves) (dues : Dues) (shown : List Standing) (heads : List ℕ) (thread : ℕ)
    → length (due_points curves dues shown heads thread) ≤ 2412
due_points-short curves dues shown heads thread =
    let last = last_end curves.stretches in
    let samples = range_with_len 0 (sample_count last + 1) in
    let each = λ (k d : ℕ) (below : k < length samples). let sample = get_or samples k d in
    point_at-short curves (sample_tick last sample)
    (due_height curves (get_or heads sample 0) dues shown thread (sample_tick last sample)) (omega arith) in
    omega (arith, all-short (due_point curves dues shown heads thread) 12 samples each, length-range_with_len 0 (sample_count last + 1))

due_curve-short : (curves : Curves) (dues : Dues) (shown : List Standing) (heads : List ℕ) (line : PlotLine)
    → length (due_curve curves dues shown heads line) ≤ 2474
due_curve-short curves dues shown heads line =
    line-short (due_points curves dues shown heads line.thread) line.style
    (due_points-short curves dues shown heads line.thread)

-- all that is due, of at most twelve lines
due_curves-short : (curves : Curves) (dues : Option Dues) (shown : List Standing) (heads : List ℕ)
    (lines : List PlotLine) → length lines ≤ 12 → length (due_curves curves dues shown heads lines) ≤ 29771
due_curves-short curves None shown heads lines few = omega arith
due_curves-short curves (Some dues) shown heads lines few =
    let thin : length (flat_map (due_curve curves dues shown heads) lines) ≤ 29688 =
    omega (arith, all-short (due_curve curves dues shown heads) 2474 lines (λ k d below. due_curve-short curves dues shown heads (get_or lines k d)), few) in
    both 78 29693 (codes "<g fill='none' stroke-width='1' stroke-opacity='0.5' stroke-linejoin='round'>\n")
    (flat_map (due_curve curves dues shown heads) lines ++ codes "</g>\n") (omega arith)
    (both 29688 5 (flat_map (due_curve curves dues shown heads) lines) (codes "</g>\n") thin (omega arith))

-- ---- their names

-- a line of a picture, whose ends are in the plot
record IsDrawn (line : PlotLine) : Type 0 where
  pub height : line.height ≤ 4600
  pub place : line.place ≤ 4600

leader-short : (line : PlotLine) → IsDrawn line → length (leader line) ≤ 50
leader-short line drawn =
    both 14 36 (codes "<path d='M770 ") (tenths line.height ++ (codes "L784 "
    ++ (tenths line.place ++ (codes "' stroke='" ++ (colour line.style ++ codes "'/>\n"))))) (omega arith)
    (both 5 31 (tenths line.height) (codes "L784 " ++ (tenths line.place ++ (codes "' stroke='"
    ++ (colour line.style ++ codes "'/>\n")))) (tenths-short line.height (omega (arith, drawn.height)))
    (both 5 26 (codes "L784 ") (tenths line.place ++ (codes "' stroke='" ++ (colour line.style ++ codes "'/>\n")))
    (omega arith)
    (both 5 21 (tenths line.place) (codes "' stroke='" ++ (colour line.style ++ codes "'/>\n"))
    (tenths-short line.place (omega (arith, drawn.place)))
    (both 10 11 (codes "' stroke='") (colour line.style ++ codes "'/>\n") (omega arith)
    (both 7 4 (colour line.style) (codes "'/>\n") (colour-short line.style) (omega arith))))))

module _ (names : List (List ℕ)) (short : All (λ (name : List ℕ). length name ≤ 16) names) where
  name-short : (thread : ℕ) → length (name_of names thread) ≤ 16
  name-short thread = at (at_number names thread) refl
    where
      at : (o : Option (List ℕ)) → at_number names thread ≡ o → length (unwrap_or o (codes "others")) ≤ 16
      at None is = omega arith
      at (Some name) is = found thread is
        where
          found : (n : ℕ) → at_number names n ≡ Some name → length name ≤ 16
          found zero there = cc
          found (suc i) there =
              let at_place = sym (at_number-suc names i) ∙ there in
              subst (λ (xs : List ℕ). length xs ≤ 16) (get_or_from_slice_get names i name name at_place)
              (short i name (slice_get_within names i name at_place))

  name_text-short : (all : ℕ) (line : PlotLine) → IsDrawn line → length (name_text names all line) ≤ 126
  name_text-short all line drawn =
      let name = escaped (name_of names line.thread) in
      let share = tenths (share_of all line.ticks) in
      let named : length name ≤ 80 = omega (arith, escaped-short (name_of names line.thread), name-short line.thread) in
      both 17 109 (codes "<text x='788' y='")
      (tenths line.place ++ (codes "' dy='4'>" ++ (name ++ (codes " " ++ (share ++ codes "%</text>\n"))))) (omega arith)
      (both 5 104 (tenths line.place) (codes "' dy='4'>" ++ (name ++ (codes " " ++ (share ++ codes "%</text>\n"))))
      (tenths-short line.place (omega (arith, drawn.place)))
      (both 9 95 (codes "' dy='4'>") (name ++ (codes " " ++ (share ++ codes "%</text>\n"))) (omega arith)
      (both 80 15 name (codes " " ++ (share ++ codes "%</text>\n")) named
      (both 1 14 (codes " ") (share ++ codes "%</text>\n") (omega arith)
      (both 5 9 share (codes "%</text>\n") (tenths-short (share_of all line.ticks) (omega arith)) (omega arith))))))

  label-short : (all : ℕ) (line : PlotLine) → IsDrawn line → length (label names all line) ≤ 176
  label-short all line drawn =
      both 50 126 (leader line) (name_text names all line) (leader-short line drawn) (name_text-short all line drawn)

-- ---- the lines of a selection

lines-many : (most style least : ℕ) (shown : List Standing) → length (lines_after most style least shown) ≡ length shown
lines-many most style least [] = refl
lines-many most style least (s ∷ shown) =
    ap (λ n. suc n) (lines-many most (style + 1) (place_of least (height_of most s.ticks) (length shown) + 160) shown)

lines-high : (most style least : ℕ) (shown : List Standing)
    → All (λ (line : PlotLine). line.height ≤ 4600) (lines_after most style least shown)
lines-high most style least [] = All-nil (λ (line : PlotLine). line.height ≤ 4600)
lines-high most style least (s ∷ shown) = All-cons (λ (line : PlotLine). line.height ≤ 4600) _ _ (omega arith)
    (lines-high most (style + 1) (place_of least (height_of most s.ticks) (length shown) + 160) shown)

-- ---- the picture

head-short : (width : ℕ) (title : List ℕ) → width ≤ 1040 → length (head width title) ≤ 300 + 10 * length title
head-short width title narrow =
    let t = length title in
    let text : length (escaped title) ≤ 5 * t = omega (arith, escaped-short title) in
    let number : length (decimal width) ≤ 4 =
    length-decimal-le 4 width (omega arith) (omega (arith, narrow)) (omega (arith, narrow)) in
    let first = codes "<svg xmlns='http://www.w3.org/2000/svg' width='" in
    let second = codes "' height='540' viewBox='0 0 " in
    let third = codes " 540' role='img' aria-labelledby='title' font-family='sans-serif' font-size='12' fill='#222222'>\n<title id='title'>" in
    let fourth = codes "</title>\n<rect width='" in
    let fifth = codes "' height='540' fill='#ffffff'/>\n<text x='100' y='34' font-size='18'>" in
    let last = codes "</text>\n" in
    let shown = escaped title ++ last in
    let named = escaped title ++ (fourth ++ (decimal width ++ (fifth ++ shown))) in
    let one = both (5 * t) 8 (escaped title) last text (omega arith) in
    let two = both 68 (5 * t + 8) fifth shown (omega arith) one in
    let three = both 4 (68 + (5 * t + 8)) (decimal width) (fifth ++ shown) number two in
    let four = both 22 (4 + (68 + (5 * t + 8))) fourth (decimal width ++ (fifth ++ shown)) (omega arith) three in
    let five = both (5 * t) (22 + (4 + (68 + (5 * t + 8)))) (escaped title)
    (fourth ++ (decimal width ++ (fifth ++ shown))) text four in
    let six = both 115 (5 * t + (22 + (4 + (68 + (5 * t + 8))))) third named (omega arith) five in
    let seven = both 4 (115 + (5 * t + (22 + (4 + (68 + (5 * t + 8)))))) (decimal width) (third ++ named) number six in
    let eight = both 28 (4 + (115 + (5 * t + (22 + (4 + (68 + (5 * t + 8))))))) second
    (decimal width ++ (third ++ named)) (omega arith) seven in
    let nine = both 4 (28 + (4 + (115 + (5 * t + (22 + (4 + (68 + (5 * t + 8)))))))) (decimal width)
    (second ++ (decimal width ++ (third ++ named))) number eight in
    let ten = both 47 (4 + (28 + (4 + (115 + (5 * t + (22 + (4 + (68 + (5 * t + 8))))))))) first
    (decimal width ++ (second ++ (decimal width ++ (third ++ named)))) (omega arith) nine in
    omega (arith, ten)

chart-short : (title : List ℕ) (dues : Option Dues) (curves : Curves) (n m : ℕ)
    → ((heads : List ℕ) (lines : List PlotLine) → length lines ≤ 12
    → length (due_curves curves dues (selection curves).shown heads lines) ≤ m)
    → All (λ (name : List ℕ). length name ≤ 16) curves.names → curves.origin < 2 ^ 56
    → unwrap_or curves.window 0 < 2 ^ 32 → length (command_marks curves) ≤ n
    → length (chart title dues curves) ≤ 34000 + n + m + 10 * length title
unfolding picture
chart-short title dues curves n m thin short early narrow marks =
    let shown = (selection curves).shown in
    let others = (selection curves).others in
    let most = most_shown curves dues shown in
    let lines = lines_in curves most (selection curves) in
    let top = top_at curves most (last_end curves.stretches) in
    let heads = tops curves most in
    let many = lines-many top 0 600 shown in
    let few = shown-few curves in
    let drawn : All (λ (line : PlotLine). length (label curves.names (total curves) line) ≤ 176) lines =
    λ k d below. label-short curves.names short (total curves) (get_or lines k d)
    (record { height = lines-high top 0 600 shown k d below; place = names-within top shown few k d below }) in
    let curved : length (flat_map (curve curves others heads) lines) ≤ 29688 = omega
    (arith, all-short (curve curves others heads) 2474 lines (λ k d below. curve-short curves others heads (get_or lines k d)), many, few) in
    let named : length (flat_map (label curves.names (total curves)) lines) ≤ 2112 =
    omega (arith, all-short (label curves.names (total curves)) 176 lines drawn, many, few) in
    let end = both 2112 7 (flat_map (label curves.names (total curves)) lines) (codes "</svg>\n") named (omega arith) in
    let four = both 5 2119 (codes "</g>\n") (flat_map (label curves.names (total curves)) lines ++ codes "</svg>\n")
    (omega arith) end in
    let three = both 29688 2124 (flat_map (curve curves others heads) lines)
    (codes "</g>\n" ++ (flat_map (label curves.names (total curves)) lines ++ codes "</svg>\n")) curved four in
    let two = both 57 31812 (codes "<g fill='none' stroke-width='2' stroke-linejoin='round'>\n")
    (flat_map (curve curves others heads) lines ++ (codes "</g>\n"
    ++ (flat_map (label curves.names (total curves)) lines ++ codes "</svg>\n"))) (omega arith) three in
    let behind = due_curves curves dues shown heads lines in
    let due = both m 31869 behind
    (codes "<g fill='none' stroke-width='2' stroke-linejoin='round'>\n" ++ (flat_map (curve curves others heads) lines
    ++ (codes "</g>\n" ++ (flat_map (label curves.names (total curves)) lines ++ codes "</svg>\n"))))
    (thin heads lines (omega (arith, many, few))) two in
    let one = both (1639 + n) (m + 31869) (axes curves most) (behind
    ++ (codes "<g fill='none' stroke-width='2' stroke-linejoin='round'>\n" ++ (flat_map (curve curves others heads)
    lines ++ (codes "</g>\n" ++ (flat_map (label curves.names (total curves)) lines ++ codes "</svg>\n")))))
    (axes-short curves most n early narrow marks) due in
    let width = width_for (longest_name curves.names lines) (length title) in
    let whole = both (300 + 10 * length title) (1639 + n + (m + 31869)) (head width title) (axes curves most ++ (behind
    ++ (codes "<g fill='none' stroke-width='2' stroke-linejoin='round'>\n" ++ (flat_map (curve curves others heads)
    lines ++ (codes "</g>\n" ++ (flat_map (label curves.names (total curves)) lines ++ codes "</svg>\n"))))))
    (head-short width title (omega arith)) one in
    omega (arith, whole)

-- without what is due
none-due : (curves : Curves) (shown : List Standing) (heads : List ℕ) (lines : List PlotLine) → length lines ≤ 12
    → length (due_curves curves None shown heads lines) ≤ 0
none-due curves shown heads lines few = omega arith

pub chart-plain : (title : List ℕ) (curves : Curves) → curves.commands ≡ []
    → All (λ (name : List ℕ). length name ≤ 16) curves.names → curves.origin < 2 ^ 56
    → unwrap_or curves.window 0 < 2 ^ 32
    → length (chart title None curves) ≤ 34000 + 10 * length title
chart-plain title curves none short early narrow = omega
    (arith, chart-short title None curves 0 0 (none-due curves (selection curves).shown) short early narrow (marks-none curves none))

pub chart-marked : (title : List ℕ) (curves : Curves) → All (λ time. time < 2 ^ 32) curves.commands
    → All (λ (name : List ℕ). length name ≤ 16) curves.names → curves.origin < 2 ^ 56
    → unwrap_or curves.window 0 < 2 ^ 32
    → length (chart title None curves) ≤ 107000 + 10 * length title
chart-marked title curves small short early narrow = omega
    (arith, chart-short title None curves 72468 0 (none-due curves (selection curves).shown) short early narrow (marks-short_each curves small))

pub chart-due : (title : List ℕ) (dues : Option Dues) (curves : Curves) → All (λ time. time < 2 ^ 32) curves.commands
    → All (λ (name : List ℕ). length name ≤ 16) curves.names → curves.origin < 2 ^ 56
    → unwrap_or curves.window 0 < 2 ^ 32
    → length (chart title dues curves) ≤ 137000 + 10 * length title
chart-due title dues curves small short early narrow = omega
    (arith, chart-short title dues curves 72468 29771 (due_curves-short curves dues (selection curves).shown) short early narrow (marks-short_each curves small))
