-- Names that don't overlap.
use Rattle.lot_chart.proofs.Common.{All, All-cons, All-nil, AreColumns, Bool, By, Currency, Curves, List, PlotLine, Standing, Thread, Ticks, arith, cond, false, first_selected, get_or, get_or-take, had_in, height_of, if◌then◌else◌, last_end, leb-true, length, length-take, lines_after, lines_of, map, nat_le, nat_lt, other_stretches, place_of, ranked, ranked_after, refl, row_at, selected, selection, subst, suc, sym, take, true, with_others, with_standing, zero, ℕ, [], ◌*◌, ◌+◌, ◌<◌, ◌∷◌, ◌≡◌, ◌≤◌}

-- ---- how many lines there are

pub length-with_standing : (standings : List Standing) (new : Standing)
    → length (with_standing standings new) ≡ length standings + 1
length-with_standing [] new = refl
length-with_standing (s ∷ standings) new = at (nat_lt s.ticks new.ticks) (length-with_standing standings new)
  where
    at : (b : Bool) → length (with_standing standings new) ≡ length standings + 1
        → length (cond b (new ∷ s ∷ standings) (s ∷ with_standing standings new)) ≡ length (s ∷ standings) + 1
    at true more = omega arith
    at false more = omega (arith, more)

others-more : (curves : Curves) (first : List Standing) → length (with_others curves first).shown ≡ length first + 1
others-more curves first = length-with_standing first
    (record { thread = 0; ticks = had_in Ticks curves.window (last_end curves.stretches) (other_stretches first curves.stretches) })

first-few : (what : By) (curves : Curves) (all : List Standing) → length (first_selected what curves all).shown ≤ 12
first-few Thread curves all = omega (arith, others-more curves (take 11 all), length-take 11 all)
first-few Currency curves all = omega (arith, length-take 12 all)

selected-few : (curves : Curves) (all : List Standing) → length (selected curves all).shown ≤ 12
selected-few curves all = at (nat_le (length all) 12) refl
  where
    at : (b : Bool) → nat_le (length all) 12 ≡ b
        → length (cond b (record { shown = all; others = [] }) (first_selected curves.by curves all)).shown ≤ 12
    at true few = leb-true (length all) 12 few
    at false many = first-few curves.by curves all

pub shown-few : (curves : Curves) → length (selection curves).shown ≤ 12
shown-few curves = selected-few curves (ranked (row_at Ticks curves (last_end curves.stretches)))

-- ---- where names stand

apart-after : (most style least : ℕ) (shown : List Standing) (i : ℕ) → i + 1 < length shown
    → get_or (map (λ (line : PlotLine). line.place) (lines_after most style least shown)) i 0 + 160
    ≤ get_or (map (λ (line : PlotLine). line.place) (lines_after most style least shown)) (i + 1) 0
apart-after most style least [] i below = absurd (omega (arith, below))
apart-after most style least (s ∷ []) i below = absurd (omega (arith, below))
apart-after most style least (s ∷ t ∷ shown) zero below = omega arith
apart-after most style least (s ∷ t ∷ shown) (suc i) below =
    let more : suc i + 1 ≡ suc (i + 1) = omega arith in
    rw more (apart-after most (style + 1) (place_of least (height_of most s.ticks) (length (t ∷ shown)) + 160)
    (t ∷ shown) i (omega (arith, below)))

pub names-apart : (most : ℕ) (shown : List Standing) (i : ℕ) → i + 1 < length shown
    → get_or (map (λ (line : PlotLine). line.place) (lines_of most shown)) i 0 + 160
    ≤ get_or (map (λ (line : PlotLine). line.place) (lines_of most shown)) (i + 1) 0
names-apart most shown i below = apart-after most 0 600 shown i below

within-after : (most style least : ℕ) (shown : List Standing) → least + 160 * length shown ≤ 4760
    → All (λ (line : PlotLine). line.place ≤ 4600) (lines_after most style least shown)
within-after most style least [] room = All-nil (λ (line : PlotLine). line.place ≤ 4600)
within-after most style least (s ∷ shown) room =
    All-cons (λ (line : PlotLine). line.place ≤ 4600) _ _ (omega (arith, room)) (within-after most (style + 1)
    (place_of least (height_of most s.ticks) (length shown) + 160) shown (omega (arith, room)))

pub names-within : (most : ℕ) (shown : List Standing) → length shown ≤ 12
    → All (λ (line : PlotLine). line.place ≤ 4600) (lines_of most shown)
names-within most shown few = within-after most 0 600 shown (omega (arith, few))

-- ---- numbers of columns

-- a number that isn't 0
abbrev IsNumbered : List Standing → Type 0
IsNumbered shown = All (λ s. 0 < s.thread) shown

with-numbered : (shown : List Standing) (new : Standing) → 0 < new.thread → IsNumbered shown
    → IsNumbered (with_standing shown new)
with-numbered [] new some all = All-cons (λ (s : Standing). 0 < s.thread) new [] some all
with-numbered (s ∷ shown) new some all =
    at (nat_lt s.ticks new.ticks) (with-numbered shown new some (λ k d below. all (suc k) d (omega (arith, below))))
  where
    at : (b : Bool) → IsNumbered (with_standing shown new)
        → IsNumbered (cond b (new ∷ s ∷ shown) (s ∷ with_standing shown new))
    at true rest = All-cons (λ (s : Standing). 0 < s.thread) new (s ∷ shown) some all
    at false rest = All-cons (λ (s : Standing). 0 < s.thread) s (with_standing shown new) (all 0 s (omega arith)) rest

ranked-numbered : (shown : List Standing) (thread : ℕ) (row : List ℕ) → 0 < thread → IsNumbered shown
    → IsNumbered (ranked_after shown thread row)
ranked-numbered shown thread [] some all = all
ranked-numbered shown thread (ticks ∷ row) some all =
    ranked-numbered (with_standing shown (record { thread = thread; ticks = ticks })) (thread + 1) row
    (omega (arith, some)) (with-numbered shown (record { thread = thread; ticks = ticks }) some all)

taken : (row : List ℕ) → IsNumbered (take 12 (ranked row))
taken row k d below =
    let few = length-take 12 (ranked row) in
    let all = ranked-numbered [] 1 row (omega arith) (All-nil (λ (s : Standing). 0 < s.thread)) in
    subst (λ (s : Standing). 0 < s.thread) (sym (get_or-take 12 (ranked row) k d (omega (arith, below, few))))
    (all k d (omega (arith, below, few)))

-- by currency no line of a picture is of number 0
pub taken-columns : (what : By) (row : List ℕ) → AreColumns what (take 12 (ranked row))
taken-columns Thread row place e below = tt
taken-columns Currency row place e below = taken row place e below

pub selected-columns : (curves : Curves) (row : List ℕ) → AreColumns curves.by (selected curves (ranked row)).shown
selected-columns curves row = by curves.by
  where
    all : IsNumbered (ranked row)
    all = ranked-numbered [] 1 row (omega arith) (All-nil (λ (s : Standing). 0 < s.thread))

    choice : (b : Bool) → IsNumbered
        (cond b (record { shown = ranked row; others = [] }) (first_selected Currency curves (ranked row))).shown
    choice true = all
    choice false = taken row

    by : (what : By) → AreColumns what (if nat_le (length (ranked row)) 12
        then record { shown = ranked row; others = [] } else first_selected what curves (ranked row)).shown
    by Thread place e below = tt
    by Currency place e below = choice (nat_le (length (ranked row)) 12) place e below
