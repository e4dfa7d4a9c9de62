-- Figures over one more play.
use Rattle.std.proofs.lemmas.List.{get_or-replicate, length-replicate}
use Rattle.lot_system.proofs.Common.{AllFigures, AreAllFigures, AreChanged, AreMany, AreOneMore, AreOver, AreOverOneMore, Cell, Currency, Figures, HasMade, InTime, IsAtEnd, IsChangedAt, IsInOrder, IsOver, IsSome, List, Moment, None, Option, Order, Processor, Program, Scheduled, Seen, Some, Spread, Stage, Subject, Thread, Timekeeper, Total, World, [], add-mul, add-mul-div_right, all_ticks, ap, arith, cases_eq, div-add-mod', drop, ended_at, false, figures_after, figures_in, figures_over, figures_played, fold_push, if◌then◌else◌, inl, inr, last_moment, last_world, length, made_in, min, moment_after_all, most_of, moment_in, mul_assoc, mul_comm, ne_eqb, no_figures, opening_moment, percent_of, program_turns, range_with_len, refl, replicate, scheduled_told, seeds_between, slice_index_or, slice_set, spread_after, spreads_after, subst, suc, sym, take, tick_parts, ticks_in, time-end, timed_turns, told_at_end, told_in, told_played, total_of, true, turns_left, turns_made, with_seed, zero, ℕ, ◌%◌, ◌*◌, ◌++◌, ◌+◌, ◌-◌, ◌/◌, ◌<◌, ◌∙◌, ◌∷◌, ◌≡◌, ◌≢◌, ◌≤◌, ◌⊎◌}
use Rattle.lot_system.proofs.ListingFacts.{numbers-push}

-- ---- all subjects

-- what holds of each
pub of-each : (P : Subject → Type 0) → P Thread → P Currency → P Processor → P Total → (subject : Subject) → P subject
of-each P thread currency processor total Thread = thread
of-each P thread currency processor total Currency = currency
of-each P thread currency processor total Processor = processor
of-each P thread currency processor total Total = total

none-are : (subject : Subject) (program : Program) (figures : List Figures)
    → figures ≡ replicate (most_of subject program) no_figures → AreOver subject program [] figures
none-are subject program figures is =
    let many : length figures ≡ most_of subject program = ap length is
    ∙ length-replicate (most_of subject program) no_figures in
    record {
      many = many;
      each = λ place d below. ap (λ (fs : List Figures). slice_index_or fs place d) is
          ∙ get_or-replicate (most_of subject program) place no_figures d (omega (arith, below, many));
    }

-- the figures over no plays
pub over-none : (program : Program) (all : AllFigures)
    → ((subject : Subject) → figures_in all subject ≡ replicate (most_of subject program) no_figures)
    → AreAllFigures program [] all
over-none program all are = record { are = λ subject. none-are subject program (figures_in all subject) (are subject) }

-- as many figures as subjects
pub many-are : (program : Program) (seeds : List ℕ) (all : AllFigures) → AreAllFigures program seeds all
    → AreMany program all
many-are program seeds all over = record { are = λ subject. (over.are subject).many }

-- the same with another seed
pub seeded-many : (program : Program) (seed : ℕ) (all : AllFigures) → AreMany program all
    → AreMany (with_seed (Some seed) program) all
seeded-many program seed all many = record {
  are = of-each (λ (subject : Subject). length (figures_in all subject) ≡ most_of subject
      (with_seed (Some seed) program)) (many.are Thread) (many.are Currency) (many.are Processor) (many.are Total);
}

-- ---- changes

-- a change as this function says is one as an equal function says
pub changed-as : (after other : ℕ → Figures → Figures) (old new : List Figures)
    → ((n : ℕ) (figures : Figures) → after n figures ≡ other n figures) → AreChanged after old new
    → AreChanged other old new
changed-as after other old new same changed = record {
  count = changed.count;
  each = λ place d below. changed.each place d below ∙ same (place + 1) (slice_index_or old place d);
}

-- the figures of the places before one more, whose figures have changed
pub rows-more : (after : ℕ → Figures → Figures) (at : ℕ) (first old new : List Figures)
    → IsChangedAt at (after (at + 1)) old new
    → ((place : ℕ) (d : Figures) → place < at
    → slice_index_or old place d ≡ after (place + 1) (slice_index_or first place d))
    → ((place : ℕ) (d : Figures) → at ≤ place → slice_index_or old place d ≡ slice_index_or first place d)
    → (place : ℕ) (d : Figures) → place < at + 1
    → slice_index_or new place d ≡ after (place + 1) (slice_index_or first place d)
rows-more after at first old new changed done others place d below = by (cases_eq place at)
  where
    by : (place ≡ at) ⊎ (place ≢ at) → slice_index_or new place d ≡ after (place + 1) (slice_index_or first place d)
    by (inl here) =
        rw here (changed.there d ∙ ap (λ (figures : Figures). after (at + 1) figures) (others at d (omega arith)))
    by (inr off) = changed.others place d off ∙ done place d (omega (arith, below, off))

-- those after it
pub rows-left : (after : ℕ → Figures → Figures) (at : ℕ) (first old new : List Figures)
    → IsChangedAt at (after (at + 1)) old new
    → ((place : ℕ) (d : Figures) → at ≤ place → slice_index_or old place d ≡ slice_index_or first place d)
    → (place : ℕ) (d : Figures) → at + 1 ≤ place → slice_index_or new place d ≡ slice_index_or first place d
rows-left after at first old new changed others place d above =
    changed.others place d (λ here. absurd (let wrong : at + 1 ≤ at = omega (arith, above, here) in
    omega (arith, wrong))) ∙ others place d (omega (arith, above))

-- ---- the end of a play

module _ (program : Program) (seen : Seen) (has : HasMade program (program_turns program) seen) where
  module _ (timekeeper : Timekeeper) (there : IsInOrder seen (InTime timekeeper)) (over : IsAtEnd seen timekeeper)
      (subject : Subject) (n : ℕ) where
    moment-is : moment_in seen timekeeper ≡ last_moment program
    moment-is = over.followed.moment ∙ ap (moment_after_all (opening_moment seen.setting.program)) over.all
        ∙ ap last_moment has.program_is

    timed-told : (d : Option ℕ) → program.duration ≡ d → IsSome d → told_in (last_moment program)
        (ended_at program (last_moment program)) (timed_turns program) subject n ≡ told_played program subject n
    timed-told (Some k) is some = rw is refl
    timed-told None is wrong = absurd (let e : false ≡ true = wrong in cc)

    told-in-time : told_at_end seen (InTime timekeeper) subject n ≡ told_played program subject n
    told-in-time =
        ap (λ (m : Moment). told_in m (ended_at seen.setting.program m) (timed_turns seen.setting.program) subject n)
        moment-is
        ∙ ap (λ (p : Program).
        told_in (last_moment program) (ended_at p (last_moment program)) (timed_turns p) subject n) has.program_is
        ∙ timed-told program.duration refl (subst (λ (p : Program). IsSome p.duration) has.program_is there.timed)

  untimed-told : program.duration ≡ None → (subject : Subject) (n : ℕ)
      → scheduled_told (last_world program).state (all_ticks program) subject n ≡ told_played program subject n
  untimed-told is subject n = rw is refl

  -- what the report tells of a subject at the end of the program's play
  pub told-is : (order : Order) (subject : Subject) (n : ℕ) → IsOver seen order
      → told_at_end seen order subject n ≡ told_played program subject n
  told-is (Scheduled place) subject n over =
      let untimed : program.duration ≡ None = ap (λ (p : Program). p.duration) (sym has.program_is)
      ∙ over.there.untimed in
      let ticks : total_of ticks_in (turns_made seen.setting.program seen.history) ≡ total_of ticks_in (turns_made
      program seen.history) = ap (λ (p : Program). total_of ticks_in (turns_made p seen.history)) has.program_is in
      ap (λ (w : World).
      scheduled_told w.state (total_of ticks_in (turns_made seen.setting.program seen.history)) subject n) has.world
      ∙ ap (λ all. scheduled_told (last_world program).state all subject n) (ticks ∙ ap (total_of ticks_in) has.counted)
      ∙ untimed-told untimed subject n
  told-is (InTime timekeeper) subject n over =
      told-in-time timekeeper over.there (time-end seen timekeeper over.there over.ended) subject n

  -- all figures after the program's play
  pub all-are : (order : Order) (old new : AllFigures) → IsOver seen order
      → ((subject : Subject) → AreChanged (λ n. figures_after (told_at_end seen order subject n))
      (figures_in old subject) (figures_in new subject)) → AreOverOneMore program old new
  all-are order old new over added = record {
    are = λ subject. changed-as (λ n. figures_after (told_at_end seen order subject n))
        (λ n figures. figures_played subject n figures program) (figures_in old subject) (figures_in new subject)
        (λ n figures. ap (λ told. figures_after told figures) (told-is order subject n over)) (added subject);
  }

-- the parts of a playback without further turns are over
pub over-at-end : (playback : Stage) (seen : Seen) (order : Order) → seen ≡ playback.seen
    → made_in seen order ≡ playback.made → IsInOrder seen order → turns_left playback ≡ [] → IsOver seen order
over-at-end playback seen order system made there none = record {
  there = there;
  ended = ap (λ n. turns_left (record { seen = seen; made = n })) made
      ∙ ap (λ (s : Seen). turns_left (record { seen = s; made = playback.made })) system ∙ none;
}

-- ---- several plays

module _ (subject : Subject) (program : Program) where
  one-more : (seeds : List ℕ) (seed n : ℕ) → figures_over subject program (seeds ++ seed ∷ []) n
      ≡ figures_played subject n (figures_over subject program seeds n) (with_seed (Some seed) program)
  one-more seeds seed n = fold_push (λ (figures : Figures) (s : ℕ).
      figures_played subject n figures (with_seed (Some s) program)) no_figures seeds seed

  -- the figures over one more play
  are-more : (seeds : List ℕ) (seed : ℕ) (old new : List Figures) → AreOver subject program seeds old
      → AreOneMore subject (with_seed (Some seed) program) old new → AreOver subject program (seeds ++ seed ∷ []) new
  are-more seeds seed old new are changed = record {
    many = changed.count ∙ are.many;
    each = λ place d below.
        let there : place < length old = omega (arith, below, changed.count) in
        changed.each place d there ∙ ap (λ (figures : Figures). figures_played subject (place + 1) figures
        (with_seed (Some seed) program)) (are.each place d there) ∙ sym (one-more seeds seed (place + 1));
  }

-- all figures over one more play
pub all-more : (program : Program) (seeds : List ℕ) (seed : ℕ) (old new : AllFigures) → AreAllFigures program seeds old
    → AreOverOneMore (with_seed (Some seed) program) old new → AreAllFigures program (seeds ++ seed ∷ []) new
all-more program seeds seed old new all one =
    record { are = λ subject. are-more subject program seeds seed (figures_in old subject) (figures_in new subject) (all.are subject) (one.are subject) }

-- the seeds up to one more
pub between-more : (first number : ℕ) → first < number
    → seeds_between first (number - 1) ++ number ∷ [] ≡ seeds_between first number
between-more first number above =
    let count : number - first ≡ suc (number - 1 - first) = omega arith in
    let last : first + 1 + (number - 1 - first) ≡ number = omega arith in
    ap (λ ns. first ∷ ns) (sym (ap (λ n. range_with_len (first + 1) n) count ∙ numbers-push (first + 1)
    (number - 1 - first) ∙ ap (λ n. range_with_len (first + 1) (number - 1 - first) ++ n ∷ []) last))

-- the first seed alone
pub between-first : (first last : ℕ) → last ≡ first → first ∷ [] ≡ seeds_between first last
between-first first last is =
    let none : last - first ≡ 0 = omega (arith, is) in
    ap (λ n. first ∷ range_with_len (first + 1) n) (sym none)

-- ---- the spreads of a subject's columns

-- those with one more cell
spreads-more : (old : List Spread) (cells : List Cell) (place : ℕ) (d : Spread) (e : Cell) → place < length old
    → place < length cells
    → slice_set (take place (spreads_after old cells) ++ drop place old) place
    (spread_after (slice_index_or old place d) (slice_index_or cells place e)) ≡ take (suc place)
    (spreads_after old cells) ++ drop (suc place) old
spreads-more [] cells place d e below there = absurd (omega (arith, below))
spreads-more (s ∷ ss) [] place d e below there = absurd (omega (arith, there))
spreads-more (s ∷ ss) (x ∷ xs) zero d e below there = refl
spreads-more (s ∷ ss) (x ∷ xs) (suc place) d e below there =
    ap (λ rest. spread_after s x ∷ rest) (spreads-more ss xs place d e (omega (arith, below)) (omega (arith, there)))

-- the place that follows keeps its spread
spreads-there : (old : List Spread) (cells : List Cell) (place : ℕ) (d : Spread) → place < length old
    → place < length cells
    → slice_index_or (take place (spreads_after old cells) ++ drop place old) place d ≡ slice_index_or old place d
spreads-there [] cells place d below there = absurd (omega (arith, below))
spreads-there (s ∷ ss) [] place d below there = absurd (omega (arith, there))
spreads-there (s ∷ ss) (x ∷ xs) zero d below there = refl
spreads-there (s ∷ ss) (x ∷ xs) (suc place) d below there =
    spreads-there ss xs place d (omega (arith, below)) (omega (arith, there))

-- those with all cells
pub spreads-all : (old : List Spread) (cells : List Cell) (place : ℕ) → place ≡ min (length old) (length cells)
    → take place (spreads_after old cells) ++ drop place old ≡ spreads_after old cells
spreads-all [] cells place is = let none : place ≡ 0 = omega (arith, is) in rw none refl
spreads-all (s ∷ ss) [] place is = let none : place ≡ 0 = omega (arith, is) in rw none refl
spreads-all (s ∷ ss) (x ∷ xs) zero is = absurd (omega (arith, is))
spreads-all (s ∷ ss) (x ∷ xs) (suc place) is =
    ap (λ rest. spread_after s x ∷ rest) (spreads-all ss xs place (omega (arith, is)))

-- the next spread is written to its place
pub spreads-next : (old now : List Spread) (cells : List Cell) (place : ℕ) (d : Spread) (e : Cell) (value : Spread)
    → now ≡ take place (spreads_after old cells) ++ drop place old → place < length old → place < length cells
    → value ≡ spread_after (slice_index_or now place d) (slice_index_or cells place e)
    → slice_set now place value ≡ take (place + 1) (spreads_after old cells) ++ drop (place + 1) old
spreads-next old now cells place d e value is below there one =
    let cell = slice_index_or cells place e in
    let next : value ≡ spread_after (slice_index_or old place d) cell =
    one ∙ ap (λ (ss : List Spread). spread_after (slice_index_or ss place d) cell) is
    ∙ ap (λ (s : Spread). spread_after s cell) (spreads-there old cells place d below there) in
    let more : suc place ≡ place + 1 = omega arith in
    ap (λ (ss : List Spread). slice_set ss place value) is ∙ ap (slice_set
    (take place (spreads_after old cells) ++ drop place old) place) next ∙ spreads-more old cells place d e below there
    ∙ ap (λ n. take n (spreads_after old cells) ++ drop n old) more

-- ---- parts

-- a thousandfold is divided as its thousandth: first the number, and then the rest a thousandfold
pub divided-twice : (n whole : ℕ) → 0 < whole → n / whole * 1000 + n % whole * 1000 / whole ≡ n * 1000 / whole
divided-twice n whole some =
    let parts : n * 1000 ≡ n % whole * 1000 + n / whole * 1000 * whole =
    omega (arith, div-add-mod' n whole, mul_assoc (n / whole) 1000 whole, mul_assoc (n / whole) whole 1000, mul_comm whole 1000, add-mul (n / whole * whole) (n % whole) 1000, ap (λ k. n / whole * k) (mul_comm whole 1000), ap (λ k. k * 1000) (div-add-mod' n whole)) in
    sym
    (ap (λ k. k / whole) parts ∙ add-mul-div_right (n % whole * 1000) (n / whole * 1000) {z = whole} some ∙ omega arith)

percent-some : (part whole : ℕ) → 0 < whole → part * 100000 / whole ≡ percent_of part whole
percent-some part whole some = ap (λ b. if b then 0 else part * 100000 / whole)
    (sym (ne_eqb whole 0 (λ none. absurd (let wrong : 0 < 0 = subst (λ n. 0 < n) none some in omega (arith, wrong)))))

-- the percentage of parts of a tick, in steps
pub due-percent : (due time : ℕ) → 0 < time → due * 100 / (time * tick_parts) * 1000 + due * 100 % (time * tick_parts)
    * 1000 / (time * tick_parts) ≡ percent_of due (time * tick_parts)
due-percent due time some =
    let whole = time * tick_parts in
    let there : 0 < whole = omega (arith, some) in
    let hundred : due * 100 * 1000 ≡ due * 100000 = omega arith in
    divided-twice (due * 100) whole there ∙ ap (λ n. n / whole) hundred ∙ percent-some due whole there
