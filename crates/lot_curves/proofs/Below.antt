-- The stretches of turns by currency.
use Rattle.lot_curves.proofs.Common.{Answered, Bool, Draws, Ended, EndedTurn, List, Measure, None, Option, Program, Some, State, Stretch, Ticks, TimedTurn, TurnAnswer, ap, arith, cond, count_in, currencies_above, currency_numbers, currency_stretches_from, drop, ended_in_time, eq-eqb, eqb-true, false, filter, filter-append, had_in, in_column, length, length-drop, map, ne_eqb, opening, part_in, ran_below, range_with_len, refl, stretch_of, stretches_of, suc, sum-filter, sum-one, sum-same, sum_by, sum_by-cons, sym, ticks_below, ticks_in, timed_curves_by, timed_turns, total_at, true, turn_stretches, windowed, zero, ℕ, [], ◌++◌, ◌+◌, ◌<◌, ◌==◌, ◌∙◌, ◌∷◌, ◌≡◌, ◌≤◌}
use Rattle.lot_machine.specs.declared.reply.Reply.TheVariants as reply
use Rattle.lot_curves.specs.declared.by.By.TheVariants as by

-- the ticks of one column, of a stretch that is repeated in these
in-columns : (c : ℕ) (x : Stretch) (ds : List ℕ) → sum_by (λ (s : Stretch). s.ticks)
    (stretches_of c (map (λ d. in_column d x) ds)) ≡ sum_by (λ d. cond (d == c) x.ticks 0) ds
in-columns c x [] = refl
in-columns c x (d ∷ ds) = at (d == c) (in-columns c x ds) ∙ sym (sum_by-cons (λ d. cond (d == c) x.ticks 0) d ds)
  where
    rest : List Stretch
    rest = stretches_of c (map (λ d. in_column d x) ds)

    at : (b : Bool) → sum_by (λ (s : Stretch). s.ticks) rest ≡ sum_by (λ d. cond (d == c) x.ticks 0) ds
        → sum_by (λ (s : Stretch). s.ticks)
        (cond b (in_column d x ∷ rest) rest) ≡ cond b x.ticks 0 + sum_by (λ d. cond (d == c) x.ticks 0) ds
    at true more = sum_by-cons (λ (s : Stretch). s.ticks) (in_column d x) rest ∙ ap (λ n. x.ticks + n) more
    at false more = omega (arith, more)

-- what a reply has for a currency
has-below : (s : State) (c : ℕ) (answer : TurnAnswer)
    → cond (ran_below s answer c) (count_in ticks_in answer) 0 ≡ ticks_below s c answer
has-below s c Ended = refl
has-below s c (Answered e (reply.Ticket n)) = refl
has-below s c (Answered e (reply.Currency n)) = refl
has-below s c (Answered e (reply.Thread n)) = refl
has-below s c (Answered e (reply.Funded ticket thread)) = refl
has-below s c (Answered e reply.Done) = refl
has-below s c (Answered e (reply.Killed thread)) = refl
has-below s c (Answered e (reply.List kind)) = refl
has-below s c (Answered e (reply.Winner thread number total delivered)) = refl
has-below s c (Answered e reply.Idle) = refl
has-below s c (Answered e (reply.Expired thread ticks)) = refl
has-below s c (Answered e (reply.Trapped thread ticks came ends)) = refl
has-below s c (Answered e (reply.Refused why)) = refl

-- a turn's ticks count once for each currency that its thread stands below
pub column-ticks : (s : State) (turn : EndedTurn) (c : ℕ) → 1 ≤ c → c < length s.currencies
    → sum_by (λ (x : Stretch). x.ticks)
    (stretches_of c (turn_stretches by.Currency s turn)) ≡ ticks_below s c turn.answer
column-ticks s turn c low high =
    let test = ran_below s turn.answer in
    let ticks = count_in ticks_in turn.answer in
    let first : (0 == c) ≡ false = ne_eqb 0 c (λ e. omega (arith, e, low)) in
    let skip : stretches_of c (turn_stretches by.Currency s turn)
    ≡ stretches_of c (map (λ d. in_column d (stretch_of turn)) (currencies_above s turn.answer)) = rw first refl in
    ap (sum_by (λ (x : Stretch). x.ticks)) skip
    ∙ in-columns c (stretch_of turn) (currencies_above s turn.answer)
    ∙ sum-filter (λ d. cond (d == c) ticks 0) test (currency_numbers s)
    ∙ sum-same (λ d. cond (test d) (cond (d == c) ticks 0) 0) (λ d. cond (d == c) (cond (test c) ticks 0) 0)
    (currency_numbers s) (λ d. alone test ticks d (d == c) refl)
    ∙ sum-one (λ d. d == c) (cond (test c) ticks 0) c (λ d differs. ne_eqb d c differs) (eq-eqb c c refl) 1
    (length (drop 1 s.currencies)) low (omega (arith, high, length-drop 1 s.currencies))
    ∙ has-below s c turn.answer
  where
    nothing : (b : Bool) → cond {A = ℕ} b 0 0 ≡ 0
    nothing true = refl
    nothing false = refl

    alone : (test : ℕ → Bool) (ticks d : ℕ) (b : Bool) → (d == c) ≡ b
        → cond (test d) (cond (d == c) ticks 0) 0 ≡ cond (d == c) (cond (test c) ticks 0) 0
    alone test ticks d true e = let same : d ≡ c = eqb-true d c e in rw (e, same) refl
    alone test ticks d false e = rw e (nothing (test d))

-- ---- the whole

-- numbers of currencies begin at 1
none-whole : (x : Stretch) (test : ℕ → Bool) (a n : ℕ) → 1 ≤ a
    → stretches_of 0 (map (λ d. in_column d x) (filter test (range_with_len a n))) ≡ []
none-whole x test a zero some = refl
none-whole x test a (suc n) some = at (test a) (none-whole x test (a + 1) n (omega arith))
  where
    rest : List ℕ
    rest = filter test (range_with_len (a + 1) n)

    at : (b : Bool) → stretches_of 0 (map (λ d. in_column d x) rest) ≡ []
        → stretches_of 0 (map (λ d. in_column d x) (cond b (a ∷ rest) rest)) ≡ []
    at true none = let no : (a == 0) ≡ false = ne_eqb a 0 (λ e. omega (arith, e, some)) in rw no none
    at false none = none

module _ (measure : Measure) (window : Option ℕ) (tick : ℕ) where
  same-part : (measure : Measure) (window : Option ℕ) (n : ℕ) (x : Stretch)
      → part_in measure window tick (in_column n x) ≡ part_in measure window tick x
  same-part Ticks None n x = refl
  same-part Draws None n x = refl
  same-part Ticks (Some w) n x = refl
  same-part Draws (Some w) n x = refl

  whole-from : (s : State) (turns : List TimedTurn)
      → had_in measure window tick (stretches_of 0 (currency_stretches_from s turns))
      ≡ had_in measure window tick (map (λ done. stretch_of (ended_in_time done)) turns)
  whole-from s [] = refl
  whole-from s (done ∷ turns) =
      let x = stretch_of (ended_in_time done) in
      let columns = map (λ d. in_column d x) (currencies_above s done.turn.answer) in
      let others = currency_stretches_from done.turn.world.state turns in
      let part = part_in measure window tick in
      let split : stretches_of 0 (columns ++ others) ≡ stretches_of 0 others =
      filter-append (λ (y : Stretch). y.thread == 0) columns others ∙ ap (λ ys. ys ++ stretches_of 0 others)
      (none-whole x (ran_below s done.turn.answer) 1 (length (drop 1 s.currencies)) (omega arith)) in
      ap (λ ys. sum_by part (in_column 0 x ∷ ys)) split
      ∙ sum_by-cons part (in_column 0 x) (stretches_of 0 others)
      ∙ (λ i. same-part measure window 0 x i + whole-from done.turn.world.state turns i)
      ∙ sym (sum_by-cons part x (map (λ done. stretch_of (ended_in_time done)) turns))

-- the whole is the same by currency as by thread
pub same-whole : (measure : Measure) (program : Program) (window : Option ℕ) (tick : ℕ)
    → total_at measure (windowed window (timed_curves_by by.Currency program)) tick
    ≡ total_at measure (windowed window (timed_curves_by by.Thread program)) tick
same-whole measure program None tick = whole-from measure None tick (opening program.limits) (timed_turns program)
same-whole measure program (Some window) tick =
    whole-from measure (Some window) tick (opening program.limits) (timed_turns program)
