-- The counts of turns are sums over them.
use Rattle.lot_station.proofs.Common.{ActorTurn, AddUp, All, Bool, CountsAddUp, List, Program, Reply, Seat, Seen, Shows, Some, World, ap, arith, beside, cond, count_in, false, idles_in, if◌then◌else◌, length, opening_world, quanta_in, refl, share, slice_get, suc, sum_by, sum_by-cons, summed, summed_by, sym, system_answers, system_turn, ticks_in, total_of, true, turns_made, turns_of, ℕ, [], ◌+◌, ◌==◌, ◌∙◌, ◌∷◌, ◌≡◌}
use Rattle.lot_station.proofs.BatonClosing.{all_at}

-- the turns that these actors make from this world
turns_from : Program → World → List ℕ → List ActorTurn
turns_from program w h = beside h (system_answers program w h)

-- what is counted in the actor's turn in this world
counted_at : (Reply → ℕ) → Program → World → ℕ → ℕ
counted_at count program w a = count_in count (system_turn program w a).answer

all_counted : (count : Reply → ℕ) (program : Program) (w : World) (h : List ℕ)
    → summed (counted_at count program) program w h ≡ total_of count (turns_from program w h)
unfolding turns_from counted_at
all_counted count program w [] = refl
all_counted count program w (a ∷ rest) =
    let first : ActorTurn = record { actor = a; answer = (system_turn program w a).answer } in
    let following = turns_from program (system_turn program w a).world rest in
    omega (arith, all_counted count program (system_turn program w a).world rest, sum_by-cons (λ turn. count_in count turn.answer) first following)

own_counted : (count : Reply → ℕ) (program : Program) (b : ℕ) (w : World) (h : List ℕ)
    → summed_by (counted_at count program) program b w h ≡ total_of count (turns_of b (turns_from program w h))
unfolding turns_from counted_at
own_counted count program b w [] = refl
own_counted count program b w (a ∷ rest) =
    kept (a == b) (record { actor = a; answer = (system_turn program w a).answer })
    (turns_of b (turns_from program (system_turn program w a).world rest))
    (summed_by (counted_at count program) program b (system_turn program w a).world rest)
    (own_counted count program b (system_turn program w a).world rest)
  where
    kept : (t : Bool) (turn : ActorTurn) (others : List ActorTurn) (n : ℕ) → n ≡ total_of count others
        → (if t then count_in count turn.answer else 0) + n ≡ total_of count (cond t (turn ∷ others) others)
    kept true turn others n is = omega (arith, is, sum_by-cons (λ y. count_in count y.answer) turn others)
    kept false turn others n is = omega (arith, is)

all_made : (program : Program) (w : World) (h : List ℕ)
    → summed (λ w a. 1) program w h ≡ length (turns_from program w h)
unfolding turns_from
all_made program w [] = refl
all_made program w (a ∷ rest) = omega (arith, all_made program (system_turn program w a).world rest)

own_made : (program : Program) (b : ℕ) (w : World) (h : List ℕ)
    → summed_by (λ w a. 1) program b w h ≡ length (turns_of b (turns_from program w h))
unfolding turns_from
own_made program b w [] = refl
own_made program b w (a ∷ rest) =
    kept (a == b) (record { actor = a; answer = (system_turn program w a).answer }) (turns_of b (turns_from program
    (system_turn program w a).world rest)) (summed_by (λ w a. 1) program b (system_turn program w a).world rest)
    (own_made program b (system_turn program w a).world rest)
  where
    kept : (t : Bool) (turn : ActorTurn) (others : List ActorTurn) (n : ℕ) → n ≡ length others
        → (if t then 1 else 0) + n ≡ length (cond t (turn ∷ others) others)
    kept true turn others n is = omega (arith, is)
    kept false turn others n is = omega (arith, is)

-- numbers that are the same of each seat have the same sum
same_sums : (f g : Seat → ℕ) (seats : List Seat) → ((k : ℕ) (s : Seat) → slice_get seats k ≡ Some s → f s ≡ g s)
    → sum_by f seats ≡ sum_by g seats
same_sums f g [] same = refl
same_sums f g (s ∷ seats) same =
    omega (arith, sum_by-cons f s seats, sum_by-cons g s seats, same 0 s refl, same_sums f g seats (λ k y e. same (suc k) y e))

made_by : (s : Seat) → share (λ w a. 1) s ≡ length (turns_of s.actor (turns_made s.seen.setting.program s.seen.history))
unfolding turns_from
made_by s = own_made s.seen.setting.program s.actor (opening_world s.seen.setting.program) s.seen.history

module _ (x : Seen) (seats : List Seat) (adds : AddUp x seats) (shows : All (Shows x) seats) where
  program : Program
  program = x.setting.program

  counted_by : (count : Reply → ℕ) (k : ℕ) (s : Seat) → slice_get seats k ≡ Some s → share (counted_at count program) s
      ≡ total_of count (turns_of s.actor (turns_made s.seen.setting.program s.seen.history))
  unfolding turns_from program
  counted_by count k s e =
      let own = s.seen.setting.program in
      let same : own ≡ x.setting.program = sym (ap (λ y. y.program) (all_at (Shows x) seats shows k s e).begins.0) in
      ap (λ p. summed_by (counted_at count p) own s.actor (opening_world own) s.seen.history) (sym same)
      ∙ own_counted count own s.actor (opening_world own) s.seen.history

  totals : (count : Reply → ℕ) → total_of count (turns_made x.setting.program x.history)
      ≡ sum_by (λ s. total_of count (turns_of s.actor (turns_made s.seen.setting.program s.seen.history))) seats
  unfolding turns_from program
  totals count =
      sym (all_counted count x.setting.program (opening_world x.setting.program) x.history)
      ∙ adds (counted_at count program)
      ∙ same_sums (share (counted_at count program)) (λ s.
      total_of count (turns_of s.actor (turns_made s.seen.setting.program s.seen.history))) seats (counted_by count)

  turns : length (turns_made x.setting.program x.history)
      ≡ sum_by (λ s. length (turns_of s.actor (turns_made s.seen.setting.program s.seen.history))) seats
  unfolding turns_from
  turns =
      sym (all_made x.setting.program (opening_world x.setting.program) x.history)
      ∙ adds (λ w a. 1)
      ∙ same_sums (share (λ w a. 1))
      (λ s. length (turns_of s.actor (turns_made s.seen.setting.program s.seen.history))) seats (λ k s e. made_by s)

  pub counts_add_up : CountsAddUp x seats
  counts_add_up = record { turns = turns; quanta = totals quanta_in; idles = totals idles_in; ticks = totals ticks_in }
