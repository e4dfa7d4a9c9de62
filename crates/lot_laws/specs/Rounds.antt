-- Rounds of a processor: a draw, and then the time that the winner runs (2.2, 3.4, 4.2).
use Rattle.std.specs.Prelude.{◌≡◌, ℕ, ◌+◌, ◌-◌, ◌<◌, ◌≤◌, ◌==◌, ◌&&◌, not, Bool, true, false, Option, Some, None, List, [], ◌∷◌, ◌++◌, length, codes, count_by, sum_by, option_and_then, if◌then◌else◌}
use Rattle.std.specs.List.{range_with_len}
use Rattle.lot_machine.specs.declared.event.Event.{Event}
use Rattle.lot_machine.specs.declared.event.Event.TheVariants.{Draw, Expire, Trap}
use Rattle.lot_machine.specs.declared.trap.Trap.TheVariants.{Yield}
use Rattle.lot_machine.specs.declared.record.Status.TheVariants.{Ready}
use Rattle.lot_machine.specs.declared.reply.Reply.{Reply}
use Rattle.lot_machine.specs.declared.reply.Reply.TheVariants.{Expired, Trapped}
use Rattle.lot_machine.specs.Numbered.{at_number}
use Rattle.lot_machine.specs.Lottery.{weight}
use Rattle.lot_machine.specs.State.{State, funding_of, live_of, status_of, thread_on, value_of, weight_of}
use Rattle.lot_machine.specs.Facts.{is_won_by, total_weight}
use Rattle.lot_machine.specs.Commands.{Step}
use Rattle.lot_machine.specs.Step.{is_bad_processor, step, replies, thread_there}
use Rattle.lot_machine.specs.Worked.{after, base, fundx}
use Rattle.lot_laws.specs.Fairness.{all_draws, thread_wins}

-- ---- what a reply says of a thread

-- the draws that the thread wins, by these replies
abbrev pub wins_of : ℕ → List Reply → ℕ
wins_of t answers = count_by (is_won_by t) answers

-- the ticks that the thread runs, by this reply: it is to the end of a quantum, a preemption or a trap
abbrev pub ticks_by : ℕ → Reply → ℕ
ticks_by t (Expired u ticks) = if u == t then ticks else 0
ticks_by t (Trapped u ticks outcome ends) = if u == t then ticks else 0
ticks_by t other = 0

-- the ticks that the thread runs, by these replies
abbrev pub ticks_of : ℕ → List Reply → ℕ
ticks_of t answers = sum_by (ticks_by t) answers

-- ---- rounds of whole quanta

-- the processor exists, nobody runs on it, and each Ready thread weighs its value, as without compensation (3.4, 4.2)
pub record IsBetweenRounds (s : State) (p : ℕ) : Type 0 where
  pub exists : is_bad_processor s p ≡ false
  pub free : thread_on s.records p ≡ None
  pub plain : (t : ℕ) → status_of s.records t ≡ Some Ready → weight_of s t ≡ value_of s t

-- the lottery stays: the same threads are Ready and live, with the same funding, weights and total
pub record IsSameLottery (before after : State) : Type 0 where
  pub statuses : (t : ℕ) → status_of after.records t ≡ status_of before.records t
  pub funding : funding_of after ≡ funding_of before
  pub live : live_of after ≡ live_of before
  pub weights : (t : ℕ) → weight_of after t ≡ weight_of before t
  pub total : total_weight after ≡ total_weight before

-- rounds of the processor: for each of these numbers a draw with it, and the end of the winner's quantum (4.2)
abbrev pub rounds : ℕ → List ℕ → List Event
rounds p [] = []
rounds p (d ∷ draws) = Draw p d ∷ Expire p ∷ rounds p draws

-- the rounds with these numbers that the thread wins
abbrev pub wins_in_rounds : State → ℕ → ℕ → List ℕ → ℕ
wins_in_rounds s p t draws = wins_of t (replies s (rounds p draws))

-- the ticks that the thread runs in the rounds with these numbers
abbrev pub ticks_in_rounds : State → ℕ → ℕ → List ℕ → ℕ
ticks_in_rounds s p t draws = ticks_of t (replies s (rounds p draws))

-- ---- parts of a quantum

-- the ticks by which the thread is compensated, if it is (3.4)
abbrev pub compensation_of : State → ℕ → Option ℕ
compensation_of s t = option_and_then (λ r. r.compensation) (at_number s.records t)

-- the amount is the whole, but for less than the part
pub record IsJustBelow (whole part amount : ℕ) : Type 0 where
  pub most : amount ≤ whole
  pub least : whole < amount + part

-- the ticks that the thread runs after a draw with this number whose winner yields after so many ticks (4.5)
abbrev pub ticks_in_part : State → ℕ → ℕ → ℕ → ℕ → ℕ
ticks_in_part s p t used d = ticks_of t (replies s (Draw p d ∷ Trap p (used - 1) Yield ∷ []))

-- the same, summed over all numbers of the draw
abbrev pub ticks_in_all_parts : State → ℕ → ℕ → ℕ → ℕ
ticks_in_all_parts s p t used = sum_by (ticks_in_part s p t used) (range_with_len 0 (total_weight s))

-- ---- slices of a quantum

-- The processor exists, and nobody runs on it. Each Ready thread has a slice of the quantum, and weighs as it does when
-- compensated for that slice (3.4).
pub record IsBetweenSlices (slices : ℕ → ℕ) (s : State) (p : ℕ) : Type 0 where
  pub exists : is_bad_processor s p ≡ false
  pub free : thread_on s.records p ≡ None
  pub compensates : s.limits.without_compensation ≡ false
  pub within : (t : ℕ) → status_of s.records t ≡ Some Ready → (0 < slices t) × (slices t ≤ s.limits.quantum)
  pub weighs : (t : ℕ) → status_of s.records t ≡ Some Ready
      → weight_of s t ≡ weight (value_of s t) (Some (slices t)) s.limits.quantum

-- the replies to rounds with these numbers in which each winner yields after its slice
abbrev pub replies_in_slices : (ℕ → ℕ) → State → ℕ → List ℕ → List Reply
replies_in_slices slices s p [] = []
replies_in_slices slices s p (d ∷ draws) =
    drawn.reply ∷ yielded.reply ∷ replies_in_slices slices yielded.state p draws
  where
    drawn : Step
    drawn = step s (Draw p d)

    yielded : Step
    yielded = step drawn.state (Trap p (slices (thread_there drawn.state p) - 1) Yield)

-- the ticks that the thread runs in such rounds, summed over all numbers that n of them may draw
abbrev pub ticks_in_all_slices : (ℕ → ℕ) → State → ℕ → ℕ → ℕ → ℕ
ticks_in_all_slices slices s p t n =
    sum_by (λ draws. ticks_of t (replies_in_slices slices s p draws)) (all_draws (total_weight s) n)

-- ---- draws between which anything happens

-- Whether the thread loses all draws with these numbers, where `before` gives the state before a draw from the numbers
-- drawn until then.
abbrev pub loses_all : (List ℕ → State) → ℕ → ℕ → List ℕ → Bool
loses_all before p t [] = true
loses_all before p t (d ∷ draws) =
    not (thread_wins (before []) p t d) && loses_all (λ earlier. before (d ∷ earlier)) p t draws

-- whatever the numbers, before each of n draws the thread is Ready, weighs at least this, and the total is at most that
pub record StaysReady (before : List ℕ → State) (t least most n : ℕ) : Type 0 where
  pub ready : (earlier : List ℕ) → length earlier < n → status_of (before earlier).records t ≡ Some Ready
  pub weight : (earlier : List ℕ) → length earlier < n → least ≤ weight_of (before earlier) t
  pub total : (earlier : List ℕ) → length earlier < n → total_weight (before earlier) ≤ most

-- ---- small cases

-- two threads, with 2 and 1 of base
abbrev pub two_and_one : List Event
two_and_one = fundx 2 base (codes "a") ∷ fundx 1 base (codes "b") ∷ []

-- the state `two_and_one` before the first draw, and before any later one with one more thread that has 1 of base
abbrev pub one_comes : List ℕ → State
one_comes [] = after two_and_one
one_comes (d ∷ draws) = after (two_and_one ++ fundx 1 base (codes "c") ∷ [])

-- two threads with 1 of base each: the first has yielded after half its quantum
abbrev pub half_and_whole : List Event
half_and_whole = fundx 1 base (codes "a") ∷ fundx 1 base (codes "b") ∷ Draw 1 0 ∷ Trap 1 49 Yield ∷ []

-- slices of half a quantum for the first thread, and of a whole one for any other
abbrev pub halving : ℕ → ℕ
halving t = if t == 1 then 50 else 100

-- a thread with 1 of base has yielded after 30 ticks
abbrev pub part_of_one : List Event
part_of_one = fundx 1 base (codes "a") ∷ Draw 1 0 ∷ Trap 1 29 Yield ∷ []
