-- The ticks and draws of turns, for their threads.
use Rattle.std.specs.Prelude.{ℕ, ◌-◌, min, max, ◌==◌, nat_le, Bool, false, List, [], ◌∷◌, filter, fold, map, sum_by, if◌then◌else◌}
use Rattle.lot_machine.specs.declared.reply.Reply.{Reply}
use Rattle.lot_machine.specs.declared.reply.Reply.TheVariants as reply
use Rattle.lot_machine.specs.State.{State}
use Rattle.lot_simulation.specs.Report.{count_in, quanta_in, ticks_in}
use Rattle.lot_simulation.specs.Below.{currency_numbers, stands_below}
use Rattle.lot_simulation.specs.World.{TurnAnswer}
use Rattle.lot_simulation.specs.World.TurnAnswer.{Answered}
use Rattle.lot_curves.specs.declared.by.By.{By}
use Rattle.lot_curves.specs.declared.by.By.TheVariants as by
use Rattle.lot_curves.specs.declared.stretch.Measure.{Measure}
use Rattle.lot_curves.specs.declared.stretch.Measure.TheVariants.{Ticks, Draws}
use Rattle.lot_curves.specs.declared.stretch.Stretch.{Stretch}
use Rattle.lot_curves.specs.OwnTimes.{EndedTurn}

-- the thread that won the draw, or that ran; 0 if there is none
abbrev pub charged_thread : Reply → ℕ
charged_thread (reply.Winner thread number total delivered) = thread
charged_thread (reply.Expired thread ticks) = thread
charged_thread (reply.Trapped thread ticks came ends) = thread
charged_thread other = 0

-- the stretch of a turn
abbrev pub stretch_of : EndedTurn → Stretch
stretch_of turn = record { thread = count_in charged_thread turn.answer; end = turn.time; ticks = count_in ticks_in turn.answer; draws = count_in quanta_in turn.answer }

-- whether the turn's thread ran, and stood below the currency in this state
abbrev pub ran_below : State → TurnAnswer → ℕ → Bool
ran_below s (Answered e (reply.Expired thread ticks)) c = stands_below s c thread
ran_below s (Answered e (reply.Trapped thread ticks came ends)) c = stands_below s c thread
ran_below s other c = false

-- the currencies other than base that the turn's thread ran below, in ascending order of number
abbrev pub currencies_above : State → TurnAnswer → List ℕ
currencies_above s answer = filter (ran_below s answer) (currency_numbers s)

-- the same stretch with this number
abbrev pub in_column : ℕ → Stretch → Stretch
in_column n s = record s { thread = n }

-- The stretches of a turn made in this state. By thread there is one. By currency there is one with number 0, of the
-- turn itself, and one more for each currency that its thread ran below.
abbrev pub turn_stretches : By → State → EndedTurn → List Stretch
turn_stretches by.Thread s turn = stretch_of turn ∷ []
turn_stretches by.Currency s turn =
    in_column 0 (stretch_of turn) ∷ map (λ c. in_column c (stretch_of turn)) (currencies_above s turn.answer)

-- the ticks or draws of a stretch up to this tick: its ticks except those after this one, or the draw if it was won
-- by then
abbrev pub part_at : Measure → ℕ → Stretch → ℕ
part_at Ticks tick s = s.ticks - (s.end - tick)
part_at Draws tick s = if nat_le s.end tick then s.draws else 0

-- A stretch between two ticks: its ticks after the first and up to the second, and its draw if it was won at the first
-- or later, and up to the second. Its end counts from the first.
abbrev pub stretch_between : ℕ → ℕ → Stretch → Stretch
stretch_between from to s = record {
  thread = s.thread;
  end = min s.end to - from;
  ticks = part_at Ticks to s - part_at Ticks from s;
  draws = if nat_le from s.end then part_at Draws to s else 0;
}

-- the sum of these stretches' ticks or draws up to this tick
abbrev pub had_at : Measure → ℕ → List Stretch → ℕ
had_at measure tick stretches = sum_by (part_at measure tick) stretches

-- the stretches of the threads or currencies that had this number
abbrev pub stretches_of : ℕ → List Stretch → List Stretch
stretches_of thread stretches = filter (λ s. s.thread == thread) stretches

-- one stretch for each turn
abbrev pub whole_of : By → List Stretch → List Stretch
whole_of by.Thread stretches = stretches
whole_of by.Currency stretches = stretches_of 0 stretches

-- the end of the last of these stretches, or 0 without any
abbrev pub last_end : List Stretch → ℕ
last_end stretches = fold (λ last s. max s.end last) 0 stretches
