-- The lots of a lottery: its entrants, with their weights and their numbers.
use Rattle.std.specs.Prelude.{ℕ, ◌+◌, Option, Some, None, List, [], ◌∷◌, ◌++◌, map, sum_by, option_and_then, option_map, unwrap_or}
use Rattle.lot_machine.specs.declared.trap.Trap.TheVariants as action
use Rattle.lot_machine.specs.declared.event.Event.{Event}
use Rattle.lot_machine.specs.declared.event.Event.TheVariants as event
use Rattle.lot_machine.specs.declared.reply.Outcome.TheVariants.{Passed}
use Rattle.lot_machine.specs.declared.reply.Reply.{Reply}
use Rattle.lot_machine.specs.declared.reply.Reply.TheVariants as reply
use Rattle.lot_machine.specs.Mutexes.{mutex_at}
use Rattle.lot_machine.specs.Numbered.{at_number}
use Rattle.lot_machine.specs.Rows.{thread_name}
use Rattle.lot_machine.specs.State.{State, ready_threads, value_of, weight_of}
use Rattle.lot_simulation.specs.declared.style.LineStyle.{LineStyle}
use Rattle.lot_print.specs.declared.loans.Loan.{Loan}
use Rattle.lot_print.specs.declared.lots.Compensation.{Compensation}
use Rattle.lot_print.specs.declared.lots.Lot.{Lot}
use Rattle.lot_print.specs.declared.lots.Lottery.TheVariants.{OfProcessor, OfMutex}
use Rattle.lot_print.specs.Lots.{lot_line}
use Rattle.lot_explain.specs.declared.entrants.Entrants.{Entrants}
use Rattle.lot_explain.specs.declared.entrants.Entrants.TheVariants.{Nobody, Ready, Waiters}
use Rattle.lot_explain.specs.declared.won.Won.{Won}
use Rattle.lot_explain.specs.Loans.{all_loans, loan_lines}

-- ---- entrants

-- the lot of a thread, by its name, with this weight and this reason
abbrev pub lot_of : State → ℕ → ℕ → Option Compensation → Lot
lot_of s t weight compensation = record { thread = t; name = unwrap_or (thread_name s t) []; weight = weight; compensation = compensation }

-- a compensated thread's value, and the quantum and the ticks used that scale it to its weight (3.4, 4.5)
abbrev pub compensation_of : State → ℕ → Option Compensation
compensation_of s t = option_map (λ used. record { value = value_of s t; quantum = s.limits.quantum; used = used }) (option_and_then (λ r. r.compensation) (at_number s.records t))

-- the lot of a Ready thread in a draw, with its weight (3.4, 4.5)
abbrev pub ready_lot : State → ℕ → Lot
ready_lot s t = lot_of s t (weight_of s t) (compensation_of s t)

-- the lots of a draw: those of the Ready threads, in ascending order (4.2)
abbrev pub draw_lots : State → List Lot
draw_lots s = map (ready_lot s) (ready_threads s.records)

-- the lot of a waiter in the lottery of its mutex, with its value as the weight (6.1)
abbrev pub waiter_lot : State → ℕ → Lot
waiter_lot s t = lot_of s t (value_of s t) None

-- the lots of the lottery of a mutex: those of its waiters, the longest wait first (6.1)
abbrev pub mutex_lots : State → ℕ → List Lot
mutex_lots s m = map (waiter_lot s) (mutex_at s.mutexes m).waiters

-- The entrants of the lottery that an event may hold: the Ready threads for a draw, and the mutex's waiters for an
-- unlock. No other event holds one.
abbrev pub entrants_in : Event → Entrants
entrants_in (event.Draw p d) = Ready
entrants_in (event.Trap p ran (action.Unlock m d)) = Waiters m
entrants_in other = Nobody

-- the lots of these entrants
abbrev pub lots_among : State → Entrants → List Lot
lots_among s Nobody = []
lots_among s Ready = draw_lots s
lots_among s (Waiters m) = mutex_lots s m

-- the lots of the lottery that an event may hold, given the state before it
abbrev pub lots_of : State → Event → List Lot
lots_of s e = lots_among s (entrants_in e)

-- The loans at the lottery of these entrants: all of them at a draw, where they are part of the borrowers' weights.
abbrev pub loans_among : State → Entrants → List Loan
loans_among s Ready = all_loans s
loans_among s other = []

-- the loans at the lottery that an event may hold, given the state before it
abbrev pub loans_of : State → Event → List Loan
loans_of s e = loans_among s (entrants_in e)

-- the total weight of these lots
abbrev pub total_of : List Lot → ℕ
total_of lots = sum_by (λ lot. lot.weight) lots

-- ---- winners

-- The lottery that an event held, according to the reply: its kind, its winner, and the total weight of all lots.
-- There is none without a winner: a draw was idle, or a mutex became free or went to the thread that had waited
-- longest.
abbrev pub won_in : Event → Reply → Option Won
won_in (event.Draw p d) (reply.Winner t number total delivered) = Some (record { lottery = OfProcessor; winner = t; total = total })
won_in (event.Trap p ran (action.Unlock m d)) (reply.Trapped t ticks (Passed to (Some drawn)) ends) = Some (record { lottery = OfMutex; winner = to; total = drawn.1 })
won_in e other = None

-- ---- the lines

-- The lines of lots, whose numbers begin with this one: the numbers of each follow those of the lot before it.
abbrev pub lot_diagnostics : LineStyle → ℕ → ℕ → Won → ℕ → List Lot → List ℕ
lot_diagnostics style unit actor won first [] = []
lot_diagnostics style unit actor won first (lot ∷ lots) = lot_line style unit actor won.lottery won.winner first lot ++ lot_diagnostics style unit actor won (first + lot.weight) lots

-- the lines of the lots of a won lottery, whose numbers begin with 0, and then those of the loans at it
abbrev pub won_lines : LineStyle → ℕ → ℕ → List Lot → List Loan → Option Won → List ℕ
won_lines style unit actor lots loans None = []
won_lines style unit actor lots loans (Some won) = lot_diagnostics style unit actor won 0 lots ++ loan_lines style unit actor loans
