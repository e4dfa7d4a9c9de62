-- One event, and a whole run of events (4.2 to 4.7, 6.1).
use Rattle.std.specs.Prelude.{ℕ, ◌+◌, ◌-◌, ◌^◌, nat_lt, nat_le, ◌==◌, Bool, false, not, ◌||◌, Option, Some, None, is_some, is_none, List, [], ◌∷◌, map, slice_index, option_and_then, unwrap_or}
use Rattle.lot_machine.specs.declared.record.Record.{Record}
use Rattle.lot_machine.specs.declared.record.Status.TheVariants as status
use Rattle.lot_machine.specs.Actions.{Action}
use Rattle.lot_machine.specs.declared.trap.Trap.TheVariants.{Yield, Call, Receive, Reply as ReplyTo, Serve, Lock, Unlock, Sleep, Exit}
use Rattle.lot_machine.specs.declared.event.Event.{Event}
use Rattle.lot_machine.specs.declared.event.Event.TheVariants as event
use Rattle.lot_machine.specs.declared.refusal.Refusal.{Refusal}
use Rattle.lot_machine.specs.declared.refusal.Refusal.TheVariants.{NoThread, BadProcessor, Busy, NotRunning, BadTicks, NotAsleep}
use Rattle.lot_machine.specs.declared.refusal.TrapRefusal.{TrapRefusal}
use Rattle.lot_machine.specs.declared.refusal.TrapRefusal.TheVariants.{NoPort, NothingToReply, NoMutex, NotOwner, AlreadyOwner, LockCycle}
use Rattle.lot_machine.specs.declared.reply.Reply.{Reply}
use Rattle.lot_machine.specs.declared.reply.Reply.TheVariants as answer
use Rattle.lot_machine.specs.declared.reply.Outcome.{Outcome}
use Rattle.lot_machine.specs.declared.reply.Outcome.TheVariants as outcome
use Rattle.lot_machine.specs.Numbered.{at_number, option_any}
use Rattle.lot_machine.specs.Lends.{lends_on_to}
use Rattle.lot_machine.specs.declared.drawn.Drawn.{Drawn}
use Rattle.lot_machine.specs.Lottery.{winner}
use Rattle.lot_machine.specs.State.{State, is_asleep, ready_threads, status_of, thread_at, thread_on, used_by, value_of, weight_of, change_record, saturated}
use Rattle.lot_machine.specs.Commands.{Step, first_failing, unless_refused, command_step}
use Rattle.lot_machine.specs.declared.after.After.{After}
use Rattle.lot_machine.specs.Traps.{after_trap, compensation_for, with_ticks}
use Rattle.lot_machine.specs.declared.after.After.TheVariants.{GoesOn, Leaves, Ends}
use Rattle.lot_machine.specs.Ports.{PortTrap, first_client, call, receive, reply, serve}
use Rattle.lot_machine.specs.Mutexes.{MutexTrap, mutex_at, lock, unlock}
use Rattle.lot_machine.specs.Servers.{served_at, without_servers, before_lock, left_by}

-- there is no processor with this number: they are numbered from 1
abbrev pub is_bad_processor : State → ℕ → Bool
is_bad_processor s p = (p == 0) || nat_lt s.limits.processors p

-- ---- draws, and how a thread leaves its processor without a trap

-- The winner's record: it runs with no ticks used and has won one more quantum; its compensation and its delivered
-- number are cleared (3.4, 4.2).
abbrev pub started : ℕ → Record → Record
started p r = record r { status = status.Running p 0; compensation = None; delivered = None; quanta = saturated (r.quanta + 1) }

-- A draw is the lottery over the weights of the Ready threads in ascending order. Without a winner nothing changes
-- (4.2).
abbrev pub draw : State → ℕ → ℕ → Step
draw s p d = drawn (winner (map (weight_of s) (ready_threads s.records)) d)
  where
    won : ℕ → Drawn → Step
    won t w = record {
      state = record s { records = change_record (started p) s.records t };
      reply = answer.Winner t w.number w.total (option_and_then (λ r. r.delivered) (at_number s.records t));
    }

    drawn : Option Drawn → Step
    drawn None = record { state = s; reply = answer.Idle }
    drawn (Some w) = won (slice_index (ready_threads s.records) w.place) w

-- the thread leaves its processor: it is Ready with this compensation, and has run this many ticks more (4.2)
abbrev pub stopped : State → ℕ → ℕ → Option ℕ → Step
stopped s t ticks compensation = record {
  state = record s { records = change_record (λ r. with_ticks ticks (record r { status = status.Ready; compensation = compensation })) s.records t };
  reply = answer.Expired t ticks;
}

-- the quantum ends: no compensation, and the rest of the quantum counts as used (4.2)
abbrev pub expire : State → ℕ → ℕ → Step
expire s t used = stopped s t (s.limits.quantum - used) None

-- the quantum ended this many ticks late: they count as used, so the thread weighs less in its next draw (3.4, 4.5)
abbrev pub overrun : State → ℕ → ℕ → ℕ → Step
overrun s t used late = stopped s t (s.limits.quantum - used + late) (compensation_for s.limits (s.limits.quantum + late))

-- the sleeping thread becomes Ready, with the compensation from when it began to sleep (4.4, 4.5)
abbrev pub wake : State → ℕ → Step
wake s t = record { state = record s { records = change_record (λ r. record r { status = status.Ready }) s.records t }; reply = answer.Done }

-- ---- traps

-- whether the thread owns the mutex
abbrev pub owns : State → ℕ → ℕ → Bool
owns s t m = option_any (λ owner. owner == t) (mutex_at s.mutexes m).owner

-- there is no mutex with this number
abbrev pub is_no_mutex : State → ℕ → Bool
is_no_mutex s m = is_none (at_number s.mutexes m) || nat_lt s.limits.mutexes m

-- Each trap's checks, in order: the outcome names the first that fails.
abbrev pub trap_refusal : State → ℕ → Action → Option TrapRefusal
trap_refusal s t Yield = None
trap_refusal s t (Call p number) = first_failing ((is_none (at_number s.ports p), NoPort) ∷ [])
trap_refusal s t (Receive p) = first_failing ((is_none (at_number s.ports p), NoPort) ∷ [])
trap_refusal s t (ReplyTo number) = first_failing ((is_none (first_client s.clients t), NothingToReply) ∷ [])
trap_refusal s t (Serve p number) = first_failing ((is_none (at_number s.ports p), NoPort) ∷ (is_none (first_client s.clients t), NothingToReply) ∷ [])
trap_refusal s t (Lock m) =
    first_failing ((is_no_mutex s m, NoMutex) ∷ (owns s t m, AlreadyOwner)
    ∷ (option_any (λ owner. lends_on_to (without_servers s) owner t) (mutex_at s.mutexes m).owner, LockCycle) ∷ [])
trap_refusal s t (Unlock m d) = first_failing ((is_no_mutex s m, NoMutex) ∷ (not (owns s t m), NotOwner) ∷ [])
trap_refusal s t (Sleep n) = None
trap_refusal s t Exit = None

-- the state after a trap, its outcome, and the disposition of the thread that made it
pub record Effect : Type 0 where
  pub state : State
  pub outcome : Outcome
  pub after : After

-- the effect of a trap at a port
abbrev pub of_ports : State → PortTrap → Effect
of_ports s e = record { state = record s { records = e.records; clients = e.clients; ports = e.ports }; outcome = e.outcome; after = e.after }

-- the effect of the thread's trap at this port, which may get another server
abbrev pub at_port : State → ℕ → ℕ → PortTrap → Effect
at_port s t p e = record { state = record (of_ports s e).state { mutexes = served_at s t p e.outcome }; outcome = e.outcome; after = e.after }

-- the effect of a trap on a mutex
abbrev pub of_mutexes : State → MutexTrap → Effect
of_mutexes s e = record { state = record s { records = e.records; mutexes = e.mutexes }; outcome = e.outcome; after = e.after }

-- the effect of a trap that passes its checks (4.6, 6.1)
abbrev pub trap_effect : State → ℕ → Action → Effect
trap_effect s t Yield = record { state = s; outcome = outcome.Yielded; after = Leaves status.Ready }
trap_effect s t (Call p number) = at_port s t p (call s.records s.clients s.ports t p number)
trap_effect s t (Receive p) = at_port s t p (receive s.records s.clients s.ports t p)
trap_effect s t (ReplyTo number) = of_ports s (reply s.records s.clients s.ports t number)
trap_effect s t (Serve p number) = at_port s t p (serve s.records s.clients s.ports t p number)
trap_effect s t (Lock m) = of_mutexes s (lock s.records (before_lock s t m) t m)
trap_effect s t (Unlock m d) = of_mutexes s (unlock s.records s.mutexes (value_of s) m d)
trap_effect s t (Sleep n) = record { state = s; outcome = outcome.Slept; after = Leaves status.Asleep }
trap_effect s t Exit = record { state = record s { mutexes = left_by s t }; outcome = outcome.Exited; after = Ends }

-- the effect, or without a change the refusal, if there is one; then the thread goes on
abbrev pub checked_effect : State → Option TrapRefusal → Effect → Effect
checked_effect s None effect = effect
checked_effect s (Some refusal) effect = record { state = s; outcome = outcome.Refused refusal; after = GoesOn }

-- whether a thread that would go on has used up its quantum
abbrev pub ends_quantum : After → ℕ → ℕ → Bool
ends_quantum GoesOn used quantum = nat_le quantum used
ends_quantum other used quantum = false

-- the step of a trap with this effect, whose thread has run this many ticks and has used this much of its quantum
abbrev pub finish_trap : State → ℕ → ℕ → ℕ → ℕ → Effect → Step
finish_trap s p t ticks used effect = record {
  state = record effect.state { records = change_record (λ r. with_ticks ticks (after_trap effect.after p used s.limits r)) effect.state.records t };
  reply = answer.Trapped t ticks effect.outcome (ends_quantum effect.after used s.limits.quantum);
}

-- a trap costs one tick in addition to the ticks of work before it (4.5)
abbrev pub trap : State → ℕ → ℕ → ℕ → ℕ → Action → Step
trap s p t used ran action = finish_trap s p t (ran + 1) (used + ran + 1) (checked_effect s (trap_refusal s t action) (trap_effect s t action))

-- ---- events

-- the thread that runs on the processor, or 0 if none does
abbrev pub thread_there : State → ℕ → ℕ
thread_there s p = unwrap_or (thread_on s.records p) 0

-- the ticks that the thread on the processor has used, or 0 if none runs there
abbrev pub used_there : State → ℕ → ℕ
used_there s p = unwrap_or (option_and_then (used_by s.records p) (thread_on s.records p)) 0

-- Each event's checks, in order: the reply names the first that fails.
abbrev pub event_refusal : State → Event → Option Refusal
event_refusal s (event.Command command) = None
event_refusal s (event.Draw p d) = first_failing ((is_bad_processor s p, BadProcessor) ∷ (is_some (thread_on s.records p), Busy) ∷ [])
event_refusal s (event.Expire p) = first_failing ((is_bad_processor s p, BadProcessor) ∷ (is_none (thread_on s.records p), NotRunning) ∷ [])
event_refusal s (event.Trap p ran action) =
    first_failing ((is_bad_processor s p, BadProcessor) ∷ (is_none (thread_on s.records p), NotRunning)
    ∷ (nat_lt s.limits.quantum (used_there s p + ran + 1), BadTicks) ∷ [])
event_refusal s (event.Preempt p ticks) =
    first_failing ((is_bad_processor s p, BadProcessor) ∷ (is_none (thread_on s.records p), NotRunning)
    ∷ (nat_lt s.limits.quantum (used_there s p + ticks), BadTicks) ∷ [])
event_refusal s (event.Overrun p ticks) =
    first_failing ((is_bad_processor s p, BadProcessor) ∷ (is_none (thread_on s.records p), NotRunning)
    ∷ (nat_le (2 ^ 32) (s.limits.quantum + ticks), BadTicks) ∷ [])
event_refusal s (event.Wake t) =
    first_failing ((is_none (thread_at s.threads t), NoThread) ∷ (not (option_any is_asleep (status_of s.records t)), NotAsleep) ∷ [])

-- The effect of an event that passes its checks. If it needs a thread on the processor, one runs there.
abbrev pub event_effect : State → Event → Step
event_effect s (event.Command command) = command_step s command
event_effect s (event.Draw p d) = draw s p d
event_effect s (event.Expire p) = expire s (thread_there s p) (used_there s p)
event_effect s (event.Trap p ran action) = trap s p (thread_there s p) (used_there s p) ran action
event_effect s (event.Preempt p ticks) = stopped s (thread_there s p) ticks None
event_effect s (event.Overrun p ticks) = overrun s (thread_there s p) (used_there s p) ticks
event_effect s (event.Wake t) = wake s t

-- one event: the state after it, and its reply; a refused event changes nothing
abbrev pub step : State → Event → Step
step s e = unless_refused s (event_refusal s e) (event_effect s e)

-- the replies of a run, in order
abbrev pub replies : State → List Event → List Reply
replies s [] = []
replies s (e ∷ es) = (step s e).reply ∷ replies (step s e).state es

-- the state at the end of a run
abbrev pub state_after : State → List Event → State
state_after s [] = s
state_after s (e ∷ es) = state_after (step s e).state es
