-- An actor's work, and the result of its turn.
use Rattle.std.specs.Prelude.{◌≡◌, ℕ, ◌-◌, ◌<◌, ◌≤◌, ⊤, Option, Some, None, [], length, option_map}
use Rattle.lot_machine.specs.Bounds.{IsBetween}
use Rattle.lot_machine.specs.State.{thread_at, thread_on}
use Rattle.lot_machine.specs.Step.{used_there}
use Rattle.lot_simulation.specs.World.{Program, World, context_of, system_turn}
use Rattle.lot_simulation.specs.World.TurnAnswer.{Answered}
use Rattle.lot_script.specs.Drafts.{IsScript}
use Rattle.lot_script.specs.Places.{Place, Fits, context_at}
use Rattle.lot_script.specs.Slices.{Parts}
use Rattle.lot_engine.specs.declared.turn.Running.{Running}
use Rattle.lot_engine.specs.declared.turn.Work.{Work}
use Rattle.lot_engine.specs.declared.turn.Answer.{Answer}
use Rattle.lot_engine.specs.declared.fault.TurnFault.{TurnFault}
use Rattle.lot_engine.specs.declared.fault.TurnFault.TheVariants.{Stale, Ended, HistoryFull}
use Rattle.lot_engine.specs.declared.turn.TurnFaultKind.{TurnFaultKind}
use Rattle.lot_engine.specs.declared.turn.TurnFaultKind.TheVariants as kinds
use Rattle.lot_engine.specs.Seen.{Seen, world_of, after_turn}
use Rattle.lot_engine.specs.Held.{script_lines}

-- ---- an actor's work

-- The work: the thread that runs on the processor in this world, its script, its place in the script, and the rest of
-- its quantum. Its script is a valid one.
pub record IsWork (program : Program) (w : World) (p : ℕ) (work : Work) : Type 0 where
  pub runs : thread_on w.state.records p ≡ Some work.thread
  pub script : option_map (λ t. t.script) (thread_at w.state.threads work.thread) ≡ Some work.script
  pub there : IsBetween 1 (length program.scripts) work.script
  pub legal : IsScript (script_lines program work.script)
  pub fits : Fits (script_lines program work.script) work.place
  pub means : context_at (script_lines program work.script) work.place ≡ context_of w work.thread
  pub budget : work.budget ≡ w.state.limits.quantum - used_there w.state p
  pub some_left : IsBetween 1 1000 work.budget

-- the work with this place
abbrev pub work_at : Running → Place → Work
work_at running place = record { thread = running.thread; script = running.script; place = place; budget = running.budget }

-- the actor's work, if any: the console has none, and a processor has one if a thread runs there
abbrev pub IsWorkIn : Program → World → ℕ → Option Work → Type 0
IsWorkIn program w actor None = 0 < actor → thread_on w.state.records actor ≡ None
IsWorkIn program w actor (Some work) = (0 < actor) × IsWork program w actor work

-- the actor's work, if any, in the world of a system
abbrev pub IsWorkOf : Seen → ℕ → Option Work → Type 0
IsWorkOf seen actor work = IsWorkIn seen.setting.program (world_of seen) actor work

-- ---- the slice of a work

-- the slice is of the work's script, from the work's place, with the work's budget
pub record IsSliceOf (program : Program) (work : Work) (given : Parts) : Type 0 where
  pub lines : given.lines ≡ script_lines program work.script
  pub start : given.start ≡ work.place
  pub budget : given.budget ≡ work.budget

-- there is neither a work nor a slice, or the slice is that of the work
abbrev pub Matches : Program → Option Work → Option Parts → Type 0
Matches program None None = ⊤
Matches program (Some work) (Some given) = IsSliceOf program work given
Matches program work given = ⊥

-- the slice passed for the actor's turn is that of its work, if it has one
abbrev pub IsFresh : Seen → ℕ → Option Parts → Type 0
IsFresh seen actor given = (work : Option Work) × IsWorkOf seen actor work × Matches seen.setting.program work given

-- the actor is the console and no command remains
abbrev pub IsEnded : Seen → ℕ → Type 0
IsEnded seen actor = (actor ≡ 0) × ((world_of seen).commands ≡ [])

-- ---- turns

-- The system makes the turn: its slice is fresh, it isn't the console's after its last command, and there is room.
pub record Goes (seen : Seen) (actor : ℕ) (given : Option Parts) : Type 0 where
  pub fresh : IsFresh seen actor given
  pub not_ended : ¬ IsEnded seen actor
  pub room : length seen.history < seen.setting.room

-- The reason why the system doesn't make a turn, checked in this order: the slice isn't that of the work, which the
-- fault carries; no command remains; or there is no room.
abbrev pub Faults : Seen → ℕ → Option Parts → TurnFault → Type 0
Faults seen actor given (Stale work) = IsWorkOf seen actor work × ¬ Matches seen.setting.program work given
Faults seen actor given Ended = IsFresh seen actor given × IsEnded seen actor
Faults seen actor given HistoryFull = IsFresh seen actor given × (¬ IsEnded seen actor) × (seen.setting.room ≤ length seen.history)

-- the reason why the system doesn't make a turn, as in `Faults`, without the work
abbrev pub Prevents : Seen → ℕ → Option Parts → TurnFaultKind → Type 0
Prevents seen actor given kinds.Stale = ¬ IsFresh seen actor given
Prevents seen actor given kinds.Ended = IsFresh seen actor given × IsEnded seen actor
Prevents seen actor given kinds.HistoryFull = IsFresh seen actor given × (¬ IsEnded seen actor) × (seen.setting.room ≤ length seen.history)

-- the fact holds if the fault is Stale
abbrev pub IfStale : TurnFault → Type 0 → Type 0
IfStale (Stale work) fact = fact
IfStale Ended fact = ⊤
IfStale HistoryFull fact = ⊤

-- the event and the reply are those of the actor's next turn, and the next work is the actor's after it
pub record Answers (seen : Seen) (actor : ℕ) (answer : Answer) : Type 0 where
  pub turn : (system_turn seen.setting.program (world_of seen) actor).answer ≡ Answered answer.event answer.reply
  pub next : IsWorkOf (after_turn seen actor) actor answer.next
