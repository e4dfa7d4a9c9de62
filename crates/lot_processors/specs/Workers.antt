-- Workers at the seats of a station.
use Rattle.std.specs.Prelude.{◌≡◌, ◌⊎◌, ℕ, ◌+◌, ◌*◌, ◌<◌, ◌≤◌, ◌==◌, false, All, List, [], Option, Some, None, length, count_by, sum_by, slice_index_or, if◌then◌else◌}
use Rattle.lot_machine.specs.declared.reply.Reply.{Reply}
use Rattle.lot_simulation.specs.Report.{quanta_in, ticks_in}
use Rattle.lot_simulation.specs.World.{Program, IsLegal}
use Rattle.lot_script.specs.Slices.{Parts}
use Rattle.lot_engine.specs.declared.fault.TurnFault.{TurnFault}
use Rattle.lot_engine.specs.declared.fault.TurnFault.TheVariants.{Stale}
use Rattle.lot_engine.specs.declared.turn.Answer.{Answer}
use Rattle.lot_engine.specs.declared.turn.Work.{Work}
use Rattle.lot_engine.specs.Fitting.{IsStale}
use Rattle.lot_engine.specs.Seen.{Setting, Seen}
use Rattle.lot_engine.specs.Turns.{Answers, Faults, Goes, IsWorkOf, Matches}
use Rattle.lot_station.specs.Holders.{Holder, AreDealt, CountsAgree}
use Rattle.lot_station.specs.Settings.{AtSome, IsLegalIn}
use Rattle.lot_processors.specs.declared.fault.RunFault.{RunFault}
use Rattle.lot_processors.specs.declared.fault.RunFault.TheVariants.{Turn}
use Rattle.lot_processors.specs.declared.free_runs.FreeRunFault.{FreeRunFault}
use Rattle.lot_processors.specs.declared.free_runs.FreeRunFault.TheVariants.{Memory, Run, CountsDiffer}

-- the number of this actor's turns in a free run of the program: one for each command for the console, and the
-- program's number of turns for a processor
abbrev pub turns_for : Program → ℕ → ℕ
turns_for program actor = if actor == 0 then length program.commands else program.turns

-- ---- turns

-- this is the reply to a turn of the actor, in a system of this program and room after some legal history
pub record IsReply (setting : Setting) (actor : ℕ) (reply : Reply) : Type 0 where
  pub given : Option Parts
  pub answer : Answer
  pub is : answer.reply ≡ reply
  pub turn : AtSome setting (λ x. Goes x actor given × Answers x actor answer)

-- The seat has made n more turns. Each got one of these replies, in order, and the seat's quanta and ticks grew by
-- those of the replies.
pub record HasMade (setting : Setting) (n : ℕ) (before after : Holder) : Type 0 where
  pub actor : after.actor ≡ before.actor
  pub replies : List Reply
  pub each : length replies ≡ n
  pub answered : All (IsReply setting before.actor) replies
  pub turns : after.turns ≡ before.turns + n
  pub quanta : after.quanta ≡ before.quanta + sum_by quanta_in replies
  pub ticks : after.ticks ≡ before.ticks + sum_by ticks_in replies

-- ---- faults

-- The fault stops the actor's turn with this work in this system: the work doesn't fit the given program, or the turn
-- with the slice of the work has the fault.
abbrev pub Stops : Program → ℕ → Option Work → Seen → TurnFault → Type 0
Stops program actor work now fault =
    IsStale program work fault ⊎ ((given : Option Parts) × Matches program work given × Faults now actor given fault)

-- no later work is left to try: a Stale fault carries the very work whose slice it refused
abbrev pub IsLastWork : Option Work → TurnFault → Type 0
IsLastWork work fault = (now : Option Work) → fault ≡ Stale now → now ≡ work

-- The fault stops a turn of the actor in a station of this program and room: the work at hand is the actor's after
-- some legal history, the turn is stopped after some legal history, and the actor has no later work to try.
pub record StopsTurn (setting : Setting) (program : Program) (actor : ℕ) (fault : TurnFault) : Type 0 where
  pub work : Option Work
  pub had : AtSome setting (λ x. IsWorkOf x actor work)
  pub stops : AtSome setting (λ x. Stops program actor work x fault)
  pub last : IsLastWork work fault

-- the seat has made fewer than n turns, and then the fault stopped its next turn
pub record HasStopped (setting : Setting) (program : Program) (n : ℕ) (fault : TurnFault) (before after : Holder) : Type 0 where
  pub made : ℕ
  pub fewer : made < n
  pub turns : HasMade setting made before after
  pub stops : StopsTurn setting program before.actor fault

-- ---- the seats of a run

-- this holds for the seats at each index, before and after
abbrev pub EachSeat : {S : Type 0} → List S → List S → (ℕ → S → S → Type 0) → Type 0
EachSeat {S} before after IsSo = (k : ℕ) (d : S) → k < length before → IsSo k (slice_index_or before k d) (slice_index_or after k d)

-- the seat has made all of its actor's turns in the program, and stores no fault
pub record HasMadeAll (setting : Setting) (program : Program) (before after : Holder) : Type 0 where
  pub made : HasMade setting (turns_for program before.actor) before after
  pub no_fault : after.stopped ≡ None

-- the seat has made all its turns, or a fault stopped it before, which it stores
abbrev pub HasWorked : Setting → Program → Holder → Holder → Type 0
HasWorked setting program before after =
    HasMadeAll setting program before after
    ⊎ ((fault : TurnFault) × (after.stopped ≡ Some fault) × HasStopped setting program (turns_for program before.actor) fault before after)

-- each seat has made all its turns
abbrev pub AllMade : Setting → Program → List Holder → List Holder → Type 0
AllMade setting program before after = EachSeat before after (λ k s t. HasMadeAll setting program s t)

-- The fault stopped some seat, which does not store it. Each seat before it has made all its turns, and each seat
-- after it has worked.
pub record FirstStops (setting : Setting) (program : Program) (fault : TurnFault) (before after : List Holder) : Type 0 where
  pub place : ℕ
  pub there : place < length before
  pub earlier : EachSeat before after (λ k s t. k < place → HasMadeAll setting program s t)
  pub stopped : EachSeat before after (λ k s t. k ≡ place → HasStopped setting program (turns_for program s.actor) fault s t × (t.stopped ≡ None))
  pub later : EachSeat before after (λ k s t. place < k → HasWorked setting program s t)

-- the fault of the turn that stopped a run
abbrev pub fault_in : RunFault → TurnFault
fault_in (Turn fault) = fault

-- The fault was taken from some seat; no seat before it had one.
pub record IsFirstFault (found : TurnFault) (before after : List Holder) : Type 0 where
  pub place : ℕ
  pub there : place < length before
  pub fault : EachSeat before after (λ k s t. k ≡ place → (s.stopped ≡ Some found) × (t ≡ record s { stopped = None }))
  pub earlier : EachSeat before after (λ k s t. k < place → s.stopped ≡ None)
  pub others : EachSeat before after (λ k s t. ¬ (k ≡ place) → t ≡ s)

-- ---- free runs

-- the number of turns in a free run of the program
abbrev pub turns_in_all : Program → ℕ
turns_in_all program = length program.commands + program.limits.processors * program.turns

-- the program, with room for the turns of a free run and without a timer
abbrev pub free_setting : Program → Setting
free_setting program = record { program = program; room = turns_in_all program; timer = false }

-- The history is legal for the program, and has each actor's number of turns in a free run.
pub record IsFreeRun (program : Program) (history : List ℕ) : Type 0 where
  pub legal : IsLegal program (turns_in_all program) history
  pub turns : (actor : ℕ) → actor ≤ program.limits.processors → count_by (λ a. a == actor) history ≡ turns_for program actor

-- This is the fault of the first stopped seat in a free run of the program. It isn't Stale: no change by another actor
-- to a processor's work stops a worker.
pub record IsStopped (program : Program) (fault : TurnFault) : Type 0 where
  pub not_stale : (work : Option Work) → ¬ (fault ≡ Stale work)
  pub before : List Holder
  pub after : List Holder
  pub dealt : AreDealt (record { setting = free_setting program; history = [] }) before
  pub first : FirstStops (free_setting program) program fault before after

-- the seats of a new system of the program made all their turns, but its history has others
pub record HasOthers (program : Program) : Type 0 where
  pub before : List Holder
  pub after : List Holder
  pub closed : Seen
  pub dealt : AreDealt (record { setting = free_setting program; history = [] }) before
  pub made : AllMade (free_setting program) program before after
  pub setting : closed.setting ≡ free_setting program
  pub legal : IsLegalIn closed
  pub differ : ¬ CountsAgree closed after

-- The reason why a free run returns no system: out of memory, a worker stopped early, or the system's history doesn't
-- have the turns that the seats made.
abbrev pub IsFaultOf : Program → FreeRunFault → Type 0
IsFaultOf program Memory = Unit {0}
IsFaultOf program (Run run) = IsStopped program (fault_in run)
IsFaultOf program CountsDiffer = HasOthers program
