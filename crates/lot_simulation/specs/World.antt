-- The simulated system: a console, processors with their generators, and threads with their scripts.
use Rattle.std.specs.Prelude.{ℕ, ◌-◌, ◌≤◌, ◌==◌, nat_le, Bool, true, false, Option, Some, None, is_some, List, [], ◌∷◌, ◌++◌, length, map, drop, replicate, count_by, All, option_and_then, slice_get, unwrap_or, if◌then◌else◌}
use Rattle.std.specs.List.{last_or}
use Rattle.std.specs.Option.{option_flatten}
use Rattle.lot_simulation.specs.declared.input.Options.{Options}
use Rattle.lot_simulation.specs.declared.script.ScriptLine.{ScriptLine}
use Rattle.lot_machine.specs.Actions.{Action, ScriptTrap, object_of, with_numbers}
use Rattle.lot_machine.specs.declared.trap.Trap.TheVariants as action
use Rattle.lot_machine.specs.declared.command.Command.{Command}
use Rattle.lot_machine.specs.declared.command.Command.TheVariants.{RemoveTicket, MakeThread, MakeFunded}
use Rattle.lot_machine.specs.declared.event.Event.{Event}
use Rattle.lot_machine.specs.declared.event.Event.TheVariants as event
use Rattle.lot_machine.specs.declared.reply.Reply.{Reply}
use Rattle.lot_machine.specs.declared.reply.Reply.TheVariants as reply
use Rattle.lot_machine.specs.declared.reply.Outcome.{Outcome}
use Rattle.lot_machine.specs.declared.reply.Outcome.TheVariants.{Received, RepliedThenReceived}
use Rattle.lot_machine.specs.declared.sizes.Sizes.{Sizes}
use Rattle.lot_simulation.specs.declared.timed.Sleeper.{Sleeper}
use Rattle.lot_machine.specs.Numbered.{at_number, set_number}
use Rattle.lot_machine.specs.Lottery.{drawn_number, seed_after_number, wide_number, seed_after_wide_number}
use Rattle.lot_machine.specs.Places.{placed}
use Rattle.lot_machine.specs.State.{State, opening, free_threads, thread_on}
use Rattle.lot_machine.specs.Commands.{Step}
use Rattle.lot_machine.specs.Verbs.{for_ticket}
use Rattle.lot_machine.specs.Step.{step, used_there}
use Rattle.lot_simulation.specs.Script.{Context, Slice, slice, start, without_sleep}

-- The contents of an input: the kernel's limits, seeds, scripts and commands; the turns of each processor in a free
-- run, and the schedule; or the duration of a timed input.
pub record Program : Type 0 where
  pub limits : Sizes
  pub seeds : List ℕ  -- one for each processor
  pub turns : ℕ
  pub scripts : List (List ScriptLine)  -- numbered from 1
  pub commands : List Command
  pub schedule : List ℕ
  pub duration : Option ℕ
  pub times : List ℕ  -- the commands' times, in a timed program
  pub ticket_names : ℕ  -- the number of names that tickets can have, numbered from 1
  pub names : List (Option ℕ)  -- the number of the name that each command has for its ticket, in a timed program
  pub options : Options  -- what the header chooses; the limits have the part of the kernel

-- the kernel's state, each thread's context, each processor's generator, the remaining commands with their names for
-- tickets, the ticket that has each name, and the actors of the turns so far
pub record World : Type 0 where
  pub state : State
  pub contexts : List Context
  pub generators : List ℕ
  pub is_wide : Bool  -- whether it draws wide numbers
  pub commands : List Command
  pub names : List (Option ℕ)
  pub tickets : List ℕ  -- 0 for a name that no ticket has
  pub history : List ℕ

-- The opening world: no thread, all commands, no named ticket, no turn made. A timed program draws wide numbers.
abbrev pub opening_world : Program → World
opening_world program = record { state = opening program.limits; contexts = []; generators = program.seeds; is_wide = is_some program.duration; commands = program.commands; names = program.names; tickets = replicate program.ticket_names 0; history = [] }

-- ---- an actor's next turn

-- the value of the processor's generator
abbrev pub generator_of : World → ℕ → ℕ
generator_of w p = unwrap_or (at_number w.generators p) 0

-- the number from a generator with this value, wide or not
abbrev pub number_from : Bool → ℕ → ℕ
number_from is_wide seed = if is_wide then wide_number seed else drawn_number seed

-- the generator's value after that number, wide or not
abbrev pub seed_from : Bool → ℕ → ℕ
seed_from is_wide seed = if is_wide then seed_after_wide_number seed else seed_after_number seed

-- the processor's next number
abbrev pub number_of : World → ℕ → ℕ
number_of w p = number_from w.is_wide (generator_of w p)

-- the thread's position in its script, and its accumulator
abbrev pub context_of : World → ℕ → Context
context_of w t = unwrap_or (at_number w.contexts t) (record { rest = []; accumulator = 0 })

-- the slice of the thread on the processor, within the rest of its quantum
abbrev pub slice_on : World → ℕ → ℕ → Slice
slice_on w p t = slice (context_of w t) (w.state.limits.quantum - used_there w.state p)

-- A trap of a script as an action: calls, replies and serves carry the accumulator, and an unlock the drawn number.
abbrev pub action_of : ScriptTrap → ℕ → ℕ → Action
action_of trap accumulator drawn = with_numbers trap (object_of trap) accumulator drawn tt

-- the slice as an event: an expiry, or a trap after its ticks
abbrev pub event_of_slice : ℕ → ℕ → Slice → Event
event_of_slice p drawn s = made s.trap
  where
    made : Option ScriptTrap → Event
    made None = event.Expire p
    made (Some trap) = event.Trap p s.ticks (action_of trap s.end.accumulator drawn)

-- the processor's next event: a draw if it is idle, and otherwise its thread's slice
abbrev pub processor_event : World → ℕ → Event
processor_event w p = made (thread_on w.state.records p)
  where
    made : Option ℕ → Event
    made None = event.Draw p (number_of w p)
    made (Some t) = event_of_slice p (number_of w p) (slice_on w p t)

-- A turn of actor P + t, with P processors, is one of the timer: it wakes thread t.
abbrev pub actor_event : Program → World → ℕ → Event
actor_event program w actor = if nat_le actor program.limits.processors then processor_event w actor else event.Wake (actor - program.limits.processors)

-- the thread as a sleeper, if this is its trap and a sleep
abbrev pub sleeper_by : ℕ → Option ScriptTrap → Option Sleeper
sleeper_by t (Some (action.Sleep ticks)) = Some (record { thread = t; ticks = ticks })
sleeper_by t other = None

-- the thread on the processor, if its slice ends with a sleep
abbrev pub sleeper_on : World → ℕ → Option Sleeper
sleeper_on w p = option_and_then (λ t. sleeper_by t (slice_on w p t).trap) (thread_on w.state.records p)

-- ---- the world after it

-- whether the event consumes a drawn number, as a draw and an unlock do
abbrev pub takes_number : Event → Bool
takes_number (event.Draw p d) = true
takes_number (event.Trap p ran (action.Unlock mutex d)) = true
takes_number other = false

-- the generators after the event
abbrev pub generators_after : World → ℕ → Event → List ℕ
generators_after w p e = if takes_number e then set_number w.generators p (seed_from w.is_wide (generator_of w p)) else w.generators

-- the number received with a call
abbrev pub number_delivered : Outcome → Option ℕ
number_delivered (Received client number) = Some number
number_delivered (RepliedThenReceived to client number) = Some number
number_delivered other = None

-- the context after a delivery: the number becomes the accumulator
abbrev pub delivered_to : Option ℕ → Context → Context
delivered_to None context = context
delivered_to (Some number) context = record context { accumulator = number }

-- the contexts after a processor's turn: the thread that ran is at its slice's end, with any number delivered to it
abbrev pub contexts_after : World → ℕ → Reply → List Context
contexts_after w p (reply.Winner t number total delivered) = set_number w.contexts t (delivered_to delivered (context_of w t))
contexts_after w p (reply.Trapped t ticks outcome ends) =
    set_number w.contexts t (delivered_to (number_delivered outcome) (slice_on w p t).end)
contexts_after w p (reply.Expired t ticks) = set_number w.contexts t (slice_on w p t).end
contexts_after w p other = w.contexts

-- the context of a new thread with this script: at its start, with accumulator 0
abbrev pub new_context : Program → ℕ → Context
new_context program script = start (unwrap_or (at_number program.scripts script) [])

-- the contexts after a command: a new thread's takes the place of its number
abbrev pub contexts_after_command : Program → World → Command → Reply → List Context
contexts_after_command program w (MakeThread name script) (reply.Thread t) = placed w.contexts (free_threads w.state) (new_context program script)
contexts_after_command program w (MakeFunded amount currency name script) (reply.Funded ticket t) = placed w.contexts (free_threads w.state) (new_context program script)
contexts_after_command program w c other = w.contexts

-- ---- named tickets

-- the number of the ticket with this name, or 0 if there is none
abbrev pub ticket_named : List ℕ → ℕ → ℕ
ticket_named tickets name = unwrap_or (at_number tickets name) 0

-- the command with the number of the ticket that it names, if it names one
abbrev pub resolved : List ℕ → Option ℕ → Command → Command
resolved tickets None c = c
resolved tickets (Some name) c = for_ticket (ticket_named tickets name) c

-- the named tickets without this one
abbrev pub without_ticket : ℕ → List ℕ → List ℕ
without_ticket ticket tickets = map (λ t. if t == ticket then 0 else t) tickets

-- The named tickets after this command, which may name one: a new ticket gets the name, and a removed one loses its
-- name, whoever gets its number later.
abbrev pub tickets_after : List ℕ → Option ℕ → Command → Reply → List ℕ
tickets_after tickets (Some name) c (reply.Ticket ticket) = set_number tickets name ticket
tickets_after tickets (Some name) c (reply.Funded ticket thread) = set_number tickets name ticket
tickets_after tickets name (RemoveTicket ticket) reply.Done = without_ticket ticket tickets
tickets_after tickets name c other = tickets

-- the name that the next command has for its ticket, if it has one
abbrev pub next_name : World → Option ℕ
next_name w = option_flatten (slice_get w.names 0)

-- ---- turns

-- the answer to a turn: the event and its reply, or that no command is left
pub data TurnAnswer : Type 0 where
  Answered : Event → Reply → TurnAnswer
  Ended : TurnAnswer

-- the world after a turn, and the answer
pub record TurnMade : Type 0 where
  pub world : World
  pub answer : TurnAnswer

-- the turn in which the console makes this command, and after which these are left
abbrev pub command_turn : Program → World → Command → List Command → TurnMade
command_turn program w c cs = made (step w.state (event.Command c))
  where
    made : Step → TurnMade
    made done = record {
      world = record { state = done.state; contexts = contexts_after_command program w c done.reply; generators = w.generators; is_wide = w.is_wide; commands = cs; names = drop 1 w.names; tickets = tickets_after w.tickets (next_name w) c done.reply; history = w.history ++ 0 ∷ [] };
      answer = Answered (event.Command c) done.reply;
    }

-- the console's next command, for the ticket that it names, if it does; nothing changes if none is left
abbrev pub console_turn : Program → World → List Command → TurnMade
console_turn program w [] = record { world = w; answer = Ended }
console_turn program w (c ∷ cs) = command_turn program w (resolved w.tickets (next_name w) c) cs

-- the turn in which a processor or the timer makes this event
abbrev pub processor_turn : World → ℕ → Event → TurnMade
processor_turn w p e = made (step w.state e)
  where
    made : Step → TurnMade
    made done = record {
      world = record { state = done.state; contexts = contexts_after w p done.reply; generators = generators_after w p e; is_wide = w.is_wide; commands = w.commands; names = w.names; tickets = w.tickets; history = w.history ++ p ∷ [] };
      answer = Answered e done.reply;
    }

-- A turn of actor 0, the console, makes its next command; a turn of a processor or of the timer makes its event.
abbrev pub system_turn : Program → World → ℕ → TurnMade
system_turn program w actor = if actor == 0 then console_turn program w w.commands else processor_turn w actor (actor_event program w actor)

-- the answers to these actors' turns, in order
abbrev pub system_answers : Program → World → List ℕ → List TurnAnswer
system_answers program w [] = []
system_answers program w (actor ∷ actors) = (system_turn program w actor).answer ∷ system_answers program (system_turn program w actor).world actors

-- the world after these actors' turns
abbrev pub system_after : Program → World → List ℕ → World
system_after program w [] = w
system_after program w (actor ∷ actors) = system_after program (system_turn program w actor).world actors

-- the world after a run from the program's opening world
abbrev pub system_run : Program → List ℕ → World
system_run program actors = system_after program (opening_world program) actors

-- the answer to the last turn of a run from the program's opening world
abbrev pub last_answer : Program → List ℕ → Option TurnAnswer
last_answer program actors = last_or None (system_answers program (opening_world program) actors)

-- A legal history: its actors are the console and the processors, it fits the room, and the console occurs no more
-- often than there are commands.
pub record IsLegal (program : Program) (room : ℕ) (history : List ℕ) : Type 0 where
  pub actors : All (λ actor. actor ≤ program.limits.processors) history
  pub within_room : length history ≤ room
  pub console : count_by (λ actor. actor == 0) history ≤ length program.commands

-- A legal history of timed turns: the timer takes part.
pub record IsLegalInTime (program : Program) (room : ℕ) (history : List ℕ) : Type 0 where
  pub within_room : length history ≤ room
  pub console : count_by (λ actor. actor == 0) history ≤ length program.commands

-- ---- without time

-- the program without time: a sleep ends at once, so it is a yield
abbrev pub without_time : Program → Program
without_time program = record program { scripts = map (map without_sleep) program.scripts }
