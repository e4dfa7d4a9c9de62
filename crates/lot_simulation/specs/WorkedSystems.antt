-- Whole systems that are small enough to compute by hand, turn by turn.
use Rattle.std.specs.Prelude.{ℕ, List, [], ◌∷◌, codes, Option, Some, None}
use Rattle.lot_machine.specs.declared.command.Command.TheVariants.{MakeTicket, Fund, MakeThread, MakeFunded}
use Rattle.lot_machine.specs.declared.reference.CurrencyRef.{CurrencyRef}
use Rattle.lot_machine.specs.declared.reference.CurrencyRef.TheVariants as currency_ref
use Rattle.lot_machine.specs.declared.reference.TargetRef.TheVariants as target_ref
use Rattle.lot_machine.specs.declared.reply.Reply.{Reply}
use Rattle.lot_simulation.specs.declared.script.ScriptLine.{ScriptLine}
use Rattle.lot_simulation.specs.declared.script.ScriptLine.TheVariants as line
use Rattle.lot_machine.specs.declared.trap.Trap.TheVariants as trap
use Rattle.lot_simulation.specs.World.{Program, TurnAnswer, opening_world, system_answers}
use Rattle.lot_simulation.specs.World.TurnAnswer.{Answered, Ended}
use Rattle.lot_simulation.specs.Words.{no_options}
use Rattle.lot_machine.specs.Worked.{base, largest, finer}

-- the replies of these turns, without their events
abbrev pub replies_of : List TurnAnswer → List (Option Reply)
replies_of [] = []
replies_of (Answered event reply ∷ rest) = Some reply ∷ replies_of rest
replies_of (Ended ∷ rest) = None ∷ replies_of rest

-- the replies of these actors' turns, from the program's opening world
abbrev pub played : Program → List ℕ → List (Option Reply)
played program actors = replies_of (system_answers program (opening_world program) actors)

-- base, referred to by name
abbrev pub in_base : CurrencyRef
in_base = currency_ref.Named base

-- a system with two threads that compute
abbrev pub first_run : Program
first_run = record {
  limits = largest;
  seeds = 1 ∷ [];
  scripts = (line.Compute 1000 ∷ []) ∷ [];
  commands = MakeTicket 10 in_base ∷ MakeThread (codes "a") 1 ∷ Fund 1 (target_ref.Named (codes "a")) ∷ MakeTicket 5 in_base ∷ MakeThread (codes "b") 1 ∷ Fund 2 (target_ref.Named (codes "b")) ∷ [];
  turns = 0;
  schedule = [];
  duration = None;
  times = [];
  ticket_names = 0;
  names = [];
  options = no_options;
}

-- the system `first_run` with finer values
abbrev pub finer_run : Program
finer_run = record first_run { limits = finer }

-- the line of a script that calls at port 1
abbrev pub call : ScriptLine
call = line.Trap (trap.Call 1 tt)

-- the line of a script that receives at port 1
abbrev pub receive : ScriptLine
receive = line.Trap (trap.Receive 1)

-- the line of a script that serves at port 1
abbrev pub serve : ScriptLine
serve = line.Trap (trap.Serve 1 tt)

-- a system with a server, and a client that calls it
abbrev pub call_and_reply : Program
call_and_reply = record {
  limits = record largest { ports = 1; mutexes = 0; processors = 1; scripts = 2; quantum = 10 };
  seeds = 1 ∷ [];
  scripts = (receive ∷ line.Add 1 ∷ line.Trap (trap.Reply tt) ∷ []) ∷ (line.Set 41 ∷ call ∷ line.Compute 2 ∷ []) ∷ [];
  commands = MakeFunded 5 in_base (codes "s") 1 ∷ MakeFunded 5 in_base (codes "c") 2 ∷ [];
  turns = 0;
  schedule = [];
  duration = None;
  times = [];
  ticket_names = 0;
  names = [];
  options = no_options;
}

-- a system with a server that replies and receives in one trap, and two clients
abbrev pub serving : Program
serving = record call_and_reply {
  scripts = (receive ∷ line.Add 1 ∷ serve ∷ line.Add 1 ∷ serve ∷ []) ∷ (line.Set 41 ∷ call ∷ []) ∷ [];
  commands = MakeFunded 5 in_base (codes "s") 1 ∷ MakeFunded 5 in_base (codes "c") 2 ∷ MakeFunded 5 in_base (codes "d") 2 ∷ [];
}

-- a system with two processors and one thread
abbrev pub two_processors : Program
two_processors = record { limits = largest; seeds = 1 ∷ 2 ∷ []; scripts = (line.Compute 150 ∷ []) ∷ []; commands = MakeFunded 10 in_base (codes "a") 1 ∷ []; turns = 0; schedule = []; duration = None; times = []; ticket_names = 0; names = []; options = no_options }
