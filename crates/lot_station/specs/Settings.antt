-- Systems of a program and a room.
use Rattle.std.specs.Prelude.{ℕ, ◌==◌, List, [], count_by, false, None}
use Rattle.lot_simulation.specs.Report.{ActorTurn, turns_made, turns_of}
use Rattle.lot_simulation.specs.Words.{no_options}
use Rattle.lot_simulation.specs.World.{IsLegal}
use Rattle.lot_engine.specs.declared.counts.Counts.{Counts}
use Rattle.lot_engine.specs.Counted.{counted}
use Rattle.lot_engine.specs.Seen.{Setting, Seen}

-- the turns of the system's history
abbrev pub turns_in : Seen → List ActorTurn
turns_in x = turns_made x.setting.program x.history

-- the number of the actor's turns in a history
abbrev pub turns_by : ℕ → List ℕ → ℕ
turns_by actor history = count_by (λ a. a == actor) history

-- the number of the actor's turns in the system's history
abbrev pub times_in : Seen → ℕ → ℕ
times_in x actor = turns_by actor x.history

-- the counters over all turns of the system's history
abbrev pub counts_of : Seen → Counts
counts_of x = counted (turns_in x)

-- the counters over the actor's turns in the system's history
abbrev pub counts_in : Seen → ℕ → Counts
counts_in x actor = counted (turns_of actor (turns_in x))

-- the system's history is legal for its program and room
abbrev pub IsLegalIn : Seen → Type 0
IsLegalIn x = IsLegal x.setting.program x.setting.room x.history

-- this holds for a system of this program and room after some legal history
pub record AtSome (setting : Setting) (IsSo : Seen → Type 0) : Type 0 where
  pub history : List ℕ
  pub legal : IsLegal setting.program setting.room history
  pub is_so : IsSo (record { setting = setting; history = history })

-- some program and room, without a timer, as a placeholder
abbrev pub no_setting : Setting
no_setting = record {
  program = record {
    limits = record { tickets = 0; currencies = 0; threads = 0; ports = 0; mutexes = 0; processors = 0; scripts = 0; quantum = 0; unit = 0; reuse = false; plain_names = false; without_compensation = false; without_lending = false; queued_lend = false };
    seeds = [];
    turns = 0;
    scripts = [];
    commands = [];
    schedule = [];
    duration = None;
    times = [];
    ticket_names = 0;
    names = [];
    options = no_options;
  };
  room = 0;
  timer = false;
}

-- a system of `no_setting` without turns
abbrev pub nothing_seen : Seen
nothing_seen = record { setting = no_setting; history = [] }
