-- Small inputs, and the output for them.
use Rattle.std.specs.Prelude.{ℕ, Bool, Result, Ok, Err, List, [], ◌∷◌, ◌++◌, codes, replicate}
use Rattle.std.specs.List.{flat_map}
use Rattle.lot_machine.specs.Actions.{Action}
use Rattle.lot_machine.specs.declared.event.Event.TheVariants.{Expire, Trap}
use Rattle.lot_machine.specs.declared.record.Status.{Status}
use Rattle.lot_machine.specs.declared.refusal.Refusal.{Refusal}
use Rattle.lot_machine.specs.declared.reply.Outcome.{Outcome}
use Rattle.lot_machine.specs.declared.reply.Reply.TheVariants.{Refused, Trapped}
use Rattle.lot_simulation.specs.declared.input.InputFault.{InputFault}
use Rattle.lot_simulation.specs.declared.style.LineStyle.TheVariants.{Whole}
use Rattle.lot_simulation.specs.Grammar.{program_in}
use Rattle.lot_simulation.specs.Output.{output_after}
use Rattle.lot_simulation.specs.Reading.{◌>>=◌}
use Rattle.lot_simulation.specs.Texts.{fault_line, newline, plain_text, thread_line}
use Rattle.lot_simulation.specs.Timed.{opening_moment, turns_from}
use Rattle.lot_simulation.specs.World.{Program}

-- the text with these lines, each followed by byte 10
abbrev pub text : List (List ℕ) → List ℕ
text lines = flat_map (λ line. line ++ newline) lines

-- an input with two computing threads, up to the schedule
abbrev pub two_spinners : List (List ℕ)
two_spinners = codes "script spin" ∷ codes "compute 1000" ∷ codes "endscript" ∷ codes "mktkt 10 base" ∷ codes "mkthr a spin"
    ∷ codes "fund 1 a" ∷ codes "mktkt 5 base" ∷ codes "mkthr b spin" ∷ codes "fund 2 b" ∷ []

-- the output for the commands of `two_spinners`
abbrev pub spinners_made : List (List ℕ)
spinners_made = codes "0 ticket 1" ∷ codes "0 thread 1" ∷ codes "0 done" ∷ codes "0 ticket 2" ∷ codes "0 thread 2" ∷ codes "0 done" ∷ []

-- the first run: the input `two_spinners` and a schedule
abbrev pub first_run_input : List ℕ
first_run_input = text (codes "lottery 1" ∷ two_spinners ++ codes "schedule 0 0 0 0 0 0 1 1 1 1 1 1" ∷ [])

-- the output for `first_run_input`
abbrev pub first_run_output : List ℕ
first_run_output = text (spinners_made
    ++ codes "1 draw 9 of 15 thread 1" ∷ codes "1 thread 1 ticks 100 expire" ∷ codes "1 draw 4 of 15 thread 1" ∷ codes "1 thread 1 ticks 100 expire"
    ∷ codes "1 draw 10 of 15 thread 2" ∷ codes "1 thread 2 ticks 100 expire"
    ∷ codes "report" ∷ codes "thread 1 a quanta 2 ticks 200" ∷ codes "thread 2 b quanta 1 ticks 100" ∷ codes "processor 1 quanta 3 idle 0 ticks 300"
    ∷ codes "total turns 12 quanta 3 ticks 300" ∷ [])

-- an input with a server and its client, up to the server's script
abbrev pub server_opened : List (List ℕ)
server_opened = codes "lottery 1" ∷ codes "quantum 10" ∷ codes "port p" ∷ codes "script srv" ∷ []

-- the whole input with a server and its client
abbrev pub call_input : List ℕ
call_input = text (server_opened ++ codes "receive p" ∷ codes "add 1" ∷ codes "reply" ∷ codes "endscript" ∷ codes "script cli" ∷ codes "set 41" ∷ codes "call p"
    ∷ codes "compute 2" ∷ codes "endscript" ∷ codes "fundx 5 base s srv" ∷ codes "fundx 5 base c cli" ∷ codes "schedule 0 0 1 1 1 1 1 1 1 1 1 1" ∷ [])

-- the output for `call_input`
abbrev pub call_output : List ℕ
call_output = text (codes "0 funded 1 1" ∷ codes "0 funded 2 2" ∷ codes "1 draw 4 of 10 thread 1" ∷ codes "1 thread 1 ticks 1 receive 1 waits" ∷ codes "1 draw 4 of 5 thread 2"
    ∷ codes "1 thread 2 ticks 2 call 1 served by 1" ∷ codes "1 draw 5 of 100 thread 1 got 41" ∷ codes "1 thread 1 ticks 2 reply client 2" ∷ codes "1 thread 1 ticks 1 exit"
    ∷ codes "1 draw 5 of 25 thread 2 got 42" ∷ codes "1 thread 2 ticks 3 exit" ∷ codes "1 idle"
    ∷ codes "report" ∷ codes "thread 1 s quanta 2 ticks 4" ∷ codes "thread 2 c quanta 2 ticks 5" ∷ codes "processor 1 quanta 4 idle 1 ticks 9" ∷ codes "total turns 12 quanta 4 ticks 9" ∷ [])

-- an input with two processors, one thread, and one console turn too many
abbrev pub two_processors_input : List ℕ
two_processors_input = text (codes "lottery 1" ∷ codes "processors 2" ∷ codes "script spin" ∷ codes "compute 150" ∷ codes "endscript" ∷ codes "fundx 10 base a spin" ∷ codes "schedule 0 1 2 1 2 0" ∷ [])

-- the output for `two_processors_input`
abbrev pub two_processors_output : List ℕ
two_processors_output = text (codes "0 funded 1 1" ∷ codes "1 draw 4 of 10 thread 1" ∷ codes "2 idle" ∷ codes "1 thread 1 ticks 100 expire" ∷ codes "2 draw 3 of 10 thread 1" ∷ codes "0 refused 41 Ended"
    ∷ codes "report" ∷ codes "thread 1 a quanta 2 ticks 100" ∷ codes "processor 1 quanta 1 idle 0 ticks 100" ∷ codes "processor 2 quanta 1 idle 1 ticks 0" ∷ codes "total turns 5 quanta 2 ticks 100" ∷ [])

-- the report of an input with nothing to do
abbrev pub empty_report : List ℕ
empty_report = text (codes "report" ∷ codes "processor 1 quanta 0 idle 0 ticks 0" ∷ codes "total turns 0 quanta 0 ticks 0" ∷ [])

-- the commands of the currency graph (4.4), with its listings
abbrev pub graph_commands : List (List ℕ)
graph_commands = codes "lottery 1" ∷ codes "script spin" ∷ codes "compute 100" ∷ codes "endscript" ∷ codes "mkcur alice" ∷ codes "mkcur bob" ∷ codes "mkcur task1" ∷ codes "mkcur task2" ∷ codes "mkcur task3"
    ∷ codes "mktkt 1000 base" ∷ codes "fund 1 alice" ∷ codes "mktkt 2000 base" ∷ codes "fund 2 bob" ∷ codes "mktkt 100 alice" ∷ codes "fund 3 task1" ∷ codes "mktkt 200 alice" ∷ codes "fund 4 task2"
    ∷ codes "mktkt 100 bob" ∷ codes "fund 5 task3" ∷ codes "fundx 200 task2 thread2 spin" ∷ codes "fundx 300 task2 thread3 spin" ∷ codes "fundx 100 task3 thread4 spin" ∷ []

-- an input with `graph_commands` and three listings
abbrev pub graph_input : List ℕ
graph_input = text (graph_commands ++ codes "lscur" ∷ codes "lstkt" ∷ codes "lsthr" ∷ codes "schedule 0 0 0 0 0 0 0 0 0 0 0 0 0 0 0 0 0 0 0 0 0" ∷ [])

-- the output for `graph_input`
abbrev pub graph_output : List ℕ
graph_output = text (codes "0 currency 1" ∷ codes "0 currency 2" ∷ codes "0 currency 3" ∷ codes "0 currency 4" ∷ codes "0 currency 5" ∷ codes "0 ticket 1" ∷ codes "0 done" ∷ codes "0 ticket 2" ∷ codes "0 done"
    ∷ codes "0 ticket 3" ∷ codes "0 done" ∷ codes "0 ticket 4" ∷ codes "0 done" ∷ codes "0 ticket 5" ∷ codes "0 done" ∷ codes "0 funded 6 1" ∷ codes "0 funded 7 2" ∷ codes "0 funded 8 3"
    ∷ codes "0 lscur 6"
    ∷ codes "currency 0 base backing 0 issued 2 active 3000 value 3000"
    ∷ codes "currency 1 alice backing 1 issued 2 active 200 value 1000"
    ∷ codes "currency 2 bob backing 1 issued 1 active 100 value 2000"
    ∷ codes "currency 3 task1 backing 1 issued 0 active 0 value 0"
    ∷ codes "currency 4 task2 backing 1 issued 2 active 500 value 1000"
    ∷ codes "currency 5 task3 backing 1 issued 1 active 100 value 2000"
    ∷ codes "0 lstkt 8"
    ∷ codes "ticket 1 amount 1000 in base funds alice active value 1000"
    ∷ codes "ticket 2 amount 2000 in base funds bob active value 2000"
    ∷ codes "ticket 3 amount 100 in alice funds task1 inactive value 0"
    ∷ codes "ticket 4 amount 200 in alice funds task2 active value 1000"
    ∷ codes "ticket 5 amount 100 in bob funds task3 active value 2000"
    ∷ codes "ticket 6 amount 200 in task2 funds thread2 active value 400"
    ∷ codes "ticket 7 amount 300 in task2 funds thread3 active value 600"
    ∷ codes "ticket 8 amount 100 in task3 funds thread4 active value 2000"
    ∷ codes "0 lsthr 3"
    ∷ codes "thread 1 thread2 ready value 400 weight 400 quanta 0 ticks 0"
    ∷ codes "thread 2 thread3 ready value 600 weight 600 quanta 0 ticks 0"
    ∷ codes "thread 3 thread4 ready value 2000 weight 2000 quanta 0 ticks 0"
    ∷ codes "report"
    ∷ codes "thread 1 thread2 quanta 0 ticks 0"
    ∷ codes "thread 2 thread3 quanta 0 ticks 0"
    ∷ codes "thread 3 thread4 quanta 0 ticks 0"
    ∷ codes "processor 1 quanta 0 idle 0 ticks 0"
    ∷ codes "total turns 21 quanta 0 ticks 0" ∷ [])

-- an input whose commands are refused; each still takes a turn
abbrev pub refused_commands_input : List ℕ
refused_commands_input = text (codes "lottery 1" ∷ codes "limits 1 1 1" ∷ codes "mktkt 1 base" ∷ codes "mktkt 1 base" ∷ codes "mkcur Bad" ∷ codes "mkthr a none" ∷ codes "fund 9 a" ∷ codes "schedule 0 0 0 0 0" ∷ [])

-- the output for `refused_commands_input`
abbrev pub refused_commands_output : List ℕ
refused_commands_output = text (codes "0 ticket 1" ∷ codes "0 refused 13 Full" ∷ codes "0 refused 1 BadName" ∷ codes "0 refused 14 NoScript" ∷ codes "0 refused 4 NoTicket"
    ∷ codes "report" ∷ codes "processor 1 quanta 0 idle 0 ticks 0" ∷ codes "total turns 5 quanta 0 ticks 0" ∷ [])

-- an input with a loop, and this quantum
abbrev pub loop_input : List ℕ → List ℕ
loop_input quantum = text (codes "lottery 1" ∷ quantum ∷ codes "script s" ∷ codes "loop 2" ∷ codes "compute 3" ∷ codes "end" ∷ codes "endscript" ∷ codes "fundx 1 base a s" ∷ codes "schedule 0 1 1 1 1" ∷ [])

-- the output for `loop_input` with quantum 9
abbrev pub short_loop_output : List ℕ
short_loop_output = text (codes "0 funded 1 1" ∷ codes "1 draw 0 of 1 thread 1" ∷ codes "1 thread 1 ticks 9 expire" ∷ codes "1 draw 0 of 1 thread 1" ∷ codes "1 thread 1 ticks 1 exit"
    ∷ codes "report" ∷ codes "thread 1 a quanta 2 ticks 10" ∷ codes "processor 1 quanta 2 idle 0 ticks 10" ∷ codes "total turns 5 quanta 2 ticks 10" ∷ [])

-- the output for `loop_input` with quantum 10
abbrev pub long_loop_output : List ℕ
long_loop_output = text (codes "0 funded 1 1" ∷ codes "1 draw 0 of 1 thread 1" ∷ codes "1 thread 1 ticks 10 exit" ∷ codes "1 idle" ∷ codes "1 idle"
    ∷ codes "report" ∷ codes "thread 1 a quanta 1 ticks 10" ∷ codes "processor 1 quanta 1 idle 2 ticks 10" ∷ codes "total turns 5 quanta 1 ticks 10" ∷ [])

-- the output of a free run whose draws are all idle
abbrev pub idle_run_output : List ℕ
idle_run_output = text (codes "report" ∷ codes "processor 1 quanta 0 idle 3 ticks 0" ∷ codes "total turns 3 quanta 0 ticks 0" ∷ codes "schedule 1 1 1" ∷ [])

-- the line for an input refused on a line, with this code and name
abbrev pub refused_on_line : List ℕ → List ℕ
refused_on_line what = codes "refused line " ++ (what ++ newline)

-- a comment line of this many bytes
abbrev pub comment : ℕ → List ℕ
comment n = 35 ∷ replicate n 97

-- an input of `lottery 1` and this second line
abbrev pub second_line : List ℕ → List (List ℕ)
second_line line = codes "lottery 1" ∷ line ∷ []

-- an input with a script of these lines
abbrev pub script_of : List (List ℕ) → List (List ℕ)
script_of lines = codes "lottery 1" ∷ codes "script s" ∷ lines ++ codes "endscript" ∷ []

-- the input `two_spinners` with unit 256 and this line of the schedule
abbrev pub fine_input : List ℕ → List ℕ
fine_input schedule = text (codes "lottery 2" ∷ two_spinners ++ schedule ∷ [])

-- the output for `fine_input`
abbrev pub fine_output : List ℕ
fine_output = text (spinners_made ++ codes "1 draw 2724 of 3840 thread 2" ∷ codes "1 thread 2 ticks 100 expire"
    ∷ codes "report" ∷ codes "thread 1 a quanta 0 ticks 0" ∷ codes "thread 2 b quanta 1 ticks 100" ∷ codes "processor 1 quanta 1 idle 0 ticks 100"
    ∷ codes "total turns 8 quanta 1 ticks 100" ∷ [])

-- an input of unit 256 in which three threads share 100 of base, with their listing
abbrev pub fine_thirds_input : List ℕ
fine_thirds_input = text (codes "lottery 2" ∷ codes "script s" ∷ codes "endscript" ∷ codes "mkcur g" ∷ codes "mktkt 100 base" ∷ codes "fund 1 g" ∷ codes "fundx 1 g a s" ∷ codes "fundx 1 g b s" ∷ codes "fundx 1 g c s"
    ∷ codes "lscur" ∷ codes "lsthr" ∷ codes "runs 0 8" ∷ [])

-- the output for `fine_thirds_input`
abbrev pub fine_thirds_output : List ℕ
fine_thirds_output = text (codes "0 currency 1" ∷ codes "0 ticket 1" ∷ codes "0 done" ∷ codes "0 funded 2 1" ∷ codes "0 funded 3 2" ∷ codes "0 funded 4 3"
    ∷ codes "0 lscur 2" ∷ codes "currency 0 base backing 0 issued 1 active 100 value 100" ∷ codes "currency 1 g backing 1 issued 3 active 3 value 100"
    ∷ codes "0 lsthr 3" ∷ codes "thread 1 a ready value 33 weight 33 quanta 0 ticks 0" ∷ codes "thread 2 b ready value 33 weight 33 quanta 0 ticks 0" ∷ codes "thread 3 c ready value 33 weight 33 quanta 0 ticks 0"
    ∷ codes "report" ∷ codes "thread 1 a quanta 0 ticks 0" ∷ codes "thread 2 b quanta 0 ticks 0" ∷ codes "thread 3 c quanta 0 ticks 0" ∷ codes "processor 1 quanta 0 idle 0 ticks 0" ∷ codes "total turns 8 quanta 0 ticks 0" ∷ [])

-- ---- single lines

-- the output for any command or event with this refusal
abbrev pub refusal_line : Refusal → List ℕ
refusal_line why = plain_text Whole 1 (Expire 1) (Refused why)

-- the output for a trap of thread 1 after 4 ticks of work
abbrev pub trap_line : Action → Outcome → Bool → List ℕ
trap_line made came ends = plain_text Whole 1 (Trap 1 4 made) (Trapped 1 5 came ends)

-- the line of thread 1 in a listing, with this status
abbrev pub status_line : Status → List ℕ
status_line status = thread_line Whole 1 1 (record { name = codes "a"; status = status; value = 10; weight = 20; quanta = 3; ticks = 40 })

-- whether the kernel of the input in these bytes is without compensation, and whether it is without lending
abbrev pub is_without : List ℕ → Result (Bool × Bool) InputFault
is_without bytes = do
  program ← program_in bytes
  Ok (program.limits.without_compensation, program.limits.without_lending)

-- ---- timed inputs with a small limit on turns

-- the output for a program that makes at most this many timed turns, or the line for a refused input
abbrev pub few_turns_of : ℕ → Result Program InputFault → List ℕ
few_turns_of room (Ok program) = output_after program (turns_from program room (opening_moment program))
few_turns_of room (Err fault) = fault_line fault

-- the output for these bytes if their program makes at most this many timed turns
abbrev pub few_turns : ℕ → List ℕ → List ℕ
few_turns room bytes = few_turns_of room (program_in bytes)
