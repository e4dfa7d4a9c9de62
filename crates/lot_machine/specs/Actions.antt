-- Traps: their words, those of scripts, and their requests to the kernel.
use Rattle.std.specs.Prelude.{ℕ}
use Rattle.lot_machine.specs.declared.trap.Trap.{Trap}
use Rattle.lot_machine.specs.declared.trap.Trap.TheVariants.{Yield, Call, Receive, Reply, Serve, Lock, Unlock, Sleep, Exit}

-- the word of a trap
abbrev pub TrapWord : Type 0
TrapWord = Trap (Unit {0}) (Unit {0}) (Unit {0}) (Unit {0})

-- a trap of a script
abbrev pub ScriptTrap : Type 0
ScriptTrap = Trap ℕ (Unit {0}) (Unit {0}) ℕ

-- a trap's request to the kernel
abbrev pub Action : Type 0
Action = Trap ℕ ℕ ℕ (Unit {0})

-- the trap of this kind with these in place of its own
abbrev pub with_numbers : {O S D T Object Sent Drawn Ticks : Type 0} → Trap O S D T → Object → Sent → Drawn → Ticks → Trap Object Sent Drawn Ticks
with_numbers Yield object sent drawn ticks = Yield
with_numbers (Call o s) object sent drawn ticks = Call object sent
with_numbers (Receive o) object sent drawn ticks = Receive object
with_numbers (Reply s) object sent drawn ticks = Reply sent
with_numbers (Serve o s) object sent drawn ticks = Serve object sent
with_numbers (Lock o) object sent drawn ticks = Lock object
with_numbers (Unlock o d) object sent drawn ticks = Unlock object drawn
with_numbers (Sleep t) object sent drawn ticks = Sleep ticks
with_numbers Exit object sent drawn ticks = Exit

-- the number of the trap's port or mutex, or 0 if it has none
abbrev pub object_of : {S D T : Type 0} → Trap ℕ S D T → ℕ
object_of (Call port s) = port
object_of (Receive port) = port
object_of (Serve port s) = port
object_of (Lock mutex) = mutex
object_of (Unlock mutex d) = mutex
object_of other = 0
