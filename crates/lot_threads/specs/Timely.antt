-- A property of each thread's record: the ticks used of a quantum are within it.
use Rattle.std.specs.Prelude.{ℕ, ◌<◌, ⊤, IfSome}
use Rattle.lot_machine.specs.declared.record.Record.{Record}
use Rattle.lot_machine.specs.declared.record.Status.{Status}
use Rattle.lot_machine.specs.declared.record.Status.TheVariants.{Running}

-- a running thread has used less than its quantum
abbrev pub IsBelowQuantum : ℕ → Status → Type 0
IsBelowQuantum quantum (Running processor used) = used < quantum
IsBelowQuantum quantum other = ⊤

-- a running thread has used less than its quantum, and a compensation is at least one tick
abbrev pub IsTimely : ℕ → Record → Type 0
IsTimely quantum r = IfSome r.compensation (λ used. 0 < used) × IsBelowQuantum quantum r.status
