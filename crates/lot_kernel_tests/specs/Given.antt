-- Arguments for tests.
use Rattle.std.specs.Prelude.{Result, Ok}
use Rattle.lot_machine.specs.declared.arguments.Slot.{Slot}
use Rattle.lot_machine.specs.declared.arguments.Slot.TheVariants as slot
use Rattle.lot_machine.specs.Arguments.{Value}
use Rattle.lot_machine.specs.Arguments as value
use Rattle.lot_kernel_tests.specs.declared.commands.OneOfEach.{OneOfEach}

-- the one of this kind
abbrev pub argument : OneOfEach → Slot → Value
argument each slot.Amount = value.Amount each.amount
argument each slot.Ticket = value.Ticket each.ticket
argument each slot.Currency = value.Currency each.currency
argument each slot.Target = value.Target each.target
argument each slot.Thread = value.Thread each.thread
argument each slot.Name = value.Name each.name
argument each slot.Script = value.Script each.script

-- the one of this kind, and all of them again
abbrev pub given : OneOfEach → Slot → Result (Value × OneOfEach) (Unit {0})
given each kind = Ok (argument each kind, each)
