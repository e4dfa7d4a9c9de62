-- The lottery by itself, in plain fields.
use Rattle.std.specs.Prelude.{ℕ, ◌==◌, Option, None, Some, if◌then◌else◌}
use Rattle.lot_machine.specs.declared.drawn.Drawn.{Drawn}
use Rattle.lot_c.specs.declared.lottery.PlainDrawn.{PlainDrawn}
use Rattle.lot_c.specs.Wides.{plain_wide}

-- the ticks used of a quantum, or none for 0
abbrev pub compensation_meant : ℕ → Option ℕ
compensation_meant ticks = if ticks == 0 then None else Some ticks

-- the winner of a lottery in plain fields
abbrev pub plain_drawn : Drawn → PlainDrawn
plain_drawn d = record { number = plain_wide d.number; total = plain_wide d.total; place = d.place }
