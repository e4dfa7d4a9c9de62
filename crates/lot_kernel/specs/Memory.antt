-- The memory of a kernel.
use Rattle.std.specs.Prelude.{◌≡◌, ℕ, ◌+◌, ◌*◌, if◌then◌else◌, length}
use Rattle.lot_machine.specs.declared.sizes.Sizes.{Sizes}
use Rattle.lot_machine.specs.State.{holders}

-- The bytes that a kernel with these sizes requests: a fixed number for each ticket, currency, thread and so on. With
-- `reuse`, 4 more for each place that may be free.
abbrev pub bytes_of : Sizes → ℕ
bytes_of s = 40 * s.tickets + 122 * s.currencies + 289 * s.threads + 16 * s.ports + 97 * holders s + 8 * s.processors + 170
    + (if s.reuse then 4 * (s.tickets + s.currencies + s.threads) + 4 else 0)
