-- What becomes of a kernel when the view that borrows it ends.
use Rattle.std.specs.Prelude.{◌≡◌, ⊤}
use Rattle.std.specs.Borrow.{follows_so, Fml, MutBor}
use mathlib.Core.Option.{none}
use Rattle.lot_kernel.specs.Counted.{settled}
use Rattle.lot_kernel.specs.Snapshots.{Snapshot}
use Rattle.lot_kernel.specs.contracts.kernel.Kernel.{the_row}

-- it is settled, and otherwise unchanged
abbrev pub EndsSettled : MutBor Snapshot → Fml
EndsSettled kernel = follows_so the_row the_row kernel.ghost_name none (λ _ _. ⊤) (λ last. last ≡ settled kernel.now)
