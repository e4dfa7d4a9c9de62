-- What becomes of a system when the view that borrows it ends.
use Rattle.std.specs.Prelude.{◌≡◌, ⊤}
use Rattle.std.specs.Borrow.{follows_so, Fml, MutBor}
use mathlib.Core.Option.{none}
use Rattle.lot_engine.specs.Seen.{Seen}
use Rattle.lot_engine.specs.contracts.system.System.{the_row}

-- it is unchanged
abbrev pub EndsSame : MutBor Seen → Fml
EndsSame system = follows_so the_row the_row system.ghost_name none (λ _ _. ⊤) (λ last. last ≡ system.now)
