-- The ticks and draws of stretches in a moving window: those of the last ticks up to each tick.
use Rattle.std.specs.Prelude.{ℕ, ◌-◌, Option, Some, None, List, sum_by}
use Rattle.lot_curves.specs.declared.stretch.Measure.{Measure}
use Rattle.lot_curves.specs.declared.stretch.Measure.TheVariants.{Ticks, Draws}
use Rattle.lot_curves.specs.declared.stretch.Stretch.{Stretch}
use Rattle.lot_curves.specs.Stretches.{part_at, stretch_between}

-- the ticks or draws of a stretch between two ticks
abbrev pub part_between : Measure → ℕ → ℕ → Stretch → ℕ
part_between Ticks from to s = (stretch_between from to s).ticks
part_between Draws from to s = (stretch_between from to s).draws

-- The tick at which the window that ends at this tick begins, or the first tick without a window. A window longer than
-- the time so far begins at tick 0.
abbrev pub start_of : Option ℕ → ℕ → ℕ
start_of None tick = 0
start_of (Some window) tick = tick - window

-- the ticks or draws of a stretch in the window that ends at this tick, or up to the tick without one
abbrev pub part_in : Measure → Option ℕ → ℕ → Stretch → ℕ
part_in measure None tick s = part_at measure tick s
part_in measure (Some window) tick s = part_between measure (start_of (Some window) tick) tick s

-- the sum of these stretches' ticks or draws in the window that ends at this tick, or up to the tick without one
abbrev pub had_in : Measure → Option ℕ → ℕ → List Stretch → ℕ
had_in measure window tick stretches = sum_by (part_in measure window tick) stretches
