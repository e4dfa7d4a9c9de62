-- The curves of an interval of time.
use Rattle.std.specs.Prelude.{ℕ, ◌+◌, min, Option, Some, None, map, unwrap_or}
use Rattle.lot_curves.specs.declared.interval.Interval.{Interval}
use Rattle.lot_curves.specs.Curves.{Curves}
use Rattle.lot_curves.specs.Stretches.{last_end, stretch_between}

-- the curves between two ticks, which begin at the first
abbrev pub curves_between : ℕ → ℕ → Curves → Curves
curves_between from to curves = record curves {
  stretches = map (stretch_between from to) curves.stretches;
  origin = curves.origin + from;
}

-- The curves of an interval, or all without one. If the interval begins after the last turn, it begins at its end
-- instead. Without an end it ends with the last turn.
abbrev pub curves_within : Option Interval → Curves → Curves
curves_within None curves = curves
curves_within (Some interval) curves = curves_between (min interval.from (last_end curves.stretches)) (unwrap_or interval.to (last_end curves.stretches)) curves
