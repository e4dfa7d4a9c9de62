-- The competitors in draws, and the winner of one.
use Rattle.std.specs.Prelude.{◌≡◌, ℕ, ◌<◌, ◌≤◌, Option, Some, None, IfSome, is_some, option_and_then, List, length, map, filter, slice_index, if◌then◌else◌}
use Rattle.std.specs.Option.{option_flatten}
use Rattle.lot_machine.specs.declared.drawn.Drawn.{Drawn}
use Rattle.lot_machine.specs.declared.record.Record.{Record}
use Rattle.lot_machine.specs.Numbered.{at_number, numbers}
use Rattle.lot_machine.specs.Lottery.{weight, winner}
use Rattle.lot_machine.specs.State.{is_ready}
use Rattle.lot_draw.specs.declared.competing.Competitor.{Competitor}
use Rattle.lot_draw.specs.declared.competing.Winner.{Winner}

-- the part in a draw of the thread with this number, if it competes
abbrev pub competitor_at : List (Option Competitor) → ℕ → Option Competitor
competitor_at competitors t = option_flatten (at_number competitors t)

-- the competing threads, in ascending order
abbrev pub competing_threads : List (Option Competitor) → List ℕ
competing_threads competitors = filter (λ t. is_some (competitor_at competitors t)) (numbers competitors)

-- a compensation is at least one tick
abbrev pub HasTicks : Option Competitor → Type 0
HasTicks None = Unit {0}
HasTicks (Some c) = IfSome c.compensation (λ used. 0 < used)

-- the weight of a thread with this value and this part in a draw: 0 if it doesn't compete
abbrev pub weight_with : ℕ → ℕ → Option Competitor → ℕ
weight_with value quantum None = 0
weight_with value quantum (Some c) = weight value c.compensation quantum

-- the weight of the thread with this number, given the threads' values
abbrev pub weight_among : ℕ → List (Option Competitor) → (ℕ → ℕ) → ℕ → ℕ
weight_among quantum competitors worth t = weight_with (worth t) quantum (competitor_at competitors t)

-- the winner among these threads
abbrev pub winner_among : List ℕ → Option Drawn → Option Winner
winner_among threads None = None
winner_among threads (Some w) = Some (record { thread = slice_index threads w.place; number = w.number; total = w.total })

-- A draw: the lottery over the weights of the competing threads, in ascending order, given the threads' values (4.2).
abbrev pub drawn_among : ℕ → List (Option Competitor) → (ℕ → ℕ) → ℕ → Option Winner
drawn_among quantum competitors worth d =
    winner_among (competing_threads competitors) (winner (map (weight_among quantum competitors worth) (competing_threads competitors)) d)

-- the part in a draw of the thread with this record: its compensation, if it is Ready (4.2, 4.5)
abbrev pub competitor_of : Record → Option Competitor
competitor_of r = if is_ready r.status then Some (record { compensation = r.compensation }) else None

-- the competitors are the Ready threads of these records, and there is a place for each thread
pub record AreReady (records : List Record) (competitors : List (Option Competitor)) : Type 0 where
  pub few : length records ≤ length competitors
  pub each : (t : ℕ) → competitor_at competitors t ≡ option_and_then competitor_of (at_number records t)
