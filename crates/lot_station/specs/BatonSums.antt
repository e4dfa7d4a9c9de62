-- Sums over the turns of a history, and over those of one actor.
use Rattle.std.specs.Prelude.{◌≡◌, ℕ, ◌+◌, List, [], ◌∷◌, sum_by, if◌then◌else◌, ◌==◌}
use Rattle.lot_simulation.specs.World.{Program, World, opening_world, system_turn}
use Rattle.lot_engine.specs.Seen.{Seen}
use Rattle.lot_station.specs.BatonSeats.{Seat, seat_counts}
use Rattle.lot_station.specs.Settings.{counts_of}

-- the sum of this number of each turn over a history
abbrev pub summed : (World → ℕ → ℕ) → Program → World → List ℕ → ℕ
summed f program w [] = 0
summed f program w (a ∷ rest) = f w a + summed f program (system_turn program w a).world rest

-- the sum of this number of each turn over one actor's turns in a history
abbrev pub summed_by : (World → ℕ → ℕ) → Program → ℕ → World → List ℕ → ℕ
summed_by f program b w [] = 0
summed_by f program b w (a ∷ rest) = (if a == b then f w a else 0) + summed_by f program b (system_turn program w a).world rest

-- a seat's share of such a sum, over its actor's turns in the history that it has seen
abbrev pub share : (World → ℕ → ℕ) → Seat → ℕ
share f s = summed_by f s.seen.setting.program s.actor (opening_world s.seen.setting.program) s.seen.history

-- every sum over all turns is the sum of the seats' shares
abbrev pub AddUp : Seen → List Seat → Type 0
AddUp x seats = (f : World → ℕ → ℕ) → summed f x.setting.program (opening_world x.setting.program) x.history ≡ sum_by (share f) seats

-- the numbers of turns, quanta, idle draws and ticks are the sums of the seats'
pub record CountsAddUp (x : Seen) (seats : List Seat) : Type 0 where
  pub turns : (counts_of x).turns ≡ sum_by (λ s. (seat_counts s).turns) seats
  pub quanta : (counts_of x).quanta ≡ sum_by (λ s. (seat_counts s).quanta) seats
  pub idles : (counts_of x).idles ≡ sum_by (λ s. (seat_counts s).idles) seats
  pub ticks : (counts_of x).ticks ≡ sum_by (λ s. (seat_counts s).ticks) seats
