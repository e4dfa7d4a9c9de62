-- A program's turns, split at one of them.
use Rattle.lot_playback.proofs.Common.{List, Moment, Program, TimedTurn, World, drop, moment_after, moment_after_all, refl, scheduled_turns, suc, system_after, system_turn, take, turns_in_time, zero, ℕ, [], ◌∷◌, ◌≡◌}

-- the turns of a schedule from a place on
pub drop-scheduled : (program : Program) (w : World) (actors : List ℕ) (n : ℕ)
    → drop n (scheduled_turns program w actors) ≡ scheduled_turns program (system_after program w (take n actors))
    (drop n actors)
drop-scheduled program w [] zero = refl
drop-scheduled program w [] (suc n) = refl
drop-scheduled program w (a ∷ actors) zero = refl
drop-scheduled program w (a ∷ actors) (suc n) = drop-scheduled program (system_turn program w a).world actors n

-- the world that turns in the order of time leave
abbrev pub world_after_timed : World → List TimedTurn → World
world_after_timed w [] = w
world_after_timed w (done ∷ others) = world_after_timed done.turn.world others

-- turns in the order of time from a place on
pub drop-timed : (w : World) (turns : List TimedTurn) (n : ℕ)
    → drop n (turns_in_time w turns) ≡ turns_in_time (world_after_timed w (take n turns)) (drop n turns)
drop-timed w [] zero = refl
drop-timed w [] (suc n) = refl
drop-timed w (t ∷ turns) zero = refl
drop-timed w (t ∷ turns) (suc n) = drop-timed t.turn.world turns n

-- the world of the moment after turns is the one that they leave
pub moment-world : (m : Moment) (turns : List TimedTurn)
    → (moment_after_all m turns).world ≡ world_after_timed m.world turns
moment-world m [] = refl
moment-world m (t ∷ turns) = moment-world (moment_after m t) turns

-- no turn is made of none
pub none-scheduled : (program : Program) (w : World) (actors : List ℕ) → scheduled_turns program w actors ≡ []
    → actors ≡ []
none-scheduled program w [] none = refl
none-scheduled program w (a ∷ actors) none = cc

pub none-timed : (w : World) (turns : List TimedTurn) → turns_in_time w turns ≡ [] → turns ≡ []
none-timed w [] none = refl
none-timed w (t ∷ turns) none = cc
