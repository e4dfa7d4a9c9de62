-- The stored history of a system.
use Rattle.std.specs.List.{filter_map}
use Rattle.std.specs.Prelude.{◌≡◌, ℕ, ◌+◌, ◌-◌, ◌<◌, ◌≤◌, Bool, true, List, [], ◌∷◌, All, cond, nat_lt, count_by, drop, length, slice_index_or, Some, None}

-- the number of processors, and the room for turns and for wakes
pub record HistorySize : Type 0 where
  pub processors : ℕ
  pub turns : ℕ
  pub wakes : ℕ

-- the actors of the turns so far
pub record KeptHistory : Type 0 where
  pub items : List ℕ
  pub size : HistorySize

-- the actors of these bytes: one above the processors is the timer, which wakes the next of the woken threads
abbrev pub actors_from : ℕ → List ℕ → List ℕ → List ℕ
actors_from p [] woken = []
actors_from p (actor ∷ rest) woken =
    cond (nat_lt p actor) ((p + slice_index_or woken 0 0) ∷ actors_from p rest (drop 1 woken)) (actor ∷ actors_from p rest woken)

-- the threads that the timer wakes in these turns, with p processors
abbrev pub woken_in : ℕ → List ℕ → List ℕ
woken_in p actors = filter_map (λ actor. cond (nat_lt p actor) (Some (actor - p)) None) actors

-- each actor fits in a byte, and as many threads were woken as the timer has turns
pub record IsKept (p : ℕ) (actors woken : List ℕ) : Type 0 where
  pub few : p < 255
  pub each : All (λ actor. actor ≤ p + 1) actors
  pub threads : All (λ thread. 0 < thread) woken
  pub wakes : count_by (nat_lt p) actors ≡ length woken

-- there are no turns, and room for this many; with a timer each may be a wake
pub record HasOpened (p room : ℕ) (timer : Bool) (history : KeptHistory) : Type 0 where
  pub none : history.items ≡ []
  pub processors : history.size.processors ≡ p
  pub turns : room ≤ history.size.turns
  pub wakes : timer ≡ true → room ≤ history.size.wakes
