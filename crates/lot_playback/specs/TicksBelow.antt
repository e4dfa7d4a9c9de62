-- The ticks of the threads below currencies, turn by turn.
use Rattle.std.specs.Prelude.{◌≡◌, ◌↔◌, ℕ, ◌+◌, ◌*◌, ◌^◌, ◌<◌, ◌≤◌, ⊤, Some, IsTrue, List, length, slice_index}
use Rattle.lot_machine.specs.declared.reply.Reply.{Reply}
use Rattle.lot_machine.specs.declared.reply.Reply.TheVariants as reply
use Rattle.lot_machine.specs.State.{State, thread_on}
use Rattle.lot_graph.specs.Found.{FoundNodes, HasFound}
use Rattle.lot_simulation.specs.Below.{stands_below}
use Rattle.lot_simulation.specs.Timed.{TimedTurn}
use Rattle.lot_simulation.specs.TimedReport.{currency_ticks_after, currency_ticks_in}
use Rattle.lot_simulation.specs.World.{TurnAnswer}
use Rattle.lot_playback.specs.declared.currencies.CurrencyTable.{CurrencyTable}
use Rattle.lot_playback.specs.declared.sharers.Sharers.TheVariants.{Currencies}
use Rattle.lot_playback.specs.Owed.{AreDue}

-- ---- the thread of a turn

-- of the currencies other than base, the search has found exactly those that the thread stands below
abbrev pub HasOthersAbove : State → ℕ → FoundNodes → Type 0
HasOthersAbove s t above = (c : ℕ) → 0 < c → c < length s.currencies → HasFound above c ↔ IsTrue (stands_below s c t)

-- if the reply says that a thread ran, the thread ran on this processor
abbrev pub RanOn : State → ℕ → Reply → Type 0
RanOn s p (reply.Expired t ticks) = (0 < p) × (thread_on s.records p ≡ Some t)
RanOn s p (reply.Trapped t ticks came ends) = (0 < p) × (thread_on s.records p ≡ Some t)
RanOn s p other = ⊤

-- if the reply says that a thread ran, the search has found the currencies above it
abbrev pub HasFoundFor : State → Reply → FoundNodes → Type 0
HasFoundFor s (reply.Expired t ticks) above = HasOthersAbove s t above
HasFoundFor s (reply.Trapped t ticks came ends) above = HasOthersAbove s t above
HasFoundFor s other above = ⊤

-- ---- the table

-- each of the first `first` currencies has these ticks more if the search found it; the others are unchanged
pub record HaveAdded (above : FoundNodes) (ticks first : ℕ) (old new : List ℕ) : Type 0 where
  pub count : length new ≡ length old
  pub found : (place : ℕ) → place < first → place < length old → HasFound above (place + 1) → slice_index new place ≡ slice_index old place + ticks
  pub others : (place : ℕ) → place < length old → ¬ HasFound above (place + 1) → slice_index new place ≡ slice_index old place
  pub left : (place : ℕ) → first ≤ place → place < length old → slice_index new place ≡ slice_index old place
  pub least : (place : ℕ) → place < length old → slice_index old place ≤ slice_index new place
  pub most : (place : ℕ) → place < length old → slice_index new place ≤ slice_index old place + ticks

-- each currency of the second state has the ticks of the threads below it after a turn made in the first, with this
-- answer
pub record HaveRun (s next : State) (answer : TurnAnswer) (old new : List ℕ) : Type 0 where
  pub count : length new ≡ length old
  pub each : (place : ℕ) → place < length old → place + 1 < length next.currencies → slice_index new place ≡ currency_ticks_after s (place + 1) (slice_index old place) answer
  pub few : (place : ℕ) → place < length old → slice_index new place ≤ slice_index old place + 2 ^ 32

-- Each currency's ticks and due parts after these turns, the first of which was made in the first state, and which led
-- to the other. The ticks are within the range of n turns.
pub record AreCurrencies (first : State) (done : List TimedTurn) (n : ℕ) (s : State) (table : CurrencyTable) : Type 0 where
  pub ticks : (place : ℕ) → place < length table.ticks.items → place + 1 < length s.currencies → slice_index table.ticks.items place ≡ currency_ticks_in first done (place + 1)
  pub few : (place : ℕ) → place < length table.ticks.items → slice_index table.ticks.items place ≤ n * 2 ^ 32
  pub dues : AreDue Currencies first done n s table.dues
