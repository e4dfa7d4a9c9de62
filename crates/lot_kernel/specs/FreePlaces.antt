-- The free places that a kernel keeps for `reuse`.
use Rattle.std.specs.Prelude.{◌≡◌, ℕ, ◌+◌, Some, None, [], if◌then◌else◌, slice_get}
use Rattle.lot_machine.specs.declared.sizes.Sizes.{Sizes}
use Rattle.lot_machine.specs.State.{State, Freed, free_threads}
use Rattle.lot_kernel.specs.declared.freed.Freed.{Freed as Stacks}

-- no place is free
abbrev pub none_free : Freed
none_free = record { tickets = []; currencies = []; threads = [] }

-- the free places of the three tables
abbrev pub freed_in : Stacks → Freed
freed_in s = record { tickets = s.tickets.places; currencies = s.currencies.places; threads = s.threads.places }

-- the capacity for this many places: all of them with `reuse`, otherwise none
abbrev pub room_for : Sizes → ℕ → ℕ
room_for sizes places = if sizes.reuse then places else 0

-- with `reuse`, capacity for each place within the limits; otherwise none
pub record HasRoomFor (sizes : Sizes) (s : Stacks) : Type 0 where
  pub tickets : s.tickets.room ≡ room_for sizes sizes.tickets
  pub currencies : s.currencies.room ≡ room_for sizes (sizes.currencies + 1)
  pub threads : s.threads.room ≡ room_for sizes sizes.threads

-- the first free place of threads, if there is one, is a gap, and no thread is served there
abbrev pub HasIdlePlace : State → Type 0
HasIdlePlace s = (place : ℕ) → slice_get (free_threads s) 0 ≡ Some place → (slice_get s.threads place ≡ Some None) × (slice_get s.clients place ≡ Some [])
