-- The effect of C's calls on a kernel.
use Rattle.std.specs.Prelude.{◌≡◌, ◌≢◌, ◌⊎◌, ℕ, Option, None, Some, IfSome, IsSomeAnd, Ok, Err, List, [], ◌∷◌, Result, length, ◌+◌, ◌<◌, ◌≤◌}
use Rattle.lot_machine.specs.declared.event.Event.{Event}
use Rattle.lot_machine.specs.declared.row.TicketRow.{TicketRow}
use Rattle.lot_machine.specs.declared.row.CurrencyRow.{CurrencyRow}
use Rattle.lot_machine.specs.declared.row.ThreadRow.{ThreadRow}
use Rattle.lot_machine.specs.declared.sizes.Sizes.{Sizes}
use Rattle.lot_machine.specs.declared.ticket.Ticket.{Ticket}
use Rattle.lot_machine.specs.Bounds.{IsWithinBounds}
use Rattle.lot_machine.specs.Facts.{IsSound}
use Rattle.lot_machine.specs.Funding.{ticket_in}
use Rattle.lot_machine.specs.Rows as rows
use Rattle.lot_machine.specs.State.{State, thread_at, thread_on, used_by}
use Rattle.lot_machine.specs.Step as machine
use Rattle.lot_machine.specs.Step.{step, state_after}
use Rattle.lot_value.specs.Caches.{HasNoneTwice}
use Rattle.lot_kernel.specs.Counted.{AreDone, Counts, settled, with_ticket_read}
use Rattle.lot_kernel.specs.Memory.{bytes_of}
use Rattle.lot_kernel.specs.Snapshots.{Snapshot, MakesStale, starting}
use Rattle.lot_c.specs.declared.event.PlainEvent.{PlainEvent}
use Rattle.lot_c.specs.declared.reply.PlainReply.{PlainReply}
use Rattle.lot_c.specs.declared.rows.PlainTicketRow.{PlainTicketRow}
use Rattle.lot_c.specs.declared.rows.PlainCurrencyRow.{PlainCurrencyRow}
use Rattle.lot_c.specs.declared.rows.PlainThreadRow.{PlainThreadRow}
use Rattle.lot_c.specs.declared.sizes.PlainRunner.{PlainRunner}
use Rattle.lot_c.specs.declared.sizes.PlainSizes.{PlainSizes}
use Rattle.lot_c.specs.declared.status.Status.{Status}
use Rattle.lot_c.specs.declared.status.Status.TheVariants.{Done, KernelThere, BadLimits, NoMemory, NotThere, NotSettled}
use Rattle.lot_c.specs.Counts.{sizes_meant}
use Rattle.lot_c.specs.Events.{event_meant}
use Rattle.lot_c.specs.Replies.{plain_reply}
use Rattle.lot_c.specs.Rows.{plain_ticket_row, plain_currency_row, plain_thread_row}
use Rattle.lot_c.specs.Numbers.{code}

-- A call through a handle, given its old and new contents. Without a kernel the first statement holds, and the handle
-- stays without one. With a kernel the second holds of it before and after.
abbrev pub Through : Option Snapshot → Option Snapshot → Type 0 → (Snapshot → Snapshot → Type 0) → Type 0
Through None after none found = (after ≡ None) × none
Through (Some before) after none found = IsSomeAnd after (found before)

-- The making of a kernel: refused if the handle has one or a size is out of its bounds. Otherwise the kernel is in the
-- opening state, or there is none if out of memory.
pub record Opens (sizes : PlainSizes) (status : ℕ) (old new : Option Snapshot) : Type 0 where
  pub there : (k : Snapshot) → old ≡ Some k → (status ≡ code KernelThere) × (new ≡ Some k)
  pub limits : old ≡ None → ¬ IsWithinBounds (sizes_meant sizes) → (status ≡ code BadLimits) × (new ≡ None)
  pub made : old ≡ None → IsWithinBounds (sizes_meant sizes) → ((status ≡ code Done) × (new ≡ Some (starting (sizes_meant sizes)))) ⊎ ((status ≡ code NoMemory) × (new ≡ None))

-- the bytes of a kernel's box, in addition to those of its tables
abbrev pub box_bytes : ℕ
box_bytes = 1456

-- the status and the bytes of a kernel with these sizes, if they are within their bounds
pub record TellsBytes (sizes : PlainSizes) (status before after : ℕ) : Type 0 where
  pub limits : ¬ IsWithinBounds (sizes_meant sizes) → (status ≡ code BadLimits) × (after ≡ before)
  pub bytes : IsWithinBounds (sizes_meant sizes) → (status ≡ code Done) × (after ≡ bytes_of (sizes_meant sizes) + box_bytes)

-- the kernel after an event: its state is the machine's and sound, and staleness and counts are those of
-- `Kernel::event`
pub record Answers (e : Event) (old new : Snapshot) : Type 0 where
  pub state : new.state ≡ (step old.state e).state
  pub sound : IsSound new.state
  pub stale : MakesStale old new
  pub counts : Counts e (step old.state e).reply old new

-- The call with these fields: for a valid event it stores the reply; otherwise it changes nothing, and the status
-- gives the reason.
pub record IsAnswered (fields : PlainEvent) (status : ℕ) (old new : Snapshot) (before after : PlainReply) : Type 0 where
  pub reply : (e : Event) → event_meant old.state.limits fields ≡ Ok e → (status ≡ code Done) × (after ≡ plain_reply (step old.state e).reply)
  pub kernel : (e : Event) → event_meant old.state.limits fields ≡ Ok e → Answers e old new
  pub fault : (why : Status) → event_meant old.state.limits fields ≡ Err why → (status ≡ code why) × (new ≡ old) × (after ≡ before)

-- ---- many events

-- the events with one more in front if it is valid, and otherwise none
abbrev pub in_front : Result Event Status → List Event → List Event
in_front (Ok e) events = e ∷ events
in_front (Err why) events = []

-- the events up to the first invalid fields, for a kernel with these sizes
abbrev pub events_meant : Sizes → List PlainEvent → List Event
events_meant sizes [] = []
events_meant sizes (fields ∷ others) = in_front (event_meant sizes fields) (events_meant sizes others)

-- the status for an invalid event, otherwise the given one
abbrev pub fault_or : Result Event Status → Status → Status
fault_or (Ok e) other = other
fault_or (Err why) other = why

-- the status for the first invalid fields, or `Done`
abbrev pub first_fault : Sizes → List PlainEvent → Status
first_fault sizes [] = Done
first_fault sizes (fields ∷ others) = fault_or (event_meant sizes fields) (first_fault sizes others)

-- the machine's replies to an event and to those after it if it is valid, otherwise the old replies
abbrev pub written_by : State → Result Event Status → PlainReply → (State → List PlainReply) → List PlainReply → List PlainReply
written_by s (Ok e) reply next others = plain_reply (step s e).reply ∷ next (step s e).state
written_by s (Err why) reply next others = reply ∷ others

-- the replies to events in order up to the first invalid fields, followed by the old contents
abbrev pub replies_written : State → List PlainEvent → List PlainReply → List PlainReply
replies_written s (fields ∷ events) (reply ∷ others) = written_by s (event_meant s.limits fields) reply (λ after. replies_written after events others) others
replies_written s events others = others

-- The call with these fields in order: it makes the valid events before the first invalid one, each as `Kernel::event`
-- does.
pub record AreAnswered (fields : List PlainEvent) (status done : ℕ) (old new : Snapshot) (before after : List PlainReply) : Type 0 where
  pub status_is : status ≡ code (first_fault old.state.limits fields)
  pub done_are : done ≡ length (events_meant old.state.limits fields)
  pub replies : after ≡ replies_written old.state fields before
  pub state : new.state ≡ state_after old.state (events_meant old.state.limits fields)
  pub kernel : AreDone (events_meant old.state.limits fields) (machine.replies old.state (events_meant old.state.limits fields)) old new

-- ---- rows and queries

-- the row of a ticket, if it exists; like `Kernel::ticket_row`, the call recomputes stale values, which the meter
-- counts
pub record ShowsTicket (ticket status : ℕ) (old new : Snapshot) (before after : PlainTicketRow) : Type 0 where
  pub row : (t : TicketRow) → rows.ticket_row old.state ticket ≡ Some t → (status ≡ code Done) × (after ≡ plain_ticket_row t) × HasNoneTwice old.stale
  pub not_there : rows.ticket_row old.state ticket ≡ None → (status ≡ code NotThere) × (new ≡ old) × (after ≡ before)
  pub state : new.state ≡ old.state
  pub reads : (t : Ticket) → ticket_in old.state.tickets ticket ≡ Some t → new ≡ record (settled old) { meter = with_ticket_read (settled old).meter t }

-- the row of a currency, if it exists
pub record ShowsCurrency (currency status : ℕ) (old new : Snapshot) (before after : PlainCurrencyRow) : Type 0 where
  pub row : (r : CurrencyRow) → rows.currency_row old.state currency ≡ Some r → (status ≡ code Done) × (after ≡ plain_currency_row r) × HasNoneTwice old.stale × (new ≡ settled old)
  pub not_there : rows.currency_row old.state currency ≡ None → (status ≡ code NotThere) × (new ≡ old) × (after ≡ before)
  pub state : new.state ≡ old.state

-- the row of a thread, if it exists
pub record ShowsThread (thread status : ℕ) (old new : Snapshot) (before after : PlainThreadRow) : Type 0 where
  pub row : (r : ThreadRow) → rows.thread_row old.state thread ≡ Some r → (status ≡ code Done) × (after ≡ plain_thread_row r) × HasNoneTwice old.stale × (new ≡ settled old)
  pub not_there : rows.thread_row old.state thread ≡ None → (status ≡ code NotThere) × (new ≡ old) × (after ≡ before)
  pub state : new.state ≡ old.state

-- no value is stale, and each edge into a stale node was counted once
pub record IsSettledBy (status : ℕ) (old new : Snapshot) : Type 0 where
  pub done : status ≡ code Done
  pub kernel : new ≡ settled old
  pub once : HasNoneTwice old.stale

-- the row of a ticket in a call that only reads the kernel, if it exists and no value is stale
pub record ShowsSettledTicket (ticket status : ℕ) (k : Snapshot) (before after : PlainTicketRow) : Type 0 where
  pub stale : k.stale ≢ [] → (status ≡ code NotSettled) × (after ≡ before)
  pub row : (r : TicketRow) → k.stale ≡ [] → rows.ticket_row k.state ticket ≡ Some r → (status ≡ code Done) × (after ≡ plain_ticket_row r)
  pub not_there : k.stale ≡ [] → rows.ticket_row k.state ticket ≡ None → (status ≡ code NotThere) × (after ≡ before)

-- the row of a currency in the same way
pub record ShowsSettledCurrency (currency status : ℕ) (k : Snapshot) (before after : PlainCurrencyRow) : Type 0 where
  pub stale : k.stale ≢ [] → (status ≡ code NotSettled) × (after ≡ before)
  pub row : (r : CurrencyRow) → k.stale ≡ [] → rows.currency_row k.state currency ≡ Some r → (status ≡ code Done) × (after ≡ plain_currency_row r)
  pub not_there : k.stale ≡ [] → rows.currency_row k.state currency ≡ None → (status ≡ code NotThere) × (after ≡ before)

-- the row of a thread in the same way
pub record ShowsSettledThread (thread status : ℕ) (k : Snapshot) (before after : PlainThreadRow) : Type 0 where
  pub stale : k.stale ≢ [] → (status ≡ code NotSettled) × (after ≡ before)
  pub row : (r : ThreadRow) → k.stale ≡ [] → rows.thread_row k.state thread ≡ Some r → (status ≡ code Done) × (after ≡ plain_thread_row r)
  pub not_there : k.stale ≡ [] → rows.thread_row k.state thread ≡ None → (status ≡ code NotThere) × (after ≡ before)

-- the thread that runs on a processor, if there is one
pub record ShowsRunner (processor status : ℕ) (k : Snapshot) (before after : PlainRunner) : Type 0 where
  pub nobody : thread_on k.state.records processor ≡ None → (status ≡ code NotThere) × (after ≡ before)
  pub runs : (t : ℕ) → thread_on k.state.records processor ≡ Some t → (status ≡ code Done) × (after.thread ≡ t) × (used_by k.state.records processor t ≡ Some after.used)
  pub there : (t : ℕ) → thread_on k.state.records processor ≡ Some t → (0 < after.thread) × (after.thread ≤ length k.state.records) × (after.used < k.state.limits.quantum)

-- the number of a thread's script, if there is such a thread
pub record ShowsScript (thread status : ℕ) (k : Snapshot) (before after : ℕ) : Type 0 where
  pub none : thread_at k.state.threads thread ≡ None → (status ≡ code NotThere) × (after ≡ before)
  pub script : IfSome (thread_at k.state.threads thread) (λ t. (status ≡ code Done) × (after ≡ t.script))
