-- The counts of events: edges read, and places of the tree of weights visited.
use Rattle.std.specs.Prelude.{◌≡◌, ℕ, List, [], ◌∷◌, Contains, Some, if◌then◌else◌}
use Rattle.lot_machine.specs.Actions.{Action}
use Rattle.lot_machine.specs.declared.trap.Trap.TheVariants.{Unlock}
use Rattle.lot_machine.specs.declared.event.Event.{Event}
use Rattle.lot_machine.specs.declared.event.Event.TheVariants.{Draw, Trap}
use Rattle.lot_machine.specs.declared.funding.Node.{Node}
use Rattle.lot_machine.specs.declared.funding.Node.TheVariants.{Thread}
use Rattle.lot_machine.specs.declared.reply.Outcome.{Outcome}
use Rattle.lot_machine.specs.declared.reply.Outcome.TheVariants.{Passed}
use Rattle.lot_machine.specs.declared.reply.Reply.{Reply}
use Rattle.lot_machine.specs.declared.reply.Reply.TheVariants.{Winner, Idle, Trapped}
use Rattle.lot_machine.specs.declared.ticket.Ticket.{Ticket}
use Rattle.lot_machine.specs.Commands.{is_funding}
use Rattle.lot_machine.specs.Facts.{IsSound}
use Rattle.lot_machine.specs.Mutexes.{mutex_at}
use Rattle.lot_machine.specs.State.{funding_of}
use Rattle.lot_machine.specs.Step.{step}
use Rattle.lot_tree.specs.Visits.{CountsReads}
use Rattle.lot_value.specs.Caches.{HasNoneTwice, edges_into_all}
use Rattle.lot_value.specs.Counts.{counted_up}
use Rattle.lot_value.specs.declared.meter.Meter.{Meter}
use Rattle.lot_kernel.specs.Snapshots.{Snapshot, MakesStale}

-- the counts after each edge into a stale node is read once
abbrev pub settled_meter : Snapshot → Meter
settled_meter old = record old.meter { ticket_reads = counted_up old.meter.ticket_reads (edges_into_all (funding_of old.state) old.stale) }

-- the snapshot after the value of each stale node is recomputed
abbrev pub settled : Snapshot → Snapshot
settled old = record old { stale = []; meter = settled_meter old }

-- the counts after one more read of the ticket, if it funds something
abbrev pub with_ticket_read : Meter → Ticket → Meter
with_ticket_read meter t = if is_funding t then record meter { ticket_reads = counted_up meter.ticket_reads 1 } else meter

-- each node that was stale remains stale
abbrev pub KeepsStale : Snapshot → Snapshot → Type 0
KeepsStale old new = (x : Node) → Contains old.stale x → Contains new.stale x

-- computes no value: stale nodes remain stale, and the counts stay
pub record CountsNothing (old new : Snapshot) : Type 0 where
  pub kept : KeepsStale old new
  pub meter : new.meter ≡ old.meter

-- afterwards no node is stale, and each edge into a stale node was read once: no node was listed twice
pub record Settles (old new : Snapshot) : Type 0 where
  pub fresh : new.stale ≡ []
  pub once : HasNoneTwice old.stale
  pub reads : new.meter.ticket_reads ≡ (settled_meter old).ticket_reads

-- For its lottery, an unlock that passes its mutex on reads each edge into a stale node once and visits no place of the
-- tree. Afterwards the old owner and the next one are stale.
pub record PassesOn (mutex to : ℕ) (old new : Snapshot) : Type 0 where
  pub once : HasNoneTwice old.stale
  pub meter : new.meter ≡ settled_meter old
  pub owner : (owner : ℕ) → (mutex_at old.state.mutexes mutex).owner ≡ Some owner → Contains new.stale (Thread owner)
  pub next : Contains new.stale (Thread to)

-- A trap counts nothing, except an unlock that passes its mutex on.
abbrev pub CountsTrap : Action → Outcome → Snapshot → Snapshot → Type 0
CountsTrap (Unlock mutex d) (Passed to draw) old new = PassesOn mutex to old new
CountsTrap action outcome old new = CountsNothing old new

-- The counts of an event, given its reply. A draw that the kernel doesn't refuse settles. With a winner it visits at
-- least one place of the tree of weights, and at most as many as any binary numeral of the limit on threads has digits;
-- otherwise it visits none. For a trap see `CountsTrap`. Any other event, and a refused draw, counts nothing.
abbrev pub Counts : Event → Reply → Snapshot → Snapshot → Type 0
Counts (Draw processor d) (Winner thread number total delivered) old new =
    Settles old new × CountsReads old.state.limits.threads old.meter.tree_visits new.meter.tree_visits
Counts (Draw processor d) Idle old new = Settles old new × (new.meter.tree_visits ≡ old.meter.tree_visits)
Counts (Trap processor ran action) (Trapped thread ticks outcome ends) old new = CountsTrap action outcome old new
Counts event reply old new = CountsNothing old new

-- one event and its reply, the nodes that get stale, and the event's counts
pub record IsDone (event : Event) (answer : Reply) (old new : Snapshot) : Type 0 where
  pub reply : answer ≡ (step old.state event).reply
  pub state : new.state ≡ (step old.state event).state
  pub sound : IsSound new.state
  pub stale : MakesStale old new
  pub counts : Counts event answer old new

-- Events in order with their replies: each is done in the snapshot after the one before it.
abbrev pub AreDone : List Event → List Reply → Snapshot → Snapshot → Type 0
AreDone (event ∷ events) (reply ∷ replies) old new = (mid : Snapshot) × IsDone event reply old mid × AreDone events replies mid new
AreDone [] [] old new = new ≡ old
AreDone events replies old new = ⊥
