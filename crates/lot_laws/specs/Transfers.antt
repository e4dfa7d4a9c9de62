-- Transfers: a blocked thread lends its value to the thread that it waits for (3.1, 4.6, 6.1).
use Rattle.std.specs.Prelude.{◌≡◌, ℕ, nat_le, Bool, true, false, Some, List, [], map}
use Rattle.lot_machine.specs.declared.trap.Trap.TheVariants.{Call, Receive, Reply as ReplyTo, Serve, Lock}
use Rattle.lot_machine.specs.declared.event.Event.{Event}
use Rattle.lot_machine.specs.declared.event.Event.TheVariants.{Trap}
use Rattle.lot_machine.specs.declared.record.Status.TheVariants.{Ready}
use Rattle.lot_machine.specs.declared.reply.Reply.TheVariants.{Trapped}
use Rattle.lot_machine.specs.declared.reply.Outcome.TheVariants.{ServedBy, Queued, Received, Replied, RepliedThenReceived, RepliedThenWaits, Waits}
use Rattle.lot_machine.specs.Funding.{owner_of, backing_thread}
use Rattle.lot_machine.specs.Lends.{LendsTo, LendsLead}
use Rattle.lot_machine.specs.Value.{mutex_value}
use Rattle.lot_machine.specs.State.{State, Port, holder_of, funding_of, live_of, change_record, change_each}
use Rattle.lot_machine.specs.Ports.{port_at}
use Rattle.lot_machine.specs.Step.{step}

-- ---- events

-- the thread calls, and a server that waits at the port takes the call
abbrev pub TakesCall : State → Event → ℕ → ℕ → Type 0
TakesCall s e caller server =
    (p : ℕ) × (ran : ℕ) × (port : ℕ) × (number : ℕ) × (ticks : ℕ) × (ends : Bool) × (e ≡ Trap p ran (Call port number)) × ((step s e).reply ≡ Trapped caller ticks (ServedBy server) ends)

-- the thread calls, and no server waits at the port: the call is queued
abbrev pub QueuesCall : State → Event → ℕ → Type 0
QueuesCall s e caller =
    (p : ℕ) × (ran : ℕ) × (port : ℕ) × (number : ℕ) × (ticks : ℕ) × (ends : Bool) × (e ≡ Trap p ran (Call port number)) × ((step s e).reply ≡ Trapped caller ticks Queued ends)

-- the server receives, and takes the caller's queued call
abbrev pub TakesQueuedCall : State → Event → ℕ → ℕ → Type 0
TakesQueuedCall s e caller server =
    (p : ℕ) × (ran : ℕ) × (port : ℕ) × (number : ℕ) × (ticks : ℕ) × (ends : Bool) × (e ≡ Trap p ran (Receive port)) × ((step s e).reply ≡ Trapped server ticks (Received caller number) ends)

-- the server replies to the caller
abbrev pub RepliesTo : State → Event → ℕ → ℕ → Type 0
RepliesTo s e caller server =
    (p : ℕ) × (ran : ℕ) × (number : ℕ) × (ticks : ℕ) × (ends : Bool) × (e ≡ Trap p ran (ReplyTo number)) × ((step s e).reply ≡ Trapped server ticks (Replied caller) ends)

-- the server replies to the caller and receives, in one trap, and waits for a call
abbrev pub RepliesThenWaits : State → Event → ℕ → ℕ → Type 0
RepliesThenWaits s e caller server =
    (p : ℕ) × (ran : ℕ) × (port : ℕ) × (number : ℕ) × (ticks : ℕ) × (ends : Bool) × (e ≡ Trap p ran (Serve port number)) × ((step s e).reply ≡ Trapped server ticks (RepliedThenWaits caller) ends)

-- the server replies to the caller and receives, in one trap, and takes the next caller's queued call
abbrev pub RepliesThenReceives : State → Event → ℕ → ℕ → ℕ → Type 0
RepliesThenReceives s e caller next server =
    (p : ℕ) × (ran : ℕ) × (port : ℕ) × (number : ℕ) × (taken : ℕ) × (ticks : ℕ) × (ends : Bool) × (e ≡ Trap p ran (Serve port number))
    × ((step s e).reply ≡ Trapped server ticks (RepliedThenReceived caller next taken) ends)

-- the thread locks a mutex of the owner's, and waits for it
abbrev pub WaitsFor : State → Event → ℕ → ℕ → Type 0
WaitsFor s e t owner =
    (p : ℕ) × (ran : ℕ) × (m : ℕ) × (ticks : ℕ) × (ends : Bool) × (e ≡ Trap p ran (Lock m)) × ((step s e).reply ≡ Trapped t ticks Waits ends) × (owner_of (funding_of s) m ≡ Some owner)

-- blocked threads lend, except the callers of queued calls
abbrev pub LendsServed : State → Type 0
LendsServed s = (s.limits.without_lending ≡ false) × (s.limits.queued_lend ≡ false)

-- blocked threads lend, the callers of queued calls too
abbrev pub LendsQueued : State → Type 0
LendsQueued s = (s.limits.without_lending ≡ false) × (s.limits.queued_lend ≡ true)

-- the thread calls the port, and its call is queued
abbrev pub QueuesAt : State → Event → ℕ → ℕ → Type 0
QueuesAt s e caller port =
    (p : ℕ) × (ran : ℕ) × (number : ℕ) × (ticks : ℕ) × (ends : Bool) × (e ≡ Trap p ran (Call port number)) × ((step s e).reply ≡ Trapped caller ticks Queued ends)

-- the thread receives at the port, and takes the caller's queued call
abbrev pub TakesCallAt : State → Event → ℕ → ℕ → ℕ → Type 0
TakesCallAt s e port caller server =
    (p : ℕ) × (ran : ℕ) × (number : ℕ) × (ticks : ℕ) × (ends : Bool) × (e ≡ Trap p ran (Receive port)) × ((step s e).reply ≡ Trapped server ticks (Received caller number) ends)

-- the server replies to the caller and receives at the port, in one trap, and takes the next caller's queued call
abbrev pub ServesNextAt : State → Event → ℕ → ℕ → ℕ → ℕ → Type 0
ServesNextAt s e port caller next server =
    (p : ℕ) × (ran : ℕ) × (number : ℕ) × (taken : ℕ) × (ticks : ℕ) × (ends : Bool) × (e ≡ Trap p ran (Serve port number))
    × ((step s e).reply ≡ Trapped server ticks (RepliedThenReceived caller next taken) ends)

-- the threads whose calls are queued at the port, the longest wait first
abbrev pub callers_of : List Port → ℕ → List ℕ
callers_of ports port = map (λ call. call.caller) (port_at ports port).calls

-- the state with each of them Ready
abbrev pub with_callers_ready : State → ℕ → State
with_callers_ready s port = record s { records = change_each (λ r. record r { status = Ready }) s.records (callers_of s.ports port) }

-- the value that the port passes on: the sum of the values of the callers queued there
abbrev pub port_value : State → ℕ → ℕ
port_value s port = mutex_value s.limits.unit (funding_of s) (live_of s) (holder_of s.limits port)

-- the port exists, and the thread is its server: it took the last call there
abbrev pub Serves : State → ℕ → ℕ → Type 0
Serves s port server = (nat_le port s.limits.ports ≡ true) × (owner_of (funding_of s) (holder_of s.limits port) ≡ Some server)

-- the wait closes no cycle of lends: with `queued_lend` the owner's lends don't lead to the thread through a port
abbrev pub MayWait : State → ℕ → ℕ → Type 0
MayWait s t owner = s.limits.queued_lend ≡ true → ¬ LendsLead (funding_of s) owner t

-- ---- states

-- The thread has nothing of its own: no ticket funds it, and no thread lends to it, so it has no client, and no
-- thread waits for a mutex that it owns.
abbrev pub OwnsNothing : State → ℕ → Type 0
OwnsNothing s t = (backing_thread (funding_of s) t ≡ []) × ((u : ℕ) → ¬ LendsTo (funding_of s) u t)

-- the state with this thread Ready
abbrev pub with_ready : State → ℕ → State
with_ready s t = record s { records = change_record (λ r. record r { status = Ready }) s.records t }
