-- Runs and states that are small enough to compute by hand.
use Rattle.std.specs.Prelude.{Some, ◌==◌, ◌||◌, Bool, false, List, [], ◌∷◌, ◌++◌, codes}
use Rattle.lot_machine.specs.declared.trap.Trap.TheVariants.{Call, Receive, Lock, Exit}
use Rattle.lot_machine.specs.declared.event.Event.{Event}
use Rattle.lot_machine.specs.declared.event.Event.TheVariants.{Draw, Trap}
use Rattle.lot_machine.specs.declared.ticket.Target.TheVariants.{Currency, Thread}
use Rattle.lot_machine.specs.declared.funding.Node.{Node}
use Rattle.lot_machine.specs.declared.funding.Node.TheVariants as nodes
use Rattle.lot_machine.specs.State.{State}
use Rattle.lot_machine.specs.Worked.{after, base, mktkt, rmtkt, mkcur, rmcur, mkthr, fund, unfund, fundx}
use Rattle.lot_machine.specs.WorkedRuns.{halves}

-- a currency of 5 base whose only ticket has the amount 0
abbrev pub nothing_to_share : State
nothing_to_share = record (after halves) { tickets = Some (record { amount = 5; issuer = 0; target = Currency 1 }) ∷ Some (record { amount = 0; issuer = 1; target = Thread 1 }) ∷ [] }

-- two currencies of 100 base, each with a thread
abbrev pub two_currencies : List Event
two_currencies = mkcur (codes "g") ∷ mkcur (codes "h") ∷ mktkt 100 base ∷ fund 1 (codes "g") ∷ mktkt 100 base ∷ fund 2 (codes "h") ∷ fundx 1 (codes "g") (codes "a") ∷ fundx 1 (codes "h") (codes "b") ∷ []

-- `two_currencies`, and one more thread in the first currency
abbrev pub three_threads : List Event
three_threads = two_currencies ++ fundx 1 (codes "g") (codes "c") ∷ []

-- `three_threads`, and then the first thread runs
abbrev pub first_of_three_runs : List Event
first_of_three_runs = three_threads ++ Draw 1 0 ∷ []

-- a server with no ticket that waits for a call, and a thread that runs
abbrev pub waiting_server : List Event
waiting_server = mkthr (codes "v") ∷ fundx 400 base (codes "c") ∷ mktkt 1 base ∷ fund 2 (codes "v") ∷ Draw 1 0 ∷ Trap 1 0 (Receive 1) ∷ unfund 2 ∷ Draw 1 0 ∷ []

-- a server and a thread of one currency: the server waits for a call, and the thread runs
abbrev pub server_with_a_ticket : List Event
server_with_a_ticket = mkcur (codes "g") ∷ mktkt 100 base ∷ fund 1 (codes "g") ∷ fundx 1 (codes "g") (codes "v") ∷ fundx 1 (codes "g") (codes "c") ∷ Draw 1 0 ∷ Trap 1 0 (Receive 1) ∷ Draw 1 0 ∷ []

-- a server with no ticket that runs on one processor, and a thread that runs on another
abbrev pub busy_server : List Event
busy_server = mkthr (codes "v") ∷ fundx 400 base (codes "c") ∷ mktkt 1 base ∷ fund 2 (codes "v") ∷ Draw 1 0 ∷ unfund 2 ∷ Draw 2 0 ∷ []

-- a server without tickets that serves a thread of 400 base, and another thread of 100 base whose call is queued
abbrev pub two_callers : List Event
two_callers = busy_server ++ Trap 2 0 (Call 1 9) ∷ Trap 1 0 (Receive 1) ∷ fundx 100 base (codes "d") ∷ Draw 2 0 ∷ Trap 2 0 (Call 1 8) ∷ []

-- a thread that owns a mutex and runs, and another that runs
abbrev pub owner_runs : List Event
owner_runs = fundx 50 base (codes "a") ∷ fundx 100 base (codes "b") ∷ Draw 1 0 ∷ Trap 1 0 (Lock 1) ∷ Draw 2 0 ∷ []

-- the run `owner_runs`, except that the owner waits for a call
abbrev pub owner_receives : List Event
owner_receives = owner_runs ++ Trap 1 0 (Receive 1) ∷ []

-- threads of 1, 2 and 1 base: the first owns a mutex and runs, and the others wait for it
abbrev pub two_waiters : List Event
two_waiters = fundx 1 base (codes "a") ∷ fundx 2 base (codes "b") ∷ fundx 1 base (codes "c") ∷ Draw 1 0 ∷ Trap 1 0 (Lock 1)
    ∷ Draw 2 0 ∷ Trap 2 0 (Lock 1) ∷ Draw 2 0 ∷ Trap 2 0 (Lock 1) ∷ []

-- two currencies of 100 base, which share a thread: each also has one of its own
abbrev pub shared_thread : List Event
shared_thread = mkcur (codes "g") ∷ mkcur (codes "h") ∷ mktkt 100 base ∷ fund 1 (codes "g") ∷ mktkt 100 base ∷ fund 2 (codes "h")
    ∷ fundx 1 (codes "g") (codes "a") ∷ fundx 1 (codes "g") (codes "b") ∷ mktkt 1 (codes "h") ∷ fund 5 (codes "a") ∷ fundx 1 (codes "h") (codes "c") ∷ Draw 1 0 ∷ []

-- the first thread exits, and a new one takes its place in the first currency
abbrev pub first_replaced : List Event
first_replaced = Trap 1 0 Exit ∷ fundx 1 (codes "g") (codes "d") ∷ []

-- the threads of the first of two currencies, one of them new
abbrev pub first_threads : Node → Bool
first_threads (nodes.Thread t) = (t == 1) || (t == 3)
first_threads other = false

-- a currency of 100 base that funds a thread, and another currency that funds nothing yet
abbrev pub idle_currency : List Event
idle_currency = mkcur (codes "g") ∷ mkcur (codes "h") ∷ mktkt 100 base ∷ fund 1 (codes "g") ∷ fundx 1 (codes "g") (codes "a") ∷ mktkt 1 (codes "g") ∷ fund 3 (codes "h") ∷ []

-- two tickets, of which the first is removed
abbrev pub ticket_removed : List Event
ticket_removed = mktkt 5 base ∷ mktkt 6 base ∷ rmtkt 1 ∷ []

-- two currencies, of which the first is removed
abbrev pub currency_removed : List Event
currency_removed = mkcur (codes "a") ∷ mkcur (codes "b") ∷ rmcur (codes "a") ∷ []
