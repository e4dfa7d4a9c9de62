-- The numbers in the interfaces for C, Rust and Python, in one table. `bindings/write_tables` makes what the three
-- have of it: names with their numbers, words and fields, and a function for each event. The comment over a row is
-- what callers read:
--
--     event     VERB(FIELD, ..) -> REPLY or OUTCOME; REFUSAL, ..    and what it does, from the next line on
--     reply     FIELD: MEANING; .. . WHEN
--     outcome   "WORDS" FIELD: MEANING; .. . WHEN
--     refusal   "WORDS": WHEN. MORE
--     others    "WORDS": MEANING, or one of both
--
-- The refusals of an event stand in the order of its checks. A field is one of `lot_event` or `lot_reply`, or says
-- what `object`, `name` or `ticks` holds. `name?` may be missing, `thread#` is a number, and `script = 1` is what
-- Python takes if it is left out. A row with a name before the verb, as `FundThread: Fund(ticket, thread#)`, is the
-- verb's event by number.
use Rattle.std.specs.Prelude.{ℕ, ◌+◌, ◌*◌, ◌^◌, ◌==◌, Option, List, [], ◌∷◌, ◌++◌, map}
use Rattle.std.specs.List.{find}
use Rattle.lot_machine.specs.declared.command.Kind.TheVariants.{Tickets, Currencies, Threads}
use Rattle.lot_machine.specs.declared.record.Status.{Status as ThreadStatus}
use Rattle.lot_machine.specs.declared.record.Status.TheVariants as thread
use Rattle.lot_machine.specs.declared.refusal.Refusal.{Refusal}
use Rattle.lot_machine.specs.declared.refusal.Refusal.TheVariants as refusal
use Rattle.lot_machine.specs.declared.refusal.TrapRefusal.{TrapRefusal}
use Rattle.lot_machine.specs.declared.refusal.TrapRefusal.TheVariants as trap_refusal
use Rattle.lot_machine.specs.declared.reply.Outcome.{Outcome}
use Rattle.lot_machine.specs.declared.reply.Outcome.TheVariants as outcome
use Rattle.lot_machine.specs.declared.reply.Reply.{Reply}
use Rattle.lot_machine.specs.declared.reply.Reply.TheVariants as reply
use Rattle.lot_machine.specs.declared.ticket.Target.{Target}
use Rattle.lot_machine.specs.declared.ticket.Target.TheVariants as target
use Rattle.lot_machine.specs.declared.trap.Trap.TheVariants as trap
use Rattle.lot_machine.specs.declared.command.Verb.{Verb}
use Rattle.lot_machine.specs.declared.command.Verb.TheVariants as verb
use Rattle.lot_c.specs.declared.kind.EventKind.{EventKind}
use Rattle.lot_c.specs.declared.kind.EventKind.TheVariants as kind
use Rattle.lot_c.specs.declared.kind.Reference.{Reference}
use Rattle.lot_c.specs.declared.kind.Reference.TheVariants as by
use Rattle.lot_c.specs.declared.status.Status.{Status}
use Rattle.lot_c.specs.declared.status.Status.TheVariants as status

-- the version of the library, 0.4.0
abbrev pub version : ℕ
version = 0 * 2 ^ 16 + 4 * 2 ^ 8 + 0

-- the number of a call's status
abbrev pub code : Status → ℕ
-- "done"
code status.Done = 0
-- "the handle holds no kernel"
code status.NoKernel = 1
-- "the handle holds a kernel already"
code status.KernelThere = 2
-- "a size is out of its bounds"
code status.BadLimits = 3
-- "out of memory"
code status.NoMemory = 4
-- "no such kind of event"
code status.BadKind = 5
-- "a name has more than 16 bytes"
code status.LongName = 6
-- "a name is empty, or has a byte that names may not have"
code status.BadName = 7
-- "nothing has this number"
code status.NotThere = 8
-- "not as many replies as events"
code status.CountsDiffer = 9
-- "a seed is out of its range": a seed or a generator's value is 0 or above 2147483646
code status.BadSeed = 10
-- "the weights sum to 0"
code status.NoWinner = 11
-- "the weights sum to 2 ^ 128 or more"
code status.TooLarge = 12
-- "the kernel isn't settled": a value is stale, since an event may have changed it
code status.NotSettled = 13

-- the number of a kind of events; 0 is none
abbrev pub event_number : EventKind → ℕ
-- MakeTicket(amount, currency = base) -> Ticket; BadAmount, NoCurrency, Full
-- Makes a ticket of this amount, 1 to 4294967295, issued in the currency. It funds nothing yet.
event_number (kind.Command verb.MakeTicket by.Name) = 1
-- RemoveTicket(ticket) -> Done; NoTicket, Funding
-- Removes a ticket that funds nothing. Its number is used again only with `reuse`.
event_number (kind.Command verb.RemoveTicket by.Name) = 2
-- MakeCurrency(name) -> Currency; NameTaken, Full
-- Makes a currency, with a name that neither a currency nor a thread has, a dead one included.
event_number (kind.Command verb.MakeCurrency by.Name) = 3
-- RemoveCurrency(currency) -> Done; NoCurrency, BaseFixed, InUse
-- Removes a currency other than base that issues no ticket and that no ticket funds.
event_number (kind.Command verb.RemoveCurrency by.Name) = 4
-- Fund(ticket, target) -> Done; NoTicket, NoTarget, BaseFixed, DeadThread, Funding, Cycle
-- Makes a ticket that funds nothing fund a currency other than base, or a thread that isn't dead.
event_number (kind.Command verb.Fund by.Name) = 5
-- Unfund(ticket) -> Done; NoTicket, NotFunding
-- Takes away the target of a ticket that funds something.
event_number (kind.Command verb.Unfund by.Name) = 6
-- MakeThread(name? = none, script = 1) -> Thread; NameTaken, NoScript, Full
-- Makes a thread, with a name or without. It is ready, and nothing funds it yet. Its script, 1 to `scripts`, is a
-- number that the kernel keeps for its caller.
event_number (kind.Command verb.MakeThread by.Name) = 7
-- MakeFunded(amount, currency = base, name?, script = 1) -> Funded; BadAmount, NoCurrency, NameTaken, NoScript, Full
-- Makes a thread, with a name or without, and a ticket of this amount, 1 to 4294967295, which is issued in the
-- currency and funds the thread.
event_number (kind.Command verb.MakeFunded by.Name) = 8
-- ListTickets() -> ListTickets
-- Requests a listing of the tickets. The reply contains no rows: read them one by one.
event_number (kind.Command (verb.List Tickets) by.Name) = 9
-- ListCurrencies() -> ListCurrencies
-- Requests a listing of the currencies. The reply contains no rows: read them one by one.
event_number (kind.Command (verb.List Currencies) by.Name) = 10
-- ListThreads() -> ListThreads
-- Requests a listing of the threads. The reply contains no rows: read them one by one.
event_number (kind.Command (verb.List Threads) by.Name) = 11
-- Draw(processor, number) -> Winner or Idle; BadProcessor, Busy
-- Holds a lottery over the ready threads with this number, any 128 bits. The winner runs on the processor, which must
-- be idle.
event_number kind.Draw = 12
-- Expire(processor) -> Expired; BadProcessor, NotRunning
-- Ends the quantum of the thread that runs on the processor. The rest of the quantum counts as used.
event_number kind.Expire = 13
-- Yield(processor, ticks) -> Yielded
-- Gives up the processor. The thread is compensated for the rest of its quantum.
event_number (kind.Trap trap.Yield) = 14
-- Call(processor, ticks, port, sent) -> ServedBy or Queued; NoPort
-- Sends a number to a port, and waits for the reply. The thread lends to the one that serves it; with `queued_lend`
-- also, while its call is queued, to the one that took the last call at the port.
event_number (kind.Trap (trap.Call object sent)) = 15
-- Receive(processor, ticks, port) -> Received or Waits; NoPort
-- Takes the call that has waited longest at a port, or waits for one.
event_number (kind.Trap (trap.Receive object)) = 16
-- Reply(processor, ticks, sent) -> Replied; NothingToReply
-- Replies with a number to the client that the thread took first.
event_number (kind.Trap (trap.Reply sent)) = 17
-- Lock(processor, ticks, mutex) -> Locked or Waits; NoMutex, AlreadyOwner, LockCycle
-- Takes a mutex, or waits for it and lends to its owner.
event_number (kind.Trap (trap.Lock object)) = 18
-- Unlock(processor, ticks, mutex, number) -> Freed or Passed; NoMutex, NotOwner
-- Frees a mutex, or passes it on to a waiter by a lottery with this number, any 128 bits.
event_number (kind.Trap (trap.Unlock object drawn)) = 19
-- Exit(processor, ticks) -> Exited
-- Ends the thread. Its name, its mutexes, its clients and the tickets that fund it stay as they are.
event_number (kind.Trap trap.Exit) = 20
-- Serve(processor, ticks, port, sent) -> RepliedThenReceived or RepliedThenWaits; NoPort, NothingToReply
-- Replies with a number to the client that the thread took first, and then receives a call at a port or waits for one.
event_number (kind.Trap (trap.Serve object sent)) = 21
-- SetTicket(ticket, amount) -> Done; BadAmount, NoTicket
-- Sets a ticket's amount, 1 to 4294967295, which counts at once: inflation and deflation (3.2). The ticket keeps its
-- target.
event_number (kind.Command verb.SetTicket by.Name) = 22
-- RemoveThread(thread) -> Done; NoThread, Alive, InUse
-- Removes a dead thread that no ticket funds, and that has no client and owns no mutex. Its name may be used again,
-- its number only with `reuse`.
event_number (kind.Command verb.RemoveThread by.Name) = 23
-- Sleep(processor, ticks) -> Slept
-- Sleeps until a wake. The thread's tickets are inactive meanwhile; it keeps its mutexes and its clients, and is
-- compensated for the rest of its quantum.
event_number (kind.Trap (trap.Sleep ticks)) = 24
-- Preempt(processor, ticks) -> Expired; BadProcessor, NotRunning, BadTicks
-- Preempts the thread that runs on the processor, after `ticks` ticks of work, at most the rest of its quantum. The
-- thread becomes ready, is charged these ticks, and isn't compensated.
event_number kind.Preempt = 25
-- Overrun(processor, late) -> Expired; BadProcessor, NotRunning, BadTicks
-- Ends the quantum of the thread that runs on the processor, `late` ticks after its time. The rest of the quantum and
-- the late ticks count as used: until the thread next wins, its weight is value * quantum / (quantum + late), rounded
-- down, but at least 1 if its value is. The quantum and the late ticks together are at most 4294967295.
event_number kind.Overrun = 26
-- Wake(thread#) -> Done; NoThread, NotAsleep
-- Makes a sleeping thread ready, with the compensation from when it went to sleep.
event_number kind.Wake = 27
-- MakeTicketIn: MakeTicket(amount, currency#)
event_number (kind.Command verb.MakeTicket by.Currency) = 28
-- RemoveCurrencyNumbered: RemoveCurrency(currency#)
event_number (kind.Command verb.RemoveCurrency by.Currency) = 29
-- FundCurrency: Fund(ticket, currency#) -> Done; NoTicket, NoTarget, BaseFixed, Funding, Cycle
event_number (kind.Command verb.Fund by.Currency) = 30
-- FundThread: Fund(ticket, thread#) -> Done; NoTicket, NoTarget, DeadThread, Funding
event_number (kind.Command verb.Fund by.Thread) = 31
-- RemoveThreadNumbered: RemoveThread(thread#)
event_number (kind.Command verb.RemoveThread by.Thread) = 32
-- MakeFundedIn: MakeFunded(amount, currency#, name?, script = 1)
event_number (kind.Command verb.MakeFunded by.Currency) = 33
-- Kill(thread) -> Done; NoThread, DeadThread
-- Ends a thread, whatever its status. If it runs, its processor is idle then, and it is charged nothing more: to
-- charge what it ran, preempt it first. Its clients are ready, with nothing delivered. Each of its mutexes passes to
-- the thread that has waited longest for it. A thread that exits keeps its clients and its mutexes.
event_number (kind.Command verb.Kill by.Name) = 34
-- KillNumbered: Kill(thread#)
event_number (kind.Command verb.Kill by.Thread) = 35
event_number other = 0

-- the kinds of these verbs that refer so
abbrev referring : Reference → List Verb → List EventKind
referring reference = map (λ v. kind.Command v reference)

-- each kind that has a number
abbrev kinds : List EventKind
kinds =
    referring by.Name (verb.MakeTicket ∷ verb.RemoveTicket ∷ verb.MakeCurrency ∷ verb.RemoveCurrency ∷ verb.Fund ∷ [])
    ++ referring by.Name (verb.Unfund ∷ verb.SetTicket ∷ verb.MakeThread ∷ verb.RemoveThread ∷ verb.Kill ∷ [])
    ++ referring by.Name (verb.MakeFunded ∷ verb.List Tickets ∷ verb.List Currencies ∷ verb.List Threads ∷ [])
    ++ referring by.Currency (verb.MakeTicket ∷ verb.RemoveCurrency ∷ verb.Fund ∷ verb.MakeFunded ∷ [])
    ++ referring by.Thread (verb.Fund ∷ verb.RemoveThread ∷ verb.Kill ∷ [])
    ++ map kind.Trap (trap.Yield ∷ trap.Call tt tt ∷ trap.Receive tt ∷ trap.Reply tt ∷ trap.Serve tt tt ∷ [])
    ++ map kind.Trap (trap.Lock tt ∷ trap.Unlock tt tt ∷ trap.Sleep tt ∷ trap.Exit ∷ [])
    ++ (kind.Draw ∷ kind.Expire ∷ kind.Preempt ∷ kind.Overrun ∷ kind.Wake ∷ [])

-- the kind with this number, if there is one
abbrev pub kind_numbered : ℕ → Option EventKind
kind_numbered number = find (λ k. event_number k == number) kinds

-- the number of a reply's kind; each listing has one
abbrev pub reply_number : Reply → ℕ
-- ticket: its number. A ticket was made.
reply_number (reply.Ticket ticket) = 1
-- currency: its number. A currency was made.
reply_number (reply.Currency currency) = 2
-- thread: its number. A thread was made.
reply_number (reply.Thread thread) = 3
-- ticket: the ticket's number; thread: the thread's number. A thread and the ticket that funds it were made.
reply_number (reply.Funded ticket thread) = 4
-- The event is done.
reply_number reply.Done = 5
reply_number (reply.Killed thread) = 5
-- A listing was requested. Read the rows one by one.
reply_number (reply.List Tickets) = 6
-- A listing was requested. Read the rows one by one.
reply_number (reply.List Currencies) = 7
-- A listing was requested. Read the rows one by one.
reply_number (reply.List Threads) = 8
-- thread: its number; number: the drawn number, below the total; total: the sum of the weights, in base units; sent?:
-- the number sent to the thread while it waited, by a call or a reply. A thread won the draw, and runs on the
-- processor.
reply_number (reply.Winner thread number total delivered) = 9
-- No ready thread has any weight, perhaps as values round to 0, and nothing has changed.
reply_number reply.Idle = 10
-- thread: its number; ticks: the ticks that it is charged. A thread's quantum is over, or it was preempted, and it no
-- longer runs.
reply_number (reply.Expired thread ticks) = 11
-- thread: its number; ticks: the ticks that it ran since its last event, the trap's own included; outcome: the trap's
-- outcome; ends: whether its quantum is used up, so that it no longer runs though the outcome would let it go on;
-- goes_on: whether it runs on, since its outcome leaves it on its processor and its quantum isn't used up. A thread
-- made a trap.
reply_number (reply.Trapped thread ticks outcome ends) = 12
-- reason: the refusal. The event is refused, and has changed nothing.
reply_number (reply.Refused why) = 13

-- the number of a trap's outcome
abbrev pub outcome_number : Outcome → ℕ
-- "yielded". The thread gave up the rest of its quantum. It no longer runs.
outcome_number outcome.Yielded = 1
-- "served by a thread" other: the thread that serves the call. The caller no longer runs.
outcome_number (outcome.ServedBy server) = 2
-- "queued at a port". The call waits for a server. The caller no longer runs.
outcome_number outcome.Queued = 3
-- "waits". The thread waits for a call or for a mutex. It no longer runs.
outcome_number outcome.Waits = 4
-- "received a call" other: the thread that called; sent: the number that it sent. A call was taken.
outcome_number (outcome.Received client number) = 5
-- "replied" other: the client. A client got a reply.
outcome_number (outcome.Replied client) = 6
-- "locked a mutex". The thread owns the mutex.
outcome_number outcome.Locked = 7
-- "freed a mutex". The mutex is free.
outcome_number outcome.Freed = 8
-- "passed a mutex on" other: the new owner; draw?: the number and the total of the lottery, if one was held: not if
-- the waiters were worth nothing, so that the one that had waited longest got the mutex. The mutex was passed on. The
-- thread that unlocked it no longer runs.
outcome_number (outcome.Passed to draw) = 9
-- "exited". The thread has ended.
outcome_number outcome.Exited = 10
-- "refused" reason: the refusal. The trap is refused. It cost its ticks even so.
outcome_number (outcome.Refused why) = 11
-- "replied, then received a call" replied_to: the client that got the reply; other: the thread that called; sent: the
-- number that it sent. A client got a reply, and then a call was taken.
outcome_number (outcome.RepliedThenReceived to client number) = 12
-- "replied, then waits" replied_to: the client that got the reply. The thread waits for a call. It no longer runs.
outcome_number (outcome.RepliedThenWaits to) = 13
-- "sleeps". The thread sleeps until it is woken. It no longer runs.
outcome_number outcome.Slept = 14

-- the number of an event's refusal, as in docs/FORMATS.md and in the program's output
abbrev pub refusal_number : Refusal → ℕ
-- "bad name": the kernel doesn't take such a name. For C and Python that is a status.
refusal_number refusal.BadName = 1
-- "the name is taken": a currency or a thread, perhaps a dead one, has the name already. Removed ones don't count.
refusal_number refusal.NameTaken = 2
-- "no such currency": no currency has the name or the number
refusal_number refusal.NoCurrency = 3
-- "no such ticket": no ticket has the number
refusal_number refusal.NoTicket = 4
-- "no such currency or thread": no currency or thread has the name or the number
refusal_number refusal.NoTarget = 5
-- "the amount is out of its range": the amount is 0 or above 4294967295
refusal_number refusal.BadAmount = 6
-- "the currency or thread is in use": tickets are in it or fund it, or the thread has a client or owns a mutex
refusal_number refusal.InUse = 7
-- "the ticket funds something": the ticket funds something already
refusal_number refusal.Funding = 8
-- "the ticket funds nothing"
refusal_number refusal.NotFunding = 9
-- "currencies would fund each other in a cycle": the funding would close a cycle of currencies
refusal_number refusal.Cycle = 10
-- "base can't be removed or funded": base can be neither removed nor funded
refusal_number refusal.BaseFixed = 11
-- "the thread is dead": the thread has ended
refusal_number refusal.DeadThread = 12
-- "the limit is used up": the kernel has room for no more of them. `tickets`, `currencies` or `threads` of the sizes
-- is reached, whichever the event adds to, by all ever made or, with `reuse`, by what exists.
refusal_number refusal.Full = 13
-- "no such script": no script has the number
refusal_number refusal.NoScript = 14
-- "no such thread": no thread has the name or the number. A dead one has both until it is removed.
refusal_number refusal.NoThread = 15
-- "the thread isn't dead": the thread hasn't ended. It may wait for good.
refusal_number refusal.Alive = 16
-- "no such processor": no processor has the number
refusal_number refusal.BadProcessor = 20
-- "a thread runs on the processor": a thread runs on the processor already
refusal_number refusal.Busy = 21
-- "no thread runs on the processor"
refusal_number refusal.NotRunning = 22
-- "too many ticks": the ticks are more than the quantum has left, or than may be counted. A trap's own tick counts.
refusal_number refusal.BadTicks = 23
-- "the thread isn't asleep": the thread doesn't sleep. It is ready, runs, waits or is dead.
refusal_number refusal.NotAsleep = 24

-- the number of a trap's refusal, as in docs/FORMATS.md
abbrev pub trap_refusal_number : TrapRefusal → ℕ
-- "no such port": no port has the number
trap_refusal_number trap_refusal.NoPort = 30
-- "the thread serves no client"
trap_refusal_number trap_refusal.NothingToReply = 32
-- "no such mutex": no mutex has the number
trap_refusal_number trap_refusal.NoMutex = 33
-- "the thread doesn't own the mutex"
trap_refusal_number trap_refusal.NotOwner = 34
-- "the thread owns the mutex already"
trap_refusal_number trap_refusal.AlreadyOwner = 35
-- "the wait would close a cycle": the wait would close a cycle of threads that wait for each other. Calls that are
-- queued at a port don't count.
trap_refusal_number trap_refusal.LockCycle = 36

-- the number of a thread's status
abbrev pub status_number : ThreadStatus → ℕ
-- it competes in draws
status_number thread.Ready = 1
-- it runs on `processor`, and has used `used` ticks of its quantum, below the quantum
status_number (thread.Running processor used) = 2
-- it waits for a call at the port `other`
status_number (thread.Receiving port) = 3
-- its call waits at the port `other`
status_number (thread.Queued port) = 4
-- the thread `other` serves it
status_number (thread.Served server) = 5
-- it waits for the mutex `other`
status_number (thread.Waiting mutex) = 6
-- it has ended
status_number thread.Dead = 7
-- it sleeps until it is woken
status_number thread.Asleep = 8

-- the number of a kind of targets; 0 is none
abbrev pub target_kind : Target → ℕ
-- nothing; target_number is 0
target_kind target.Unfunded = 0
-- target_number is the currency's, from 0
target_kind (target.Currency c) = 1
-- target_number is the thread's, from 1
target_kind (target.Thread t) = 2
