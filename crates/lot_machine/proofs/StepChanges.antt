-- Each event is a list of changes, each of which is allowed at its place. So each event preserves what each allowed
-- change preserves.
use Rattle.lot_machine.proofs.Common.{Action, After, Alive, All, All-head, All-push, All-set, All-tail, BadAmount, BadName, BadProcessor, BadTicks, BaseFixed, Bool, Busy, Call, Change, Command, CurrencyRef, Cycle, DeadThread, Drawn, DropCurrency, DropThread, DropTicket, Effect, Ends, Event, Exit, Full, Fund, FundsThere, GoesOn, HasEachOnce, HasFreeGaps, HasNoCycle, HasQueues, IfSome, InUse, IsGap, IsWithinBounds, Kill, Leaves, List, Lock, MakeCurrency, MakeFunded, MakeThread, MakeTicket, Mutex, NameTaken, NewCurrency, NewThread, NewTicket, NoCurrency, NoScript, NoTarget, NoThread, NoTicket, None, NotAsleep, NotFunding, NotRunning, Option, Outcome, Port, PortTrap, PutClients, PutMutex, PutPort, PutRecord, PutTicket, QueuedCall, Receive, Record, RemoveCurrency, RemoveThread, RemoveTicket, RunsApart, Serve, SetTicket, Some, State, Status, Target, ThreadRef, Ticket, TrapRefusal, Unfund, Unlock, after_trap, ap, applied, applied_all, are_threads_full, are_tickets_full, arith, at_number, at_port, backing_currency, before_lock, call, cases_eq, change_each, change_record, checked_effect, clients_of, command_effect, command_step, compensation_for, cond, currency_funded, currency_meant, currency_or_base, draw, drop, ended, event_effect, false, first_client, free_currencies, free_threads, free_tickets, funding_of, given_again, held_by, holder_of, inl, inr, is_asleep, is_bad_amount, is_bad_processor, is_currency, is_cycle, is_dead, is_dead_in, is_dead_thread, is_funding, is_in_use, is_no_script, is_none, is_none_free, is_some, is_taken, is_thread_in_use, is_thread_name, issued_in, killed, leads_back, leb-false, lend_of, lends_lead, lends_on_to, length, length-append, length-set, lock, ltb-false, map, map-set, mutex_at, mutex_without, nat_le, nat_lt, newborn, next_thread, not, of_mutexes, of_ports, option_and_then, option_any, option_flatten, option_map, or_parts, placed, port_at, port_holders, port_without, ready_threads, receive, refl, reissued, released, released_by, remove, reply, retargeted, serve, served_at, set_number, slice_get, slice_get-map, slice_index, slice_set, started, status_of, step, stopped, subst, suc, sym, target_meant, thread_at, thread_meant, thread_on, thread_there, ticket_in, trap_effect, trap_refusal, true, unlock, unserved, unserved_at, unwrap_or, used_by, used_on, used_there, value_of, wake, weight_of, winner, with_server, with_target, with_ticks, without, zero, ℕ, [], ◌&&◌, ◌++◌, ◌+◌, ◌-◌, ◌<◌, ◌==◌, ◌^◌, ◌||◌, ◌∙◌, ◌∷◌, ◌≡◌, ◌≤◌, ◌⊎◌}
use Rattle.lot_machine.specs.declared.ticket.Target.TheVariants as target
use Rattle.lot_machine.specs.declared.record.Status.TheVariants as status
use Rattle.lot_machine.specs.declared.record.Thread.{Thread as ThreadRecord}
use Rattle.lot_machine.specs.declared.funding.Node.TheVariants as node
use Rattle.lot_machine.specs.declared.reference.TargetRef.{TargetRef}
use Rattle.lot_machine.specs.Funding.{edge_count_into}
use Rattle.lot_machine.specs.Places.{next_place}
use Rattle.lot_machine.specs.Commands.{GivesAmount, with_thread}
use Rattle.std.proofs.lemmas.Bool.{eqb-false}
use Rattle.std.specs.Prelude.{◌≢◌}
use Rattle.lot_machine.specs.declared.trap.Trap.TheVariants.{Reply as ReplyTo}
use Rattle.lot_machine.specs.declared.command.Command.TheVariants.{List as Listing}
use Rattle.lot_machine.specs.declared.event.Event.TheVariants as event
use Rattle.lot_machine.specs.declared.refusal.Refusal.TheVariants.{Funding as IsFunding}
use Rattle.lot_machine.specs.declared.reply.Outcome.TheVariants as outcome
use Rattle.lot_machine.proofs.Idle.{there-alone, free-of, used-changed, used-of, used-stopped_on, index-holds, IsAlive, nobody-alive, ready-used, receiver-used, caller-used, client-used, waiter-used, there-used, is-dead, is-asleep, alive-of, status-number, ready-alive, receiver-alive, caller-alive, client-alive, waiter-alive, there-alive, used-placed, status-stays}
use Rattle.lot_machine.proofs.Amounts.{HasNoCycle-amount, FundsThere-amount, place-of}
use Rattle.lot_machine.proofs.CommandsKept.{IsFunded, unrefused, all-pass, none-of, target-there, target-thread, keeps-remove_ticket, keeps-unfund, keeps-target, IsThere, some-of, meant-there, meant-thread}
use Rattle.lot_machine.proofs.FundingKept.{HasNoCycle-currencies, FundsThere-removed, HasNoCycle-placed_ticket, FundsThere-placed_ticket, FundsThere-placed}
use Rattle.lot_machine.proofs.LendsKept.{HasNoCycle-lends_placed}
use Rattle.lot_machine.proofs.Queues.{status-other, FirstIsDead, number-set_same, queues-placed}
use Rattle.lot_machine.proofs.Tickets.{some-injective, at_number-suc, flatten-some}
use Rattle.lot_machine.proofs.Changes.{number-set, map-by-sets, number-there, place-set, place-set_same}
use Rattle.lot_machine.proofs.KillKept.{kill-cycle}
use Rattle.lot_machine.proofs.Killed.{IsAmong, IsHeir, released-why, client-waits, heir-waits}
use Rattle.lot_machine.proofs.RecordsKept.{RunsAlone, StopsIfLeaves, status-changed, nobody-runs, RunsAlone-stops, RunsApart-changed, RunsApart-placed}
use Rattle.lot_machine.proofs.Serving.{unused-serves}
use Rattle.lot_machine.proofs.Places.{number-placed, length-placed, map-placed, gaps-placed, gaps-removed, gaps-replaced}
use Rattle.lot_machine.proofs.EachOnce.{contains-at}

-- ---- changes that are allowed

-- who makes a change: the console by this command, the work of a trap, a timer that wakes threads, the thread that an event of this processor names, or
-- the console when it kills this thread, if it exists
pub data By : Type 0 where
  Console : Command → By
  Work : By
  Timer : By
  On : ℕ → By
  Kills : Option ℕ → By

-- it is a command that kills nobody
abbrev pub is_console : By → Bool
is_console (Console c) = true
is_console other = false

abbrev pub IsConsole : By → Type 0
IsConsole by = is_console by ≡ true

-- it leaves what threads have won and used
abbrev pub IsTallied : By → Type 0
IsTallied Work = Unit {0}
IsTallied (Kills t) = Unit {0}
IsTallied other = ⊥

abbrev pub Apart : State → Type 0
Apart s = RunsApart s.records

abbrev pub Queues : State → Type 0
Queues s = HasQueues s.records s.clients s.ports s.mutexes

-- a ticket that is there has an amount of 32 bits
abbrev pub HasAmount : Option Ticket → Type 0
HasAmount place = IfSome place (λ t. t.amount < 2 ^ 32)

-- A thread's record changes: the thread is there; it wasn't dead at the start, and it runs on no other processor than the event's
-- unless it is killed, if those who wait stood where their statuses say at the start; it runs afterwards only there, where nobody else does if each processor had its own thread; and
-- the work of a trap, and a kill, leave what it has won and used.
pub record Moves (by : By) (s a : State) (t : ℕ) (r : Record) : Type 0 where
  pub there : (old : Record) × (at_number a.records t ≡ Some old)
  pub mover : ¬ IsConsole by
  pub tally : IsTallied by
      → r ≡ record there.0 { status = r.status; compensation = r.compensation; delivered = r.delivered }
  pub alive : Queues s → IsAlive s.records t
  pub elsewhere : Queues s → (p : ℕ) → ¬ (by ≡ On p) → ¬ (by ≡ Kills (Some t)) → used_by a.records p t ≡ None
  pub runs : (p used : ℕ) → r.status ≡ status.Running p used → (by ≡ On p) × (Apart s → RunsAlone a.records p t)

-- a thread that was removed is dead
abbrev pub AreRemovedDead : State → Type 0
AreRemovedDead s = (t : ℕ) → at_number s.threads t ≡ Some None → status_of s.records t ≡ Some status.Dead

-- and serves nobody
abbrev pub AreRemovedIdle : State → Type 0
AreRemovedIdle s = (t : ℕ) → at_number s.threads t ≡ Some None → clients_of s.clients t ≡ []

-- gaps are free if numbers are given again
abbrev pub HasGaps : State → Type 0
HasGaps s = s.limits.reuse ≡ true → HasFreeGaps s

-- an amount of 32 bits, not 0
abbrev pub IsAmount : ℕ → Type 0
IsAmount amount = (0 < amount) × (amount < 2 ^ 32)

-- the thread wasn't removed
abbrev pub IsIn : List (Option ThreadRecord) → ℕ → Type 0
IsIn threads t = ¬ (at_number threads t ≡ Some None)

-- a ticket may fund it: it isn't base, and a thread wasn't removed
abbrev pub MayFund : State → Target → Type 0
MayFund a to = (to ≢ target.Currency 0) × ((t : ℕ) → to ≡ target.Thread t → IsIn a.threads t)

-- a command of the console gives the ticket this amount
abbrev pub Gives : By → ℕ → ℕ → Type 0
Gives by n amount = (c : Command) × (by ≡ Console c) × GivesAmount c n amount

-- A ticket replaces the ticket with this number. It has the same issuer, and the same target or another that it may fund; only
-- a command gives it another amount.
pub record Replaces (by : By) (a : State) (n : ℕ) (old new : Ticket) : Type 0 where
  pub issuer : new.issuer ≡ old.issuer
  pub aim : (new.target ≡ old.target) ⊎ MayFund a new.target
  pub amount : (new.amount ≡ old.amount) ⊎ (Gives by n new.amount × IsAmount new.amount)

-- what holds of the amount of a ticket, and of each amount that a command may give, holds of the amount of what replaces it
pub amount-replaced : {by : By} {a : State} {n : ℕ} {old new : Ticket} (IsSo : ℕ → Type 0) → Replaces by a n old new
    → IsSo old.amount → (IsAmount new.amount → IsSo new.amount) → IsSo new.amount
amount-replaced {by} {a} {n} {old} {new} IsSo replaces was given = from replaces.amount
  where
    from : (new.amount ≡ old.amount) ⊎ (Gives by n new.amount × IsAmount new.amount) → IsSo new.amount
    from (inl same) = subst IsSo (sym same) was
    from (inr (gives, good)) = given good

-- a ticket is there, and what comes in its place replaces it
abbrev pub Puts : By → State → ℕ → Option Ticket → Type 0
Puts by a n place = (old : Ticket) × (new : Ticket) × (ticket_in a.tickets n ≡ Some old) × (place ≡ Some new)
    × Replaces by a n old new

-- The change is allowed in the second state, which the event has reached from the first. The console alone changes tickets and
-- currencies and makes and removes threads, and it changes nothing else unless it kills a thread. What it removes or replaces is there,
-- and nothing refers to what it removes.
abbrev pub Allowed : By → State → State → Change → Type 0
Allowed by s a (NewTicket t) =
    IsConsole by × IsAmount t.amount × (free_tickets a ≡ [] → length a.tickets < a.limits.tickets)
    × (currency_funded t.target ≡ None)
    × IsThere (option_flatten (slice_get a.currencies t.issuer)) × MayFund a t.target
Allowed by s a (DropTicket n) = IsConsole by × (by ≡ Console (RemoveTicket n)) × IsThere (ticket_in a.tickets n)
Allowed by s a (PutTicket n place) = IsConsole by
    × (IsFunded a → IsFunded (record a { tickets = set_number a.tickets n place })) × Puts by a n place
Allowed by s a (NewCurrency name) = IsConsole by
Allowed by s a (DropCurrency c) =
    IsConsole by × (length (backing_currency (funding_of a) c) ≡ 0)
    × IsThere (option_flatten (slice_get a.currencies c)) × (length (issued_in (funding_of a) c) ≡ 0)
Allowed by s a (NewThread t) = IsConsole by × (HasGaps s → AreRemovedDead s → FirstIsDead a.records (free_threads a))
Allowed by s a (DropThread t) =
    IsConsole by × (status_of a.records t ≡ Some status.Dead) × IsThere (thread_at a.threads t)
    × (Queues s → clients_of a.clients t ≡ [])
    × (edge_count_into (funding_of a) (node.Thread t) ≡ 0)
Allowed by s a (PutRecord t r) = Moves by s a t r
Allowed by s a other = ¬ IsConsole by

-- allowed changes lead from the first state to the second
pub data Leads (by : By) (s : State) : State → Type 0 where
  Stays : Leads by s s
  Then : {a : State} → Leads by s a → (c : Change) → Allowed by s a c → Leads by s (applied a c)

-- each allowed change keeps it
abbrev pub Keeps : By → State → (State → Type 0) → Type 0
Keeps by s P = (a : State) (c : Change) → Allowed by s a c → P a → P (applied a c)

-- what each allowed change keeps is kept
pub kept : {by : By} {s b : State} (P : State → Type 0) → Keeps by s P → Leads by s b → P s → P b
kept P each Stays p = p
kept P each (Then {a} leads c allowed) p = each a c allowed (kept P each leads p)

-- the changes that lead there
pub changes-of : {by : By} {s b : State} → Leads by s b → (cs : List Change) × (applied_all s cs ≡ b)
changes-of {by} {s} leads = kept (λ b. (cs : List Change) × (applied_all s cs ≡ b))
    (λ a c allowed (cs, is). (cs ++ c ∷ [], one-more s cs c ∙ ap (λ x. applied x c) is)) leads ([], refl)
  where
    one-more : (s : State) (cs : List Change) (c : Change) → applied_all s (cs ++ c ∷ []) ≡ applied (applied_all s cs) c
    one-more s [] c = refl
    one-more s (d ∷ cs) c = one-more (applied s d) cs c

-- what a trap's work changes, the event may
pub working : (p : ℕ) (s b : State) → Leads Work s b → Leads (On p) s b
working p s b leads = kept (Leads (On p) s) (λ a c allowed before. Then before c (may a c allowed)) leads Stays
  where
    not-on : (q : ℕ) → ¬ (Work ≡ On q)
    not-on q e = cc

    not-console : ¬ IsConsole Work
    not-console e = cc

    may : (a : State) (c : Change) → Allowed Work s a c → Allowed (On p) s a c
    may a (NewThread t) allowed = absurd (not-console allowed.0)
    may a (DropTicket n) allowed = absurd (not-console allowed.0)
    may a (DropThread t) allowed = absurd (not-console allowed.0)
    may a (PutRecord t r) allowed =
        record { there = allowed.there; mover = λ e. cc; tally = λ e. absurd e; alive = allowed.alive; elsewhere = λ queues q other spared. allowed.elsewhere queues q (not-on q) (λ e. cc); runs = λ q used is. absurd (not-on q (allowed.runs q used is).0) }
    may a (PutClients t x) allowed = λ e. cc
    may a (PutPort t x) allowed = λ e. cc
    may a (PutMutex t x) allowed = λ e. cc
    may a (NewTicket t) allowed = absurd (not-console allowed.0)
    may a (PutTicket n x) allowed = absurd (not-console allowed.0)
    may a (NewCurrency x) allowed = absurd (not-console allowed)
    may a (DropCurrency x) allowed = absurd (not-console allowed.0)

-- a change that leaves what a thread has won and used
abbrev LeavesTally : (Record → Record) → Type 0
LeavesTally change = (r : Record) → change r
    ≡ record r { status = (change r).status; compensation = (change r).compensation; delivered = (change r).delivered }

-- one thread's record changes, if it is there
put : {by : By} {s : State} (a : State) (change : Record → Record) (t : ℕ) → ¬ IsConsole by
    → (IsTallied by → LeavesTally change) → Leads by s a
    → (Queues s → IsAlive s.records t)
    → (Queues s → (p : ℕ) → ¬ (by ≡ On p) → ¬ (by ≡ Kills (Some t)) → used_by a.records p t ≡ None)
    → ((r : Record) (p used : ℕ) → (change r).status ≡ status.Running p used
    → (by ≡ On p) × (Apart s → RunsAlone a.records p t))
    → Leads by s (record a { records = change_record change a.records t })
put {by} {s} a change t mover tally leads alive elsewhere runs = at (at_number a.records t) refl
  where
    at : (o : Option Record) → at_number a.records t ≡ o
        → Leads by s (record a { records = change_record change a.records t })
    at None is = rw is leads
    at (Some r) is = rw is (Then leads (PutRecord t (change r))
        (record { there = (r, is); mover = mover; tally = λ work. tally work r; alive = alive; elsewhere = elsewhere; runs = runs r }))

-- ---- what allowed changes keep

-- the statuses that aren't Running
ready-stops : (p used : ℕ) → ¬ (status.Ready ≡ status.Running p used)
ready-stops p used e = cc

-- a record that is put is one that changes
put-changes : (records : List Record) (t : ℕ) (r old : Record) → at_number records t ≡ Some old
    → change_record (λ _. r) records t ≡ set_number records t r
put-changes records t r old is = rw is refl

-- each processor still has its own thread
pub change-apart : (by : By) (s : State) → Apart s → Keeps by s Apart
change-apart by s apart a (NewThread t) allowed runs =
    RunsApart-placed a.records (free_threads a) newborn ready-stops runs
change-apart by s apart a (PutRecord t r) allowed runs =
    subst RunsApart (put-changes a.records t r allowed.there.0 allowed.there.1)
    (RunsApart-changed (λ _. r) a.records t (λ x p used there is. (allowed.runs p used is).1 apart) runs)
change-apart by s apart a other allowed runs = runs

-- the work of a trap puts nobody else on a processor
pub change-alone : (s : State) (p t : ℕ) → Keeps Work s (λ a. RunsAlone a.records p t)
change-alone s p t a (NewThread x) allowed alone = absurd (differs allowed.0)
  where
    differs : ¬ IsConsole Work
    differs e = cc
change-alone s p t a (PutRecord u r) allowed alone =
    subst (λ (rs : List Record). RunsAlone rs p t) (put-changes a.records u r allowed.there.0 allowed.there.1)
    (RunsAlone-stops (λ _. r) a.records u p t (λ x q used is. differs q (allowed.runs q used is).0) alone)
  where
    differs : (q : ℕ) → Work ≡ On q → ⊥
    differs q e = cc
change-alone s p t a other allowed alone = alone

-- a thread that isn't killed has used as many ticks on a processor that isn't the event's as at the start
pub change-used : (by : By) (s : State) (p u : ℕ) → Queues s → (IsConsole by → HasGaps s × AreRemovedDead s)
    → ¬ (by ≡ On p) → ¬ (by ≡ Kills (Some u))
    → Keeps by s (λ a. used_by a.records p u ≡ used_by s.records p u)
change-used by s p u queues gaps other spared a (NewThread t) (console, first) same = let (free, dead) = gaps console in
    used-placed a.records (free_threads a) newborn p refl (first free dead) u ∙ same
change-used by s p u queues gaps other spared a (PutRecord t r) allowed same = from (cases_eq u t)
  where
    put : change_record (λ _. r) a.records t ≡ set_number a.records t r
    put = put-changes a.records t r allowed.there.0 allowed.there.1

    from : (u ≡ t) ⊎ (u ≡ t → ⊥) → used_by (set_number a.records t r) p u ≡ used_by s.records p u
    from (inl at) =
        let idle = allowed.elsewhere queues p other (λ kills. spared (kills ∙ ap (λ x. Kills (Some x)) (sym at))) in
        ap (λ rs. used_by rs p u) (sym put) ∙ used-changed (λ _. r) a.records t p idle
        (λ _. used-stopped_on p r.status (λ used is. other (allowed.runs p used is).0)) u ∙ same
    from (inr differs) = ap (λ rs. used_by rs p u) (sym put)
        ∙ ap (option_and_then (used_on p)) (status-other (λ _. r) a.records t u differs) ∙ same
change-used by s p u queues gaps other spared a c allowed same = same

-- who runs on a processor that isn't the event's ran there at the start
pub change-ran : (by : By) (s : State) (p u used : ℕ) → ¬ (by ≡ On p) → Keeps by s
    (λ a. status_of a.records u ≡ Some (status.Running p used) → status_of s.records u ≡ Some (status.Running p used))
change-ran by s p u used other a (NewThread t) allowed ran runs =
    from (number-placed a.records (free_threads a) newborn u)
  where
    from : (at_number (placed a.records (free_threads a) newborn) u ≡ at_number a.records u)
        ⊎ (at_number (placed a.records (free_threads a) newborn) u ≡ Some newborn)
        → status_of s.records u ≡ Some (status.Running p used)
    from (inl same) = ran (ap (option_map (λ (x : Record). x.status)) (sym same) ∙ runs)
    from (inr new) = let never : Some status.Ready ≡ Some (status.Running p used) =
        sym (ap (option_map (λ (x : Record). x.status)) new) ∙ runs in cc
change-ran by s p u used other a (PutRecord t r) allowed ran runs = from (status-changed (λ _. r) a.records t u)
  where
    now : status_of (change_record (λ _. r) a.records t) u ≡ Some (status.Running p used)
    now = ap (λ rs. status_of rs u) (put-changes a.records t r allowed.there.0 allowed.there.1) ∙ runs

    from : (status_of (change_record (λ _. r) a.records t) u ≡ status_of a.records u) ⊎ ((u ≡ t) × ((x : Record)
        × (at_number a.records t ≡ Some x) × (status_of (change_record (λ _. r) a.records t) u ≡ Some r.status)))
        → status_of s.records u ≡ Some (status.Running p used)
    from (inl same) = ran (sym same ∙ now)
    from (inr (at, (x, there, new))) =
        absurd (other (allowed.runs p used (some-injective r.status (status.Running p used) (sym new ∙ now))).0)
change-ran by s p u used other a c allowed ran runs = ran runs

-- the amount of a ticket that is looked up
amount-at : (tickets : List (Option Ticket)) (i : ℕ) → All HasAmount tickets → IfSome (slice_get tickets i) HasAmount
amount-at [] i all = tt
amount-at (t ∷ ts) zero all = All-head HasAmount t ts all
amount-at (t ∷ ts) (suc i) all = amount-at ts i (All-tail HasAmount t ts all)

amount-in : (tickets : List (Option Ticket)) (n : ℕ) → All HasAmount tickets → HasAmount (ticket_in tickets n)
amount-in tickets n all = at (n == 0)
  where
    found : (o : Option (Option Ticket)) → IfSome o HasAmount → HasAmount (option_flatten o)
    found None is = tt
    found (Some place) is = is

    at : (b : Bool) → HasAmount (option_flatten (cond {A = Option (Option Ticket)} b None (slice_get tickets (n - 1))))
    at true = tt
    at false = found (slice_get tickets (n - 1)) (amount-at tickets (n - 1) all)

-- tickets stay within their bounds
abbrev pub HasRoom : State → Type 0
HasRoom s = All HasAmount s.tickets × (length s.tickets ≤ s.limits.tickets) × IsWithinBounds s.limits

pub change-room : (by : By) (s : State) → Keeps by s HasRoom
change-room by s a (NewTicket t) (console, (some, small), free, _, _, _) (amounts, few, bounds) =
    (amounts-placed (free_tickets a), few-placed (length-placed a.tickets (free_tickets a) (Some t)), bounds)
  where
    amounts-placed : (places : List ℕ) → All HasAmount (placed a.tickets places (Some t))
    amounts-placed [] = All-push HasAmount a.tickets (Some t) amounts small
    amounts-placed (i ∷ places) = All-set HasAmount a.tickets i (Some t) small amounts

    few-placed : ((free_tickets a ≡ []) × (length (placed a.tickets (free_tickets a) (Some t)) ≡ length a.tickets + 1))
        ⊎ (length (placed a.tickets (free_tickets a) (Some t)) ≡ length a.tickets)
        → length (placed a.tickets (free_tickets a) (Some t)) ≤ a.limits.tickets
    few-placed (inl (none, one_more)) = omega (arith, free none, one_more)
    few-placed (inr same) = omega (arith, few, same)
change-room by s a (DropTicket n) allowed (amounts, few, bounds) =
    (All-set HasAmount a.tickets (n - 1) None tt amounts, omega (arith, few, length-set a.tickets (n - 1) None), bounds)
change-room by s a (PutTicket n place) (console, funded, (old, new, is, now, replaces)) (amounts, few, bounds) =
    (All-set HasAmount a.tickets (n - 1) place (subst HasAmount (sym now) small) amounts, omega (arith, few, length-set a.tickets (n - 1) place), bounds)
  where
    small : new.amount < 2 ^ 32
    small = amount-replaced (λ amount. amount < 2 ^ 32) replaces (subst HasAmount is (amount-in a.tickets n amounts))
        (λ good. good.1)
change-room by s a other allowed room = room

-- the same limits, and as many more records as threads
abbrev pub HasGrownFrom : State → State → Type 0
HasGrownFrom s after = (after.limits ≡ s.limits)
    × ((more : ℕ) × (length after.records ≡ length s.records + more) × (length after.threads ≡ length s.threads + more))

pub change-grown : (by : By) (s : State) → Keeps by s (HasGrownFrom s)
change-grown by s a (NewThread t) allowed (limits, (more, records, threads)) = (limits, by-free (free_threads a))
  where
    by-free : (free : List ℕ) → (n : ℕ) × (length (placed a.records free newborn) ≡ length s.records + n)
        × (length (placed a.threads free (Some t)) ≡ length s.threads + n)
    by-free [] = (more + 1, omega (arith, records, length-append a.records (newborn ∷ [])), omega (arith, threads, length-append a.threads (Some t ∷ [])))
    by-free (i ∷ free) = (more, length-set a.records i newborn ∙ records, length-set a.threads i (Some t) ∙ threads)
change-grown by s a (DropThread t) allowed (limits, (more, records, threads)) =
    (limits, (more, records, length-set a.threads (t - 1) None ∙ threads))
change-grown by s a (PutRecord t r) allowed (limits, (more, records, threads)) =
    (limits, (more, length-set a.records (t - 1) r ∙ records, threads))
change-grown by s a other allowed grown = grown

-- the same limits, as many records, and the same threads
abbrev pub HasSizesOf : State → State → Type 0
HasSizesOf s after = (after.limits ≡ s.limits) × (length after.records ≡ length s.records) × (after.threads ≡ s.threads)

pub change-sizes : (by : By) (s : State) → ¬ IsConsole by → Keeps by s (HasSizesOf s)
change-sizes by s other a (NewThread t) allowed sizes = absurd (other allowed.0)
change-sizes by s other a (DropThread t) allowed sizes = absurd (other allowed.0)
change-sizes by s other a (PutRecord t r) allowed (limits, records, threads) =
    (limits, length-set a.records (t - 1) r ∙ records, threads)
change-sizes by s other a c allowed sizes = sizes

-- what isn't the console's removes nobody, and wakes nobody who was dead at the start
pub change-removed : (by : By) (s : State) → ¬ IsConsole by → Queues s → AreRemovedDead s
    → Keeps by s (λ a. (a.threads ≡ s.threads) × AreRemovedDead a)
change-removed by s other queues before a (NewThread t) allowed removed = absurd (other allowed.0)
change-removed by s other queues before a (DropThread t) allowed removed = absurd (other allowed.0)
change-removed by s other queues before a (PutRecord t r) allowed (same, dead) =
    (same, λ u gone. from u gone (status-changed (λ _. r) a.records t u))
  where
    from : (u : ℕ) → at_number a.threads u ≡ Some None
        → (status_of (change_record (λ _. r) a.records t) u ≡ status_of a.records u) ⊎ ((u ≡ t) × ((x : Record)
        × (at_number a.records t ≡ Some x) × (status_of (change_record (λ _. r) a.records t) u ≡ Some r.status)))
        → status_of (set_number a.records t r) u ≡ Some status.Dead
    from u gone (inl kept) = ap (λ rs. status_of rs u) (sym (put-changes a.records t r allowed.there.0 allowed.there.1))
        ∙ kept ∙ dead u gone
    from u gone (inr (at, _)) =
        absurd (allowed.alive queues (before t
        (ap (λ threads. at_number threads t) (sym same) ∙ subst (λ n. at_number a.threads n ≡ Some None) at gone)))
change-removed by s other queues before a c allowed removed = removed

-- what the console removes is dead, and what it makes is there
pub change-gone : (by : By) (s : State) → IsConsole by → Keeps by s AreRemovedDead
change-gone by s console a (NewThread t) allowed removed u gone =
    from (number-placed a.threads (free_threads a) (Some t) u)
  where
    -- a gap isn't in the first free place, where the new thread is
    elsewhere : (free : List ℕ) → at_number a.threads u ≡ Some None
        → at_number (placed a.threads free (Some t)) u ≡ Some None → ¬ (slice_get free 0 ≡ Some (u - 1))
    elsewhere [] before now first = cc
    elsewhere (i ∷ free) before now first =
        let number : suc (u - 1) ≡ u = number-there a.threads u None before in
        let at : i ≡ u - 1 = some-injective i (u - 1) first in
        let place : slice_set a.threads i (Some t) ≡ set_number a.threads u (Some t) =
        ap (λ j. slice_set a.threads j (Some t)) at in
        let made : at_number (set_number a.threads u (Some t)) u ≡ Some (Some t) =
        number-set_same a.threads u (Some t) None before in
        let differs : Some (Some t) ≡ Some None = sym made ∙ sym (ap (λ ts. at_number ts u) place) ∙ now in cc

    from : (at_number (placed a.threads (free_threads a) (Some t)) u ≡ at_number a.threads u)
        ⊎ (at_number (placed a.threads (free_threads a) (Some t)) u ≡ Some (Some t))
        → status_of (placed a.records (free_threads a) newborn) u ≡ Some status.Dead
    from (inl same) = let before : at_number a.threads u ≡ Some None = sym same ∙ gone in status-stays a.records
        (free_threads a) newborn u status.Dead (elsewhere (free_threads a) before gone) (removed u before)
    from (inr made) = let differs : Some (Some t) ≡ Some None = sym made ∙ gone in cc
change-gone by s console a (DropThread t) (_, dead, _, _, _) removed u gone = from (number-set a.threads t None u)
  where
    from : (at_number (set_number a.threads t None) u ≡ at_number a.threads u)
        ⊎ ((u ≡ suc (t - 1)) × (at_number (set_number a.threads t None) u ≡ Some None))
        → status_of a.records u ≡ Some status.Dead
    from (inl same) = removed u (sym same ∙ gone)
    from (inr (at, new)) = let there : u ≡ t = at ∙ status-number a.records t status.Dead dead in
        ap (status_of a.records) there ∙ dead
change-gone by s console a (PutRecord t r) allowed removed u gone = absurd (allowed.mover console)
change-gone by s console a other allowed removed u gone = removed u gone

-- what the console removes serves nobody
pub change-idle : (by : By) (s : State) → IsConsole by → Queues s → Keeps by s AreRemovedIdle
change-idle by s console queues a (NewThread t) allowed idle u gone =
    from (number-placed a.threads (free_threads a) (Some t) u) (number-placed a.clients (free_threads a) [] u)
  where
    from : (at_number (placed a.threads (free_threads a) (Some t)) u ≡ at_number a.threads u)
        ⊎ (at_number (placed a.threads (free_threads a) (Some t)) u ≡ Some (Some t))
        → (at_number (placed a.clients (free_threads a) []) u ≡ at_number a.clients u)
        ⊎ (at_number (placed a.clients (free_threads a) []) u ≡ Some [])
        → clients_of (placed a.clients (free_threads a) []) u ≡ []
    from (inr made) _ = let differs : Some (Some t) ≡ Some None = sym made ∙ gone in cc
    from (inl was) (inl same) = ap (λ o. unwrap_or o []) same ∙ idle u (sym was ∙ gone)
    from (inl was) (inr new) = ap (λ o. unwrap_or o []) new
change-idle by s console queues a (DropThread t) (_, dead, there, serves, _) idle u gone =
    from (number-set a.threads t None u)
  where
    from : (at_number (set_number a.threads t None) u ≡ at_number a.threads u)
        ⊎ ((u ≡ suc (t - 1)) × (at_number (set_number a.threads t None) u ≡ Some None)) → clients_of a.clients u ≡ []
    from (inl same) = idle u (sym same ∙ gone)
    from (inr (at, new)) = let here : u ≡ t = at ∙ status-number a.records t status.Dead dead in
        ap (clients_of a.clients) here ∙ serves queues
change-idle by s console queues a (PutClients t x) allowed idle u gone = absurd (allowed console)
change-idle by s console queues a other allowed idle u gone = idle u gone

-- the same tickets
pub change-tickets : (by : By) (s : State) → ¬ IsConsole by → Keeps by s (λ a. a.tickets ≡ s.tickets)
change-tickets by s other a (NewTicket t) allowed same = absurd (other allowed.0)
change-tickets by s other a (DropTicket n) allowed same = absurd (other allowed.0)
change-tickets by s other a (PutTicket n place) allowed same = absurd (other allowed.0)
change-tickets by s other a c allowed same = same

-- ---- a kill

-- the waits of some threads end, if each of them waited for a server or a mutex at the start
release-leads : {by : By} {s : State} (threads : List ℕ) (a : State) → ¬ IsConsole by → Leads by s a
    → ((place u : ℕ) → slice_get threads place ≡ Some u → Queues s
    → (now : Status) × (status_of s.records u ≡ Some now) × ¬ (now ≡ status.Dead) × ((p : ℕ) → used_on p now ≡ None))
    → Leads by s (record a { records = change_each released a.records threads })
release-leads [] a other leads waits = leads
release-leads {by} {s} (t ∷ ts) a other leads waits =
    release-leads ts (record a { records = change_record released a.records t }) other
    (put a released t other (λ _ r. refl) leads
    (λ queues. let (now, is, lives, idle) = waits 0 t refl queues in alive-of s.records t now is lives)
    (λ queues p on spared. let (now, is, lives, idle) = waits 0 t refl queues in
    kept (λ b. used_by b.records p t ≡ used_by s.records p t) (change-used by s p t queues
    (λ console. absurd (other console)) on spared) leads refl ∙ used-of s.records p t now is (idle p))
    (λ r p used is. cc))
    (λ place u e. waits (suc place) u e)

-- each port changes, and each mutex, and the clients of each thread
ports-lead : {by : By} {s : State} (f : Port → Port) (a : State) → ¬ IsConsole by → Leads by s a
    → Leads by s (record a { ports = map f a.ports })
ports-lead {by} {s} f a other leads = map-by-sets (λ ports. Leads by s (record a { ports = ports })) f
    (λ ports n port before. Then before (PutPort n port) other) [] a.ports leads

mutexes-lead : {by : By} {s : State} (f : Mutex → Mutex) (a : State) → ¬ IsConsole by → Leads by s a
    → Leads by s (record a { mutexes = map f a.mutexes })
mutexes-lead {by} {s} f a other leads = map-by-sets (λ mutexes. Leads by s (record a { mutexes = mutexes })) f
    (λ mutexes n mutex before. Then before (PutMutex n mutex) other) [] a.mutexes leads

clients-lead : {by : By} {s : State} (f : List ℕ → List ℕ) (a : State) → ¬ IsConsole by → Leads by s a
    → Leads by s (record a { clients = map f a.clients })
clients-lead {by} {s} f a other leads = map-by-sets (λ clients. Leads by s (record a { clients = clients })) f
    (λ clients n threads before. Then before (PutClients n threads) other) [] a.clients leads

-- a thread that isn't dead is killed
pub kill-leads : (s : State) (t : ℕ) → IsAlive s.records t → Leads (Kills (Some t)) s (killed s t)
kill-leads s t alive =
    let a : State = record s { records = change_each released s.records (released_by s t) } in
    let b : State = record a { records = change_record ended a.records t } in
    let c : State = record b { clients = set_number (map (without t) s.clients) t [] } in
    let waits_end : Leads (Kills (Some t)) s a = release-leads (released_by s t) s not-console Stays waits in
    let ends : Leads (Kills (Some t)) s b = put a ended t not-console (λ _ r. refl) waits_end (λ _. alive)
    (λ queues p on spared. absurd (spared refl)) (λ r p used is. cc) in
    let unserved : Leads (Kills (Some t)) s c =
    Then (clients-lead (without t) b not-console ends) (PutClients t []) not-console in
    mutexes-lead (mutex_without t) (record c { ports = map (port_without t) s.ports }) not-console
    (ports-lead (port_without t) c not-console unserved)
  where
    not-console : ¬ IsConsole (Kills (Some t))
    not-console e = cc

    waits : (place u : ℕ) → slice_get (released_by s t) place ≡ Some u → Queues s
        → (now : Status) × (status_of s.records u ≡ Some now) × ¬ (now ≡ status.Dead) × ((p : ℕ) → used_on p now ≡ None)
    waits place u e queues = from (released-why s t place u e)
      where
        from : IsAmong (clients_of s.clients t) u ⊎ IsHeir s t u → (now : Status) × (status_of s.records u ≡ Some now)
            × ¬ (now ≡ status.Dead) × ((p : ℕ) → used_on p now ≡ None)
        from (inl client) = (status.Served t, client-waits s queues t u client, λ same. cc, λ p. refl)
        from (inr why) = (status.Waiting why.mutex, heir-waits s queues t u why, λ same. cc, λ p. refl)

-- who isn't found dead isn't
pub not-dead : (s : State) (t : ℕ) → is_dead_in s t ≡ false → IsAlive s.records t
not-dead s t alive dead = let passes : is_dead_in s t ≡ true = ap (option_any is_dead) dead in
    let never : true ≡ false = sym passes ∙ alive in cc

-- ---- commands

-- an amount that is checked
amount-of : (amount : ℕ) → is_bad_amount amount ≡ false → IsAmount amount
amount-of amount good =
    let parts = or_parts (amount == 0) (nat_lt 4294967295 amount) good in
    let some : ¬ (amount ≡ 0) = eqb-false amount 0 parts.0 in
    (omega (arith, some), omega (arith, ltb-false 4294967295 amount parts.1))

-- there is room for a ticket
room-of : (s : State) → are_tickets_full s ≡ false → free_tickets s ≡ [] → length s.tickets < s.limits.tickets
room-of s free all_used = leb-false s.limits.tickets (length s.tickets)
    (sym (ap (λ places. is_none_free places && nat_le s.limits.tickets (length s.tickets)) all_used) ∙ free)

-- a new thread is there
in-last : (threads : List (Option ThreadRecord)) (free : List ℕ) (x : ThreadRecord)
    → IsIn (placed threads free (Some x)) (next_place threads free + 1)
in-last threads free x gone =
    let next : next_place threads free + 1 ≡ suc (next_place threads free) = omega arith in
    last free (sym (at_number-suc (placed threads free (Some x)) (next_place threads free))
    ∙ ap (at_number (placed threads free (Some x))) (sym next) ∙ gone)
  where
    pushed : (ts : List (Option ThreadRecord)) → slice_get (ts ++ Some x ∷ []) (length ts) ≡ Some (Some x)
    pushed [] = refl
    pushed (u ∷ us) = pushed us

    put : (place : ℕ) (o : Option (Option ThreadRecord)) → slice_get threads place ≡ o
        → slice_get (slice_set threads place (Some x)) place ≡ Some None → ⊥
    put place (Some y) is none = let never : Some (Some x) ≡ Some None =
        sym (place-set_same threads place (Some x) y is) ∙ none in cc
    put place None is none = from (place-set threads place (Some x) place)
      where
        from : (slice_get (slice_set threads place (Some x)) place ≡ slice_get threads place)
            ⊎ ((place ≡ place) × (slice_get (slice_set threads place (Some x)) place ≡ Some (Some x))) → ⊥
        from (inl same) = let never : None ≡ Some None = sym is ∙ sym same ∙ none in cc
        from (inr (at, made)) = let never : Some (Some x) ≡ Some None = sym made ∙ none in cc

    last : (places : List ℕ) → slice_get (placed threads places (Some x)) (next_place threads places) ≡ Some None → ⊥
    last [] none = let never : Some (Some x) ≡ Some None = sym (pushed threads) ∙ none in cc
    last (place ∷ places) none = put place (slice_get threads place) refl none

-- a thread that is there wasn't removed
there-in : (threads : List (Option ThreadRecord)) (t : ℕ) → IsThere (thread_at threads t) → IsIn threads t
there-in threads t (x, is) gone = let never : Some x ≡ None = sym is ∙ ap option_flatten gone in cc

-- a target that is meant and isn't base
may-fund : (s : State) (to : TargetRef) → option_any (is_currency 0) (target_meant s to) ≡ false
    → MayFund s (unwrap_or (target_meant s to) target.Unfunded)
may-fund s to user = by (target_meant s to) refl user
  where
    by : (o : Option Target) → target_meant s to ≡ o → option_any (is_currency 0) o ≡ false
        → MayFund s (unwrap_or o target.Unfunded)
    by None is not_base = (λ same. cc, λ t e. cc)
    by (Some aim) is not_base =
        (λ same. let never : false ≡ true = sym not_base ∙ ap (is_currency 0) same in cc, λ t e. there-in s.threads t (target-thread s to t (is ∙ ap Some e)))

-- a ticket that is there is aimed at what it may fund
aims : {by : By} (s : State) (n : ℕ) (to : Target) → is_none (ticket_in s.tickets n) ≡ false → MayFund s to
    → Puts by s n (option_map (retargeted to) (ticket_in s.tickets n))
aims s n to named may =
    let (t, is) = some-of (ticket_in s.tickets n) named in
    (t, retargeted to t, is, ap (option_map (retargeted to)) is, record { issuer = refl; aim = inr may; amount = inl refl })

-- a thread that leaves a free place is dead
pub free-dead : (s : State) → HasGaps s → AreRemovedDead s → FirstIsDead s.records (free_threads s)
free-dead s gaps removed place = by s.limits.reuse refl
  where
    by : (reuse : Bool) → s.limits.reuse ≡ reuse → slice_get (cond {A = List ℕ} reuse s.freed.threads []) 0 ≡ Some place
        → status_of s.records (suc place) ≡ Some status.Dead
    by false is first = cc
    by true is first = removed (suc place)
        (at_number-suc s.threads place ∙ (gaps is).threads.each place (contains-at s.freed.threads 0 place first))

-- a currency that is meant has a name
pub currency-there : (s : State) (currency : CurrencyRef) → is_none (currency_meant s currency) ≡ false
    → IsThere (option_flatten (slice_get s.currencies (currency_or_base s currency)))
currency-there s currency some = by (some-of (currency_meant s currency) some)
  where
    found : (c : ℕ) (o : Option (Option (List ℕ))) → option_map is_some o ≡ Some true → IsThere (option_flatten o)
    found c None e = cc
    found c (Some None) e = cc
    found c (Some (Some name)) e = (name, refl)

    by : IsThere (currency_meant s currency)
        → IsThere (option_flatten (slice_get s.currencies (currency_or_base s currency)))
    by (c, is) =
        subst (λ (o : Option ℕ). IsThere (option_flatten (slice_get s.currencies (unwrap_or o 0)))) (sym is)
        (found c (slice_get s.currencies c) (sym (slice_get-map is_some s.currencies c) ∙ meant-there s currency c is))

-- a thread that is meant is there
thread-there : (s : State) (thread : ThreadRef) → is_none (thread_meant s thread) ≡ false
    → IsThere (thread_at s.threads (unwrap_or (thread_meant s thread) 0))
thread-there s thread some = by (some-of (thread_meant s thread) some)
  where
    by : IsThere (thread_meant s thread) → IsThere (thread_at s.threads (unwrap_or (thread_meant s thread) 0))
    by (t, is) =
        subst (λ (o : Option ℕ). IsThere (thread_at s.threads (unwrap_or o 0))) (sym is) (meant-thread s thread t is)

-- these places are given again, if numbers are
given : (s : State) → s.limits.reuse ≡ true → (free : List ℕ) → given_again s free ≡ free
given s on free = ap (λ b. cond {A = List ℕ} b free []) on

-- the place of what is there
place-there : {A : Type 0} (xs : List (Option A)) (n : ℕ) (x : A) → option_flatten (at_number xs n) ≡ Some x
    → slice_get xs (n - 1) ≡ Some (Some x)
place-there xs zero x is = cc
place-there xs (suc i) x is = let place : suc i - 1 ≡ i = omega arith in ap (slice_get xs) place
    ∙ sym (at_number-suc xs i) ∙ flatten-some (at_number xs (suc i)) x is

-- whose changes a command's are
abbrev pub by_command : State → Command → By
by_command s (Kill thread) = Kills (thread_meant s thread)
by_command s other = Console other

-- Each command: its checks say that its changes are allowed.
pub command-leads : (s : State) (c : Command) → Leads (by_command s c) s (command_step s c).state
command-leads s (MakeTicket amount currency) =
    unrefused (Leads (Console _) s) s _ (command_effect s (MakeTicket amount currency)) Stays (λ e.
    let passed = all-pass ((is_bad_amount amount, BadAmount) ∷ (is_none (currency_meant s currency), NoCurrency)
    ∷ (are_tickets_full s, Full) ∷ []) e in
    Then Stays (NewTicket (record { amount = amount; issuer = currency_or_base s currency; target = target.Unfunded }))
    (refl, amount-of amount passed.0, room-of s passed.1.1.0, refl, currency-there s currency passed.1.0, (λ same. cc, λ t e. cc)))
command-leads s (RemoveTicket n) =
    unrefused (Leads (Console _) s) s _ (command_effect s (RemoveTicket n)) Stays (λ e.
    let passed = all-pass
    ((is_none (ticket_in s.tickets n), NoTicket) ∷ (option_any is_funding (ticket_in s.tickets n), IsFunding) ∷ []) e in
    Then Stays (DropTicket n) (refl, refl, some-of (ticket_in s.tickets n) passed.0))
command-leads s (MakeCurrency name) = unrefused (Leads (Console _) s) s _ (command_effect s (MakeCurrency name)) Stays
    (λ _. Then Stays (NewCurrency name) refl)
command-leads s (RemoveCurrency currency) =
    unrefused (Leads (Console _) s) s _ (command_effect s (RemoveCurrency currency)) Stays (λ e.
    let passed = all-pass ((is_none (currency_meant s currency), NoCurrency)
    ∷ (option_any (λ c. c == 0) (currency_meant s currency), BaseFixed)
    ∷ (option_any (is_in_use s) (currency_meant s currency), InUse) ∷ []) e in
    let (issues, backs) = unused (currency_meant s currency) passed.0 passed.1.1.0 in
    Then Stays (DropCurrency (currency_or_base s currency)) (refl, backs, currency-there s currency passed.0, issues))
  where
    unused : (o : Option ℕ) → is_none o ≡ false → option_any (is_in_use s) o ≡ false
        → (length (issued_in (funding_of s) (unwrap_or o 0)) ≡ 0)
        × (length (backing_currency (funding_of s) (unwrap_or o 0)) ≡ 0)
    unused None named not_used = cc
    unused (Some c) named not_used =
        let parts = or_parts (nat_lt 0 (length (issued_in (funding_of s) c)))
        (nat_lt 0 (length (backing_currency (funding_of s) c))) not_used in
        (none-of (issued_in (funding_of s) c) parts.0, none-of (backing_currency (funding_of s) c) parts.1)
command-leads s (Fund n to_fund) =
    unrefused (Leads (Console _) s) s _ (command_effect s (Fund n to_fund)) Stays (λ e.
    let passed = all-pass ((is_none (ticket_in s.tickets n), NoTicket) ∷ (is_none (target_meant s to_fund), NoTarget)
    ∷ (option_any (is_currency 0) (target_meant s to_fund), BaseFixed)
    ∷ (option_any (is_dead_thread s) (target_meant s to_fund), DeadThread)
    ∷ (option_any is_funding (ticket_in s.tickets n), IsFunding)
    ∷ (option_any (is_cycle s n) (target_meant s to_fund), Cycle) ∷ []) e in
    let to = unwrap_or (target_meant s to_fund) target.Unfunded in
    Then Stays (PutTicket n (option_map (retargeted to) (ticket_in s.tickets n)))
    (refl, funds (target_meant s to_fund) refl passed.1.0 passed.1.1.1.1.1.0 passed.0, aims s n to passed.0 (may-fund s to_fund passed.1.1.0)))
  where
    funds : (o : Option Target) → target_meant s to_fund ≡ o → is_none o ≡ false → option_any (is_cycle s n) o ≡ false
        → is_none (ticket_in s.tickets n) ≡ false
        → IsFunded s → IsFunded (record s { tickets = with_target s.tickets n (unwrap_or o target.Unfunded) })
    funds None is named apart here funded = cc
    funds (Some to) is named apart here (no_cycle, there) =
        keeps-target s no_cycle there n to (λ c same. (apart, target-there s to_fund c (is ∙ ap Some same))) here
command-leads s (Unfund n) =
    unrefused (Leads (Console _) s) s _ (command_effect s (Unfund n)) Stays (λ e.
    let passed = all-pass ((is_none (ticket_in s.tickets n), NoTicket)
    ∷ (not (option_any is_funding (ticket_in s.tickets n)), NotFunding) ∷ []) e in
    Then Stays (PutTicket n (option_map (retargeted target.Unfunded) (ticket_in s.tickets n)))
    (refl, λ (cycle, there). keeps-unfund s cycle there n target.Unfunded refl, aims s n target.Unfunded passed.0 (λ same. cc, λ t e. cc)))
command-leads s (SetTicket n amount) =
    unrefused (Leads (Console _) s) s _ (command_effect s (SetTicket n amount)) Stays (λ e.
    let passed = all-pass ((is_bad_amount amount, BadAmount) ∷ (is_none (ticket_in s.tickets n), NoTicket) ∷ []) e in
    let (place, there) = place-of s.tickets n passed.1.0 in
    let (t, is) = some-of (ticket_in s.tickets n) passed.1.0 in
    Then Stays (PutTicket n (option_map (reissued amount) (ticket_in s.tickets n))) (
      refl,
      λ (cycle, funds). (HasNoCycle-amount (funding_of s) n amount place there cycle, FundsThere-amount (funding_of s) n amount place there funds),
      (t, reissued amount t, is, ap (option_map (reissued amount)) is, record { issuer = refl; aim = inl refl; amount = inr ((SetTicket n amount, refl, refl), amount-of amount passed.0) }),
    ))
command-leads s (MakeThread name script) =
    unrefused (Leads (Console _) s) s _ (command_effect s (MakeThread name script)) Stays
    (λ _. Then Stays (NewThread (record { name = name; script = script })) (refl, free-dead s))
command-leads s (RemoveThread thread) =
    unrefused (Leads (Console _) s) s _ (command_effect s (RemoveThread thread)) Stays (λ e.
    let passed = all-pass
    ((is_none (thread_meant s thread), NoThread) ∷ (not (option_any (is_dead_in s) (thread_meant s thread)), Alive)
    ∷ (option_any (is_thread_in_use s) (thread_meant s thread), InUse) ∷ []) e in
    let used = passed.1.1.0 in
    Then Stays (DropThread (unwrap_or (thread_meant s thread) 0))
    (refl, ended (thread_meant s thread) passed.0 passed.1.0, thread-there s thread passed.0, λ queues. unserved (thread_meant s thread) passed.0 used, unaimed (thread_meant s thread) passed.0 used))
  where
    holds : (b : Bool) → not b ≡ false → b ≡ true
    holds true e = refl
    holds false e = cc

    unserved : (o : Option ℕ) → is_none o ≡ false → option_any (is_thread_in_use s) o ≡ false
        → clients_of s.clients (unwrap_or o 0) ≡ []
    unserved None named unused = cc
    unserved (Some t) named unused = unused-serves s t unused

    unaimed : (o : Option ℕ) → is_none o ≡ false → option_any (is_thread_in_use s) o ≡ false
        → edge_count_into (funding_of s) (node.Thread (unwrap_or o 0)) ≡ 0
    unaimed None named unused = cc
    unaimed (Some t) named unused =
        let count = edge_count_into (funding_of s) (node.Thread t) in
        omega (arith, ltb-false 0 count (or_parts (nat_lt 0 count) (is_some (first_client s.clients t)) unused).0)

    ended : (o : Option ℕ) → is_none o ≡ false → not (option_any (is_dead_in s) o) ≡ false
        → status_of s.records (unwrap_or o 0) ≡ Some status.Dead
    ended None named alive = cc
    ended (Some t) named alive = is-dead (status_of s.records t) (holds (is_dead_in s t) alive)
command-leads s (Kill thread) =
    unrefused (Leads (Kills (thread_meant s thread)) s) s _ (command_effect s (Kill thread)) Stays (λ e.
    let passed = all-pass ((is_none (thread_meant s thread), NoThread)
    ∷ (option_any (is_dead_in s) (thread_meant s thread), DeadThread) ∷ []) e in
    at (thread_meant s thread) passed.0 passed.1.0)
  where
    at : (o : Option ℕ) → is_none o ≡ false → option_any (is_dead_in s) o ≡ false
        → Leads (Kills o) s (killed s (unwrap_or o 0))
    at None named alive = cc
    at (Some t) named alive = kill-leads s t (not-dead s t alive)
command-leads s (MakeFunded amount currency name script) =
    unrefused (Leads (Console _) s) s _ (command_effect s (MakeFunded amount currency name script)) Stays (λ e.
    let passed = all-pass ((is_bad_amount amount, BadAmount) ∷ (is_none (currency_meant s currency), NoCurrency)
    ∷ (not (is_thread_name s.limits name), BadName)
    ∷ (is_taken s name, NameTaken) ∷ (is_no_script s script, NoScript)
    ∷ (are_tickets_full s || are_threads_full s, Full) ∷ []) e in
    let to = target.Thread (next_thread s) in
    Then (Then Stays (NewThread (record { name = name; script = script })) (refl, free-dead s))
    (NewTicket (record { amount = amount; issuer = currency_or_base s currency; target = to }))
    (refl, amount-of amount passed.0, room-of s (or_parts (are_tickets_full s) (are_threads_full s) passed.1.1.1.1.1.0).0, refl, currency-there s currency passed.1.0, (λ same. cc, λ t e. made t (thread-same (next_thread s) t e))))
  where
    thread-same : (a b : ℕ) → target.Thread a ≡ target.Thread b → a ≡ b
    thread-same a b e = cc

    made : (t : ℕ) → next_thread s ≡ t → IsIn (with_thread s name script).threads t
    made t same = subst (IsIn (with_thread s name script).threads) same
        (in-last s.threads (free_threads s) (record { name = name; script = script }))
command-leads s (Listing kind) = Stays

-- nothing makes a cycle, and tickets fund only currencies that are there
pub change-funded : (by : By) (s : State) → IsConsole by → Keeps by s IsFunded
change-funded by s console a (NewTicket t) (_, amount, room, none, _, _) (no_cycle, there) =
    (HasNoCycle-placed_ticket (funding_of a) (free_tickets a) t none no_cycle, FundsThere-placed_ticket (funding_of a) (free_tickets a) t none there)
change-funded by s console a (DropTicket n) allowed (no_cycle, there) = keeps-remove_ticket a no_cycle there n
change-funded by s console a (PutTicket n place) (_, keeps, puts) funded = keeps funded
change-funded by s console a (NewCurrency name) allowed (no_cycle, there) = (
  HasNoCycle-currencies (funding_of a) (map is_some (placed a.currencies (free_currencies a) (Some name))) no_cycle,
  subst (λ xs. FundsThere (record (funding_of a) { currencies = xs })) (sym (map-placed is_some a.currencies
      (free_currencies a) (Some name))) (FundsThere-placed (funding_of a) (free_currencies a) there),
)
change-funded by s console a (DropCurrency c) (_, unused, _, _) (no_cycle, there) = (
  HasNoCycle-currencies (funding_of a) (map is_some (slice_set a.currencies c None)) no_cycle,
  subst (λ xs. FundsThere (record (funding_of a) { currencies = xs })) (sym (map-set is_some a.currencies c None))
      (FundsThere-removed (funding_of a) c unused there),
)
change-funded by s console a (NewThread t) allowed (no_cycle, there) =
    (subst (λ xs. HasNoCycle (record (funding_of a) { lends = xs })) (sym (map-placed (λ (r : Record). lend_of a.limits r.status) a.records (free_threads a) newborn)) (HasNoCycle-lends_placed (funding_of a) (free_threads a) no_cycle), there)
change-funded by s console a (DropThread t) allowed funded = funded
change-funded by s console a (PutRecord t r) allowed funded = absurd (allowed.mover console)
change-funded by s console a (PutClients t x) allowed funded = absurd (allowed console)
change-funded by s console a (PutPort t x) allowed funded = absurd (allowed console)
change-funded by s console a (PutMutex t x) allowed funded = absurd (allowed console)

-- what isn't the console's leaves tickets and currencies
pub change-there : (by : By) (s : State) → ¬ IsConsole by → Keeps by s (λ a. FundsThere (funding_of a))
change-there by s other a (NewTicket t) allowed there = absurd (other allowed.0)
change-there by s other a (DropTicket n) allowed there = absurd (other allowed.0)
change-there by s other a (PutTicket n place) allowed there = absurd (other allowed.0)
change-there by s other a (NewCurrency name) allowed there = absurd (other allowed)
change-there by s other a (DropCurrency c) allowed there = absurd (other allowed.0)
change-there by s other a (NewThread t) allowed there = absurd (other allowed.0)
change-there by s other a c allowed there = there

-- those who wait stand where their statuses say
pub change-queues : (by : By) (s : State) → IsConsole by → HasGaps s → AreRemovedDead s → Keeps by s Queues
change-queues by s console gaps removed a (NewThread t) allowed queues =
    queues-placed a.records a.clients a.ports a.mutexes queues (free_threads a) newborn (allowed.1 gaps removed)
change-queues by s console gaps removed a (PutRecord t r) allowed queues = absurd (allowed.mover console)
change-queues by s console gaps removed a (PutClients t x) allowed queues = absurd (allowed console)
change-queues by s console gaps removed a (PutPort t x) allowed queues = absurd (allowed console)
change-queues by s console gaps removed a (PutMutex t x) allowed queues = absurd (allowed console)
change-queues by s console gaps removed a other allowed queues = queues

-- gaps are free if numbers are given again
pub change-gaps : (by : By) (s : State) → Keeps by s HasGaps
change-gaps by s a (NewTicket t) allowed gaps on = let are = gaps on in
    record { tickets = now on; currencies = are.currencies; threads = are.threads }
  where
    now : a.limits.reuse ≡ true
        → HasEachOnce (drop 1 (free_tickets a)) (IsGap (placed a.tickets (free_tickets a) (Some t)))
    now on = subst (λ free. HasEachOnce (drop 1 free) (IsGap (placed a.tickets free (Some t))))
        (sym (given a on a.freed.tickets)) (gaps-placed a.tickets a.freed.tickets t (gaps on).tickets)
change-gaps by s a (DropTicket n) (console, removes, there) gaps on = let are = gaps on in
    record { tickets = now on there; currencies = are.currencies; threads = are.threads }
  where
    now : a.limits.reuse ≡ true → IsThere (ticket_in a.tickets n)
        → HasEachOnce (given_again a ((n - 1) ∷ a.freed.tickets)) (IsGap (set_number a.tickets n None))
    now on (t, is) = subst (λ free. HasEachOnce free (IsGap (set_number a.tickets n None)))
        (sym (given a on ((n - 1) ∷ a.freed.tickets)))
        (gaps-removed a.tickets a.freed.tickets (n - 1) t (place-there a.tickets n t is) (gaps on).tickets)
change-gaps by s a (PutTicket n place) (console, funded, (t, u, is, now, _)) gaps on =
    let are = gaps on in
    record {
      tickets = subst (λ x. HasEachOnce a.freed.tickets (IsGap (set_number a.tickets n x))) (sym now)
          (gaps-replaced a.tickets a.freed.tickets (n - 1) t u (place-there a.tickets n t is) are.tickets);
      currencies = are.currencies;
      threads = are.threads;
    }
change-gaps by s a (NewCurrency name) allowed gaps on = let are = gaps on in
    record { tickets = are.tickets; currencies = now on; threads = are.threads }
  where
    now : a.limits.reuse ≡ true
        → HasEachOnce (drop 1 (free_currencies a)) (IsGap (placed a.currencies (free_currencies a) (Some name)))
    now on = subst (λ free. HasEachOnce (drop 1 free) (IsGap (placed a.currencies free (Some name))))
        (sym (given a on a.freed.currencies)) (gaps-placed a.currencies a.freed.currencies name (gaps on).currencies)
change-gaps by s a (DropCurrency c) (console, unused, there, _) gaps on = let are = gaps on in
    record { tickets = are.tickets; currencies = now on there; threads = are.threads }
  where
    now : a.limits.reuse ≡ true → IsThere (option_flatten (slice_get a.currencies c))
        → HasEachOnce (given_again a (c ∷ a.freed.currencies)) (IsGap (slice_set a.currencies c None))
    now on (name, is) =
        subst (λ free. HasEachOnce free (IsGap (slice_set a.currencies c None)))
        (sym (given a on (c ∷ a.freed.currencies))) (gaps-removed a.currencies a.freed.currencies c name
        (flatten-some (slice_get a.currencies c) name is) (gaps on).currencies)
change-gaps by s a (NewThread t) allowed gaps on = let are = gaps on in
    record { tickets = are.tickets; currencies = are.currencies; threads = now on }
  where
    now : a.limits.reuse ≡ true
        → HasEachOnce (drop 1 (free_threads a)) (IsGap (placed a.threads (free_threads a) (Some t)))
    now on = subst (λ free. HasEachOnce (drop 1 free) (IsGap (placed a.threads free (Some t))))
        (sym (given a on a.freed.threads)) (gaps-placed a.threads a.freed.threads t (gaps on).threads)
change-gaps by s a (DropThread t) (console, dead, there, _, _) gaps on = let are = gaps on in
    record { tickets = are.tickets; currencies = are.currencies; threads = now on there }
  where
    now : a.limits.reuse ≡ true → IsThere (thread_at a.threads t)
        → HasEachOnce (given_again a ((t - 1) ∷ a.freed.threads)) (IsGap (set_number a.threads t None))
    now on (x, is) = subst (λ free. HasEachOnce free (IsGap (set_number a.threads t None)))
        (sym (given a on ((t - 1) ∷ a.freed.threads)))
        (gaps-removed a.threads a.freed.threads (t - 1) x (place-there a.threads t x is) (gaps on).threads)
change-gaps by s a (PutRecord t r) allowed gaps on = let are = gaps on in
    record { tickets = are.tickets; currencies = are.currencies; threads = are.threads }
change-gaps by s a (PutClients t x) allowed gaps on = let are = gaps on in
    record { tickets = are.tickets; currencies = are.currencies; threads = are.threads }
change-gaps by s a (PutPort t x) allowed gaps on = let are = gaps on in
    record { tickets = are.tickets; currencies = are.currencies; threads = are.threads }
change-gaps by s a (PutMutex t x) allowed gaps on = let are = gaps on in
    record { tickets = are.tickets; currencies = are.currencies; threads = are.threads }

-- a command leaves no ticket that makes a cycle, or that funds a currency which isn't there
pub command-keeps : (s : State) (c : Command) → HasNoCycle (funding_of s) → FundsThere (funding_of s)
    → HasNoCycle (funding_of (command_step s c).state) × FundsThere (funding_of (command_step s c).state)
command-keeps s (Kill thread) no_cycle there = unrefused IsFunded s _ (command_effect s (Kill thread)) (no_cycle, there)
    (λ _. (kill-cycle s (unwrap_or (thread_meant s thread) 0) no_cycle, there))
command-keeps s c no_cycle there =
    kept IsFunded (change-funded (Console c) s refl) (command-leads s c) (no_cycle, there)

-- ---- what traps do besides

-- allowed changes lead to the effect's state, and who leaves its processor doesn't run
abbrev pub Works : State → Effect → Type 0
Works s e = Leads Work s e.state × StopsIfLeaves e.after

-- a thread that the work of a trap wakes or takes doesn't run before or after
wakes : {s : State} (a : State) (change : Record → Record) (t : ℕ) → Leads Work s a → (Queues s → IsAlive s.records t)
    → (Queues s → (p : ℕ) → used_by a.records p t ≡ None)
    → ((r : Record) (p used : ℕ) → ¬ ((change r).status ≡ status.Running p used)) → LeavesTally change
    → Leads Work s (record a { records = change_record change a.records t })
wakes a change t leads alive idle stops tally = put a change t (λ e. cc) (λ _. tally) leads alive
    (λ queues p _ _. idle queues p) (λ r p used is. absurd (stops r p used is))

call-leads : (s : State) (t port number : ℕ) → Works s (of_ports s (call s.records s.clients s.ports t port number))
call-leads s t port number = at (port_at s.ports port).receivers refl
  where
    at : (o : List ℕ) → (port_at s.ports port).receivers ≡ o
        → Works s (of_ports s (call s.records s.clients s.ports t port number))
    at [] is = rw is (Then Stays (PutPort port (record { calls = (port_at s.ports port).calls ++ record { caller = t; number = number } ∷ []; receivers = [] })) (λ e. cc), λ p used e. cc)
    at (server ∷ others) is =
        let woken = wakes s (λ r. record r { status = status.Ready; delivered = Some number }) server Stays
        (λ queues. receiver-alive s.records s.clients s.ports s.mutexes queues port server others is)
        (λ queues p. receiver-used s.records s.clients s.ports s.mutexes queues p port server others is)
        (λ r. ready-stops) (λ r. refl) in
        rw is (Then (Then woken (PutClients server (clients_of s.clients server ++ t ∷ [])) (λ e. cc)) (PutPort port (record { calls = (port_at s.ports port).calls; receivers = others })) (λ e. cc), λ p used e. cc)

receive-leads : {s : State} (a : State) (server port : ℕ) → Leads Work s a
    → ((first : QueuedCall) (others : List QueuedCall) → (port_at a.ports port).calls ≡ first ∷ others → Queues s
    → IsAlive s.records first.caller)
    → ((first : QueuedCall) (others : List QueuedCall) → (port_at a.ports port).calls ≡ first ∷ others → Queues s
    → (p : ℕ) → used_by a.records p first.caller ≡ None)
    → Works s (of_ports a (receive a.records a.clients a.ports server port))
receive-leads {s} a server port leads alive callers = at (port_at a.ports port).calls refl
  where
    at : (o : List QueuedCall) → (port_at a.ports port).calls ≡ o
        → Works s (of_ports a (receive a.records a.clients a.ports server port))
    at [] is = rw is (Then leads (PutPort port (record { calls = []; receivers = (port_at a.ports port).receivers ++ server ∷ [] })) (λ e. cc), λ p used e. cc)
    at (first ∷ others) is =
        let taken = wakes a (λ r. record r { status = status.Served server }) first.caller leads (alive first others is)
        (callers first others is) (λ r p used e. cc) (λ r. refl) in
        rw is (Then (Then taken (PutClients server (clients_of a.clients server ++ first.caller ∷ [])) (λ e. cc)) (PutPort port (record { calls = others; receivers = (port_at a.ports port).receivers })) (λ e. cc), tt)

reply-leads : (s : State) (server number : ℕ) → Works s (of_ports s (reply s.records s.clients s.ports server number))
reply-leads s server number =
    let woken = wakes s (λ r. record r { status = status.Ready; delivered = Some number })
    (unwrap_or (first_client s.clients server) 0) Stays
    (λ queues. client-alive s.records s.clients s.ports s.mutexes queues server)
    (λ queues p. client-used s.records s.clients s.ports s.mutexes queues p server) (λ r. ready-stops) (λ r. refl) in
    (Then woken (PutClients server (drop 1 (clients_of s.clients server))) (λ e. cc), tt)

lock-leads : {s : State} (a : State) (t m : ℕ) → Leads Work s a → Works s (of_mutexes a (lock a.records a.mutexes t m))
lock-leads {s} a t m leads = at (mutex_at a.mutexes m).owner refl
  where
    at : (o : Option ℕ) → (mutex_at a.mutexes m).owner ≡ o → Works s (of_mutexes a (lock a.records a.mutexes t m))
    at None is = rw is
        (Then leads (PutMutex m (record { owner = Some t; waiters = (mutex_at a.mutexes m).waiters })) (λ e. cc), tt)
    at (Some owner) is = rw is
        (Then leads (PutMutex m (record { owner = Some owner; waiters = (mutex_at a.mutexes m).waiters ++ t ∷ [] })) (λ e. cc), λ p used e. cc)

unlock-leads : (s : State) (value : ℕ → ℕ) (m d : ℕ) → Works s (of_mutexes s (unlock s.records s.mutexes value m d))
unlock-leads s value m d = at (mutex_at s.mutexes m).waiters refl
  where
    at : (o : List ℕ) → (mutex_at s.mutexes m).waiters ≡ o
        → Works s (of_mutexes s (unlock s.records s.mutexes value m d))
    at [] is = rw is (Then Stays (PutMutex m (record { owner = None; waiters = [] })) (λ e. cc), tt)
    at (w ∷ ws) is =
        let place = unwrap_or (option_map (λ (drawn : Drawn). drawn.place) (winner (map value (w ∷ ws)) d)) 0 in
        let passed = slice_index (w ∷ ws) place in
        let woken = wakes s (λ r. record r { status = status.Ready }) passed Stays (λ queues.
        waiter-alive s.records s.clients s.ports s.mutexes queues m place (w ∷ ws) is) (λ queues p. waiter-used
        s.records s.clients s.ports s.mutexes queues p m place (w ∷ ws) is) (λ r. ready-stops) (λ r. refl) in
        rw is (Then woken (PutMutex m (record { owner = Some passed; waiters = remove (w ∷ ws) place })) (λ e. cc), ready-stops)

-- a port gets this server, or none
server-leads : {by : By} {s : State} (a : State) (port : ℕ) (server : Option ℕ) → ¬ IsConsole by → Leads by s a
    → Leads by s (record a { mutexes = with_server a.limits a.mutexes port server })
server-leads {by} {s} a port server other leads = at a.limits.queued_lend
  where
    at : (b : Bool) → Leads by s
        (record a { mutexes = cond b (set_number a.mutexes (holder_of a.limits port) (held_by server)) a.mutexes })
    at true = Then leads (PutMutex (holder_of a.limits port) (held_by server)) other
    at false = leads

-- holders lose their owners that pass a test
unserved-leads : {by : By} {s : State} (test : ℕ → Bool) (a : State) (ns : List ℕ) → ¬ IsConsole by → Leads by s a
    → Leads by s (record a { mutexes = unserved test a.mutexes ns })
unserved-leads test a [] other leads = leads
unserved-leads {by} {s} test a (n ∷ ns) other leads = unserved-leads test
    (record a { mutexes = unserved_at test a.mutexes n }) ns other (at (option_any test (mutex_at a.mutexes n).owner))
  where
    at : (b : Bool) → Leads by s (record a { mutexes = cond b (set_number a.mutexes n (held_by None)) a.mutexes })
    at true = Then leads (PutMutex n (held_by None)) other
    at false = leads

-- a trap at a port, which may get another server
port-leads : (s : State) (t port : ℕ) (e : PortTrap) → Works s (of_ports s e) → Works s (at_port s t port e)
port-leads s t port e (leads, stops) = (by e.outcome, stops)
  where
    serves : (server : Option ℕ)
        → Leads Work s (record (of_ports s e).state { mutexes = with_server s.limits s.mutexes port server })
    serves server = server-leads (of_ports s e).state port server (λ same. cc) leads

    back : (b : Bool) → Leads Work s
        (record (of_ports s e).state { mutexes = cond b (with_server s.limits s.mutexes port None) s.mutexes })
    back true = serves None
    back false = leads

    by : (o : Outcome) → Leads Work s (record (of_ports s e).state { mutexes = served_at s t port o })
    by (outcome.ServedBy server) = serves (Some server)
    by outcome.Queued = back (leads_back s t port)
    by (outcome.Received client number) = serves (Some t)
    by (outcome.RepliedThenReceived to client number) = serves (Some t)
    by other = leads

before-lock-leads : (s : State) (t m : ℕ) → Leads Work s (record s { mutexes = before_lock s t m })
before-lock-leads s t m = at (option_any (λ owner. lends_on_to (funding_of s) owner t) (mutex_at s.mutexes m).owner)
  where
    at : (b : Bool) → Leads Work s (record s { mutexes = cond b (unserved (λ server. lends_lead (funding_of s) server t) s.mutexes (port_holders s.limits)) s.mutexes })
    at true = unserved-leads (λ server. lends_lead (funding_of s) server t) s (port_holders s.limits) (λ same. cc) Stays
    at false = Stays

pub effect-leads : (s : State) (t : ℕ) (action : Action) → Works s (trap_effect s t action)
effect-leads s t (Call port number) =
    port-leads s t port (call s.records s.clients s.ports t port number) (call-leads s t port number)
effect-leads s t (Receive port) =
    port-leads s t port (receive s.records s.clients s.ports t port)
    (receive-leads s t port Stays
    (λ first others is queues. caller-alive s.records s.clients s.ports s.mutexes queues port first others is)
    (λ first others is queues p. caller-used s.records s.clients s.ports s.mutexes queues p port first others is))
effect-leads s t (ReplyTo number) = reply-leads s t number
effect-leads s t (Serve port number) =
    let replied = (reply-leads s t number).0 in
    port-leads s t port (serve s.records s.clients s.ports t port number)
    (receive-leads (of_ports s (reply s.records s.clients s.ports t number)).state t port replied
    (λ first others is queues. caller-alive s.records s.clients s.ports s.mutexes queues port first others is)
    (λ first others is queues p.
    kept (λ a. used_by a.records p first.caller ≡ used_by s.records p first.caller)
    (change-used Work s p first.caller queues (λ e. cc) (λ e. cc) (λ e. cc)) replied refl
    ∙ caller-used s.records s.clients s.ports s.mutexes queues p port first others is))
effect-leads s t (Lock m) = lock-leads (record s { mutexes = before_lock s t m }) t m (before-lock-leads s t m)
effect-leads s t (Unlock m d) = unlock-leads s (value_of s) m d
effect-leads s t Exit = (unserved-leads (λ server. server == t) s (port_holders s.limits) (λ same. cc) Stays, tt)
effect-leads s t other = (Stays, λ p used e. cc)

pub checked-leads : (s : State) (t : ℕ) (action : Action) (o : Option TrapRefusal)
    → Works s (checked_effect s o (trap_effect s t action))
checked-leads s t action None = effect-leads s t action
checked-leads s t action (Some refusal) = (Stays, tt)

-- ---- draws, expiries and whole traps

pub draw-leads : (s : State) (p d : ℕ) → thread_on s.records p ≡ None → Leads (On p) s (draw s p d).state
draw-leads s p d free = at (winner (map (weight_of s) (ready_threads s.records)) d) refl
  where
    starts : (q used more : ℕ) → status.Running p used ≡ status.Running q more → p ≡ q
    starts q used more e = cc

    at : (o : Option Drawn) → winner (map (weight_of s) (ready_threads s.records)) d ≡ o
        → Leads (On p) s (draw s p d).state
    at None is = rw is Stays
    at (Some w) is =
        let won = slice_index (ready_threads s.records) w.place in
        rw is (put s (started p) won (λ e. cc) (λ e. absurd e) Stays (λ queues. index-holds (IsAlive s.records)
        (ready_threads s.records) w.place (nobody-alive s.records) (ready-alive s w.place))
        (λ queues q other spared.
        index-holds (λ t. used_by s.records q t ≡ None) (ready_threads s.records) w.place refl (ready-used s q w.place))
        (λ r q used e. (ap On (starts q 0 used e), λ apart u more runs. absurd (nobody-runs s.records p u more free (subst (λ x. status_of s.records u ≡ Some (status.Running x more)) (sym (starts q 0 used e)) runs)))))

-- the thread that runs on the processor is taken off it
pub stopped-leads : (s : State) (p ticks : ℕ) (compensation : Option ℕ) → is_none (thread_on s.records p) ≡ false
    → Leads (On p) s (stopped s (thread_there s p) ticks compensation).state
stopped-leads s p ticks compensation there =
    put s (λ r. with_ticks ticks (record r { status = status.Ready; compensation = compensation })) (thread_there s p)
    (λ e. cc) (λ e. absurd e) Stays (λ _. there-alive s p there)
    (λ queues q other spared. there-used s q p (λ same. other (ap On same)) there) (λ r q used is. cc)

-- a thread that sleeps is woken
pub wake-leads : (s : State) (t : ℕ) → status_of s.records t ≡ Some status.Asleep → Leads Timer s (wake s t).state
wake-leads s t sleeps =
    put s (λ r. record r { status = status.Ready }) t (λ e. cc) (λ e. absurd e) Stays
    (λ _. alive-of s.records t status.Asleep sleeps (λ e. cc))
    (λ queues q other spared. used-of s.records q t status.Asleep sleeps refl) (λ r q used is. cc)

-- how the thread that made a trap goes on, or leaves
pub finish-leads : (s : State) (p t ticks used : ℕ) (e : Effect) → Works s e → IsAlive s.records t
    → (Queues s → (q : ℕ) → ¬ (q ≡ p) → used_by s.records q t ≡ None) → (Apart s → RunsAlone s.records p t)
    → Leads (On p) s (record e.state { records = change_record (λ r. with_ticks ticks (after_trap e.after p used s.limits r)) e.state.records t })
finish-leads s p t ticks used e (works, stops) alive idle alone =
    put e.state (λ r. with_ticks ticks (after_trap e.after p used s.limits r)) t (λ e. cc) (λ e. absurd e)
    (working p s e.state works) (λ _. alive)
    (λ queues q other spared. kept (λ a. used_by a.records q t ≡ used_by s.records q t) (change-used Work s q t queues
    (λ e. cc) (λ e. cc) (λ e. cc)) works refl ∙ idle queues q (λ same. other (ap On (sym same))))
    (λ r q more is. let here = runs e.after stops r q more is in
    (ap On here, λ apart. subst (λ x. RunsAlone e.state.records x t) here (kept (λ a. RunsAlone a.records p t) (change-alone s p t) works (alone apart))))
  where
    runs : (after : After) → StopsIfLeaves after → (r : Record) (q more : ℕ)
        → (after_trap after p used s.limits r).status ≡ status.Running q more → p ≡ q
    runs GoesOn stops r q more is = at (nat_lt used s.limits.quantum) refl
      where
        at : (b : Bool) → nat_lt used s.limits.quantum ≡ b → p ≡ q
        at true on = let e : status.Running p used ≡ status.Running q more = rw on at is in cc
        at false on = let e : status.Ready ≡ status.Running q more = rw on at is in cc
    runs (Leaves now) stops r q more is = absurd (stops q more is)
    runs Ends stops r q more is = cc

-- what a check asks holds if it doesn't fail
pub passes : (b : Bool) → not b ≡ false → b ≡ true
passes true e = refl
passes false e = cc

-- ---- events

-- whose changes an event's are
abbrev pub by_event : State → Event → By
by_event s (event.Command command) = by_command s command
by_event s (event.Draw p d) = On p
by_event s (event.Expire p) = On p
by_event s (event.Trap p ran action) = On p
by_event s (event.Preempt p ticks) = On p
by_event s (event.Overrun p ticks) = On p
by_event s (event.Wake t) = Timer

pub step-leads : (s : State) (e : Event) → Leads (by_event s e) s (step s e).state
step-leads s (event.Command command) = command-leads s command
step-leads s (event.Draw p d) =
    unrefused (Leads (On p) s) s _ (draw s p d) Stays (λ e.
    let passed = all-pass ((is_bad_processor s p, BadProcessor) ∷ (is_some (thread_on s.records p), Busy) ∷ []) e in
    draw-leads s p d (free-of (thread_on s.records p) passed.1.0))
step-leads s (event.Expire p) =
    unrefused (Leads (On p) s) s _ (event_effect s (event.Expire p)) Stays (λ e.
    let passed =
    all-pass ((is_bad_processor s p, BadProcessor) ∷ (is_none (thread_on s.records p), NotRunning) ∷ []) e in
    stopped-leads s p (s.limits.quantum - used_there s p) None passed.1.0)
step-leads s (event.Preempt p ticks) =
    unrefused (Leads (On p) s) s _ (event_effect s (event.Preempt p ticks)) Stays (λ e.
    let passed = all-pass ((is_bad_processor s p, BadProcessor) ∷ (is_none (thread_on s.records p), NotRunning)
    ∷ (nat_lt s.limits.quantum (used_there s p + ticks), BadTicks) ∷ []) e in
    stopped-leads s p ticks None passed.1.0)
step-leads s (event.Overrun p ticks) =
    unrefused (Leads (On p) s) s _ (event_effect s (event.Overrun p ticks)) Stays (λ e.
    let passed = all-pass ((is_bad_processor s p, BadProcessor) ∷ (is_none (thread_on s.records p), NotRunning)
    ∷ (nat_le (2 ^ 32) (s.limits.quantum + ticks), BadTicks) ∷ []) e in
    stopped-leads s p (s.limits.quantum - used_there s p + ticks)
    (compensation_for s.limits (s.limits.quantum + ticks)) passed.1.0)
step-leads s (event.Wake t) =
    unrefused (Leads Timer s) s _ (event_effect s (event.Wake t)) Stays (λ e.
    let passed = all-pass ((is_none (thread_at s.threads t), NoThread)
    ∷ (not (option_any is_asleep (status_of s.records t)), NotAsleep) ∷ []) e in
    wake-leads s t
    (is-asleep (status_of s.records t) (passes (option_any is_asleep (status_of s.records t)) passed.1.0)))
step-leads s (event.Trap p ran action) =
    unrefused (Leads (On p) s) s _ (event_effect s (event.Trap p ran action)) Stays (λ e.
    let passed = all-pass ((is_bad_processor s p, BadProcessor) ∷ (is_none (thread_on s.records p), NotRunning)
    ∷ (nat_lt s.limits.quantum (used_there s p + ran + 1), BadTicks) ∷ []) e in
    let t = thread_there s p in
    finish-leads s p t (ran + 1) (used_there s p + ran + 1) (checked_effect s (trap_refusal s t action)
    (trap_effect s t action)) (checked-leads s t action (trap_refusal s t action)) (there-alive s p passed.1.0)
    (λ queues q other. there-used s q p (λ same. other (sym same)) passed.1.0) (there-alone s p passed.1.0))
