-- A value that C receives and passes back is the same.
use Rattle.lot_c.proofs.Common.{Bool, Currencies, Event, HasNames, List, None, Ok, Option, Outcome, PlainReply, PlainStatus, Refusal, Reply, Sizes, Some, Status, Threads, Tickets, TrapRefusal, ap, arith, div-add-mod', event_meant, false, find, is_name, is_thread_name, length, name_meant, name_passing, nat_lt, outcome_number, plain_event, plain_name, plain_outcome, plain_reply, plain_status, plain_wide, refl, refusal_number, reply_number, seen_reply, spelled, status_number, sym, take-append_seam, thread_name_meant, trap_refusal_number, true, unwrap_or, wide_meant, ℕ, [], ◌==◌, ◌^◌, ◌∙◌, ◌∷◌, ◌≡◌, ◌≤◌, suc}
use Rattle.lot_machine.specs.declared.trap.Trap.TheVariants as action
use Rattle.std.specs.Prelude.{All, Err, Result}
use Rattle.lot_machine.specs.Arguments.{Value}
use Rattle.lot_machine.specs.Arguments as value
use Rattle.lot_machine.specs.Commands.{command_from, form, parts}
use Rattle.lot_machine.specs.Verbs.{values_given, with_rest, ◌>>=◌}
use Rattle.lot_machine.specs.declared.command.Command.{Command}
use Rattle.lot_machine.specs.declared.command.Command.TheVariants as command
use Rattle.lot_machine.specs.declared.arguments.Slot.{Slot}
use Rattle.lot_machine.specs.declared.command.Verb.{Verb}
use Rattle.lot_machine.specs.declared.command.Verb.TheVariants as verb
use Rattle.lot_machine.specs.declared.event.Event.TheVariants as event
use Rattle.lot_machine.specs.declared.reference.CurrencyRef.TheVariants as currency_ref
use Rattle.lot_machine.specs.declared.reference.ThreadRef.TheVariants as thread_ref
use Rattle.lot_machine.specs.declared.reference.TargetRef.TheVariants as target_ref
use Rattle.lot_machine.specs.declared.record.Status.TheVariants as status
use Rattle.lot_machine.specs.declared.refusal.Refusal.TheVariants as refusal
use Rattle.lot_machine.specs.declared.refusal.TrapRefusal.TheVariants as trap
use Rattle.lot_machine.specs.declared.reply.Outcome.TheVariants as outcome
use Rattle.lot_machine.specs.declared.reply.Reply.TheVariants as reply
use Rattle.lot_c.specs.Events.{CommandFields, argument_given, command_event, field_given, meant_as}
use Rattle.lot_c.specs.Numbers.{kind_numbered}
use Rattle.lot_c.specs.Plain.{HasName, plain_command, reference_in}
use Rattle.lot_c.specs.declared.kind.EventKind.TheVariants as kind
use Rattle.lot_c.specs.declared.status.Status.{Status as CallStatus}

-- ---- names, numbers and events

spelled-plain : (name : List ℕ) → spelled (plain_name name) ≡ name
spelled-plain name = take-append_seam name _

fits : (n : ℕ) → n ≤ 16 → nat_lt 16 n ≡ false
fits n low = search (arith)

passing : (passes : List ℕ → Bool) (name : List ℕ) → length name ≤ 16 → passes name ≡ true
    → name_passing passes (plain_name name) ≡ Ok name
passing passes name short good = rw (fits (length name) short) (rw (spelled-plain name) (rw good refl))

pub named : (sizes : Sizes) (name : List ℕ) → length name ≤ 16 → is_name sizes name ≡ true
    → name_meant sizes (plain_name name) ≡ Ok name
named sizes = passing (is_name sizes)

pub thread-named : (sizes : Sizes) (name : List ℕ) → length name ≤ 16 → is_thread_name sizes name ≡ true
    → thread_name_meant sizes (plain_name name) ≡ Ok name
thread-named sizes = passing (is_thread_name sizes)

pub wide : (n : ℕ) → wide_meant (plain_wide n) ≡ n
wide n = div-add-mod' n (2 ^ 64)

-- an argument, its name read again if it has one
abbrev again : Sizes → Verb → Value → Result Value CallStatus
again sizes v (value.Currency (currency_ref.Named name)) =
    (name_meant sizes (plain_name name) >>= λ n. Ok (currency_ref.Named n)) >>= λ x. Ok (value.Currency x)
again sizes v (value.Target (target_ref.Named name)) =
    (name_meant sizes (plain_name name) >>= λ n. Ok (target_ref.Named n)) >>= λ x. Ok (value.Target x)
again sizes v (value.Thread (thread_ref.Named name)) =
    (name_meant sizes (plain_name name) >>= λ n. Ok (thread_ref.Named n)) >>= λ x. Ok (value.Thread x)
again sizes verb.MakeCurrency (value.Name name) = name_meant sizes (plain_name name) >>= λ n. Ok (value.Name n)
again sizes v (value.Name name) = thread_name_meant sizes (plain_name name) >>= λ n. Ok (value.Name n)
again sizes v other = Ok other

abbrev each_again : Sizes → Verb → List Value → Result (List Value) CallStatus
each_again sizes v [] = Ok []
each_again sizes v (x ∷ xs) = again sizes v x >>= λ first. each_again sizes v xs >>= λ others. Ok (first ∷ others)

again-same : (sizes : Sizes) (v : Verb) (x : Value) → HasName sizes v x → again sizes v x ≡ Ok x
again-same sizes v (value.Currency (currency_ref.Named name)) has = ap (λ (m : Result (List ℕ) CallStatus).
    (m >>= λ n. Ok (currency_ref.Named n)) >>= λ x. Ok (value.Currency x)) (named sizes name has.0 has.1)
again-same sizes v (value.Target (target_ref.Named name)) has = ap (λ (m : Result (List ℕ) CallStatus).
    (m >>= λ n. Ok (target_ref.Named n)) >>= λ x. Ok (value.Target x)) (named sizes name has.0 has.1)
again-same sizes v (value.Thread (thread_ref.Named name)) has = ap (λ (m : Result (List ℕ) CallStatus).
    (m >>= λ n. Ok (thread_ref.Named n)) >>= λ x. Ok (value.Thread x)) (named sizes name has.0 has.1)
again-same sizes verb.MakeCurrency (value.Name name) has =
    ap (λ (m : Result (List ℕ) CallStatus). m >>= λ n. Ok (value.Name n)) (named sizes name has.0 has.1)
again-same sizes v (value.Name name) has =
    ap (λ (m : Result (List ℕ) CallStatus). m >>= λ n. Ok (value.Name n)) (thread-named sizes name has.0 has.1)
again-same sizes v other has = refl

each-same : (sizes : Sizes) (v : Verb) (xs : List Value) → All (HasName sizes v) xs → each_again sizes v xs ≡ Ok xs
each-same sizes v [] has = refl
each-same sizes v (x ∷ xs) has =
    ap (λ (m : Result Value CallStatus). m >>= λ first. each_again sizes v xs >>= λ others. Ok (first ∷ others))
    (again-same sizes v x (has 0 x (omega arith)))
    ∙ ap (λ (m : Result (List Value) CallStatus). m >>= λ others. Ok (x ∷ others))
    (each-same sizes v xs (λ k d below. has (suc k) d (omega (arith, below))))

-- the arguments in the fields
abbrev fields_given : CommandFields → List Slot → Result (List Value) CallStatus
fields_given f [] = Ok []
fields_given f (wanted ∷ kinds) =
    field_given f wanted >>= λ first. fields_given f kinds >>= λ others. Ok (first ∷ others)

given-behind : (f : CommandFields) (x : Value) (m : Result (List Value) CallStatus)
    → (with_rest (λ xs. xs) f m >>= λ others. Ok (x ∷ others.0, others.1))
    ≡ with_rest (λ xs. xs) f (m >>= λ others. Ok (x ∷ others))
given-behind f x (Ok xs) = refl
given-behind f x (Err why) = refl

given-first : (f : CommandFields) (kinds : List Slot) (m : Result Value CallStatus)
    → values_given argument_given kinds f ≡ with_rest (λ xs. xs) f (fields_given f kinds)
    → (with_rest (λ x. x) f m >>= λ first. values_given argument_given kinds first.1 >>= λ others.
    Ok (first.0 ∷ others.0, others.1))
    ≡ with_rest (λ xs. xs) f (m >>= λ first. fields_given f kinds >>= λ others. Ok (first ∷ others))
given-first f kinds (Ok x) others =
    ap (λ (m : Result (List Value × CommandFields) CallStatus). m >>= λ others. Ok (x ∷ others.0, others.1)) others
    ∙ given-behind f x (fields_given f kinds)
given-first f kinds (Err why) others = refl

-- reading an argument leaves the fields as they are
given : (f : CommandFields) (kinds : List Slot)
    → values_given argument_given kinds f ≡ with_rest (λ xs. xs) f (fields_given f kinds)
given f [] = refl
given f (wanted ∷ kinds) = given-first f kinds (field_given f wanted) (given f kinds)

-- the fields of a command, for a kernel with these sizes
abbrev fields_of : Sizes → Command → CommandFields
fields_of sizes c =
    record { event = plain_command c; sizes = sizes; verb = (parts c).0; reference = reference_in (parts c).1 }

-- the kind of a command's fields is found, each argument is read as by itself, and the arguments make the command
put-read : (sizes : Sizes) (c : Command)
    → (kind_numbered (plain_command c).kind ≡ Some (kind.Command (parts c).0 (reference_in (parts c).1)))
    × (fields_given (fields_of sizes c) (form (parts c).0) ≡ each_again sizes (parts c).0 (parts c).1)
    × (command_from (parts c).0 (parts c).1 ≡ Some c)
put-read sizes (command.MakeTicket amount (currency_ref.Named currency)) = (refl, refl, refl)
put-read sizes (command.RemoveCurrency (currency_ref.Named currency)) = (refl, refl, refl)
put-read sizes (command.Fund ticket (target_ref.Named target)) = (refl, refl, refl)
put-read sizes (command.RemoveThread (thread_ref.Named thread)) = (refl, refl, refl)
put-read sizes (command.Kill (thread_ref.Named thread)) = (refl, refl, refl)
put-read sizes (command.MakeFunded amount (currency_ref.Named currency) name script) = (refl, refl, refl)
put-read sizes (command.List Tickets) = (refl, refl, refl)
put-read sizes c = (refl, refl, refl)

command-meant : (sizes : Sizes) (c : Command) → All (HasName sizes (parts c).0) (parts c).1
    → event_meant sizes (plain_command c) ≡ Ok (event.Command c)
command-meant sizes c has =
    let kept = put-read sizes c in
    let make : List Value × CommandFields → Result (Option Command × CommandFields) CallStatus =
    λ values. Ok (command_from (parts c).0 values.0, values.1) in
    ap (meant_as sizes (plain_command c)) kept.0
    ∙ ap (λ (m : Result (List Value × CommandFields) CallStatus). (m >>= make) >>= λ made. command_event made.0)
    (given (fields_of sizes c) (form (parts c).0)
    ∙ ap (with_rest (λ xs. xs) (fields_of sizes c)) (kept.1 ∙ each-same sizes (parts c).0 (parts c).1 has))
    ∙ ap command_event kept.2

pub meant : (sizes : Sizes) (e : Event) → HasNames sizes e → event_meant sizes (plain_event e) ≡ Ok e
meant sizes (event.Command c) has = command-meant sizes c has
meant sizes (event.Draw p d) has = ap (λ n. Ok (event.Draw p n)) (wide d)
meant sizes (event.Trap p ran (action.Unlock mutex d)) has =
    ap (λ n. Ok (event.Trap p ran (action.Unlock mutex n))) (wide d)
meant sizes e has = refl

-- ---- replies

-- the one that has this number, or else the first
abbrev pick : {X : Type 0} → (X → ℕ) → X → List X → ℕ → X
pick number first others n = unwrap_or (find (λ x. number x == n) (first ∷ others)) first

abbrev if_so : {X : Type 0} → Bool → X → Option X
if_so true x = Some x
if_so false x = None

abbrev refusal_of : ℕ → Refusal
refusal_of = pick refusal_number refusal.BadName (refusal.NameTaken ∷ refusal.NoCurrency ∷ refusal.NoTicket
    ∷ refusal.NoTarget ∷ refusal.BadAmount ∷ refusal.InUse ∷ refusal.Funding ∷ refusal.NotFunding
    ∷ refusal.Cycle ∷ refusal.BaseFixed ∷ refusal.DeadThread ∷ refusal.Full ∷ refusal.NoScript ∷ refusal.NoThread
    ∷ refusal.Alive ∷ refusal.BadProcessor ∷ refusal.Busy ∷ refusal.NotRunning ∷ refusal.BadTicks ∷ refusal.NotAsleep
    ∷ [])

abbrev trap_refusal_of : ℕ → TrapRefusal
trap_refusal_of = pick trap_refusal_number trap.NoPort
    (trap.NothingToReply ∷ trap.NoMutex ∷ trap.NotOwner ∷ trap.AlreadyOwner ∷ trap.LockCycle ∷ [])

abbrev outcome_of : PlainReply → Outcome
outcome_of r = pick outcome_number outcome.Exited (outcome.Yielded ∷ outcome.ServedBy r.other ∷ outcome.Queued
    ∷ outcome.Waits ∷ outcome.Received r.other r.sent ∷ outcome.Replied r.other ∷ outcome.Locked ∷ outcome.Freed
    ∷ outcome.Passed r.other (if_so r.has_draw (r.number.low, r.total.low)) ∷ outcome.Refused (trap_refusal_of r.reason)
    ∷ outcome.RepliedThenReceived r.replied_to r.other r.sent ∷ outcome.RepliedThenWaits r.replied_to ∷ outcome.Slept
    ∷ []) r.outcome

abbrev reply_of : PlainReply → Reply
reply_of r = pick reply_number reply.Idle (reply.Ticket r.ticket ∷ reply.Currency r.currency ∷ reply.Thread r.thread
    ∷ reply.Funded r.ticket r.thread ∷ reply.Done ∷ reply.List Tickets ∷ reply.List Currencies ∷ reply.List Threads
    ∷ reply.Winner r.thread (wide_meant r.number) (wide_meant r.total) (if_so r.has_sent r.sent)
    ∷ reply.Expired r.thread r.ticks ∷ reply.Trapped r.thread r.ticks (outcome_of r) r.ends
    ∷ reply.Refused (refusal_of r.reason) ∷ []) r.kind

refusals : (why : Refusal) → refusal_of (refusal_number why) ≡ why
refusals refusal.BadName = refl
refusals refusal.NameTaken = refl
refusals refusal.NoCurrency = refl
refusals refusal.NoTicket = refl
refusals refusal.NoTarget = refl
refusals refusal.BadAmount = refl
refusals refusal.InUse = refl
refusals refusal.Funding = refl
refusals refusal.NotFunding = refl
refusals refusal.Cycle = refl
refusals refusal.BaseFixed = refl
refusals refusal.DeadThread = refl
refusals refusal.Full = refl
refusals refusal.NoScript = refl
refusals refusal.NoThread = refl
refusals refusal.Alive = refl
refusals refusal.BadProcessor = refl
refusals refusal.Busy = refl
refusals refusal.NotRunning = refl
refusals refusal.BadTicks = refl
refusals refusal.NotAsleep = refl

trap_refusals : (why : TrapRefusal) → trap_refusal_of (trap_refusal_number why) ≡ why
trap_refusals trap.NoPort = refl
trap_refusals trap.NothingToReply = refl
trap_refusals trap.NoMutex = refl
trap_refusals trap.NotOwner = refl
trap_refusals trap.AlreadyOwner = refl
trap_refusals trap.LockCycle = refl

outcomes : (o : Outcome) → outcome_of (plain_outcome o) ≡ o
outcomes outcome.Yielded = refl
outcomes (outcome.ServedBy server) = refl
outcomes outcome.Queued = refl
outcomes outcome.Waits = refl
outcomes (outcome.Received client number) = refl
outcomes (outcome.Replied client) = refl
outcomes (outcome.RepliedThenReceived to client number) = refl
outcomes (outcome.RepliedThenWaits to) = refl
outcomes outcome.Locked = refl
outcomes outcome.Freed = refl
outcomes (outcome.Passed to None) = refl
outcomes (outcome.Passed to (Some d)) = refl
outcomes outcome.Slept = refl
outcomes outcome.Exited = refl
outcomes (outcome.Refused why) = ap outcome.Refused (trap_refusals why)

shown : (r : Reply) → reply_of (plain_reply r) ≡ seen_reply r
shown (reply.Ticket ticket) = refl
shown (reply.Currency currency) = refl
shown (reply.Thread thread) = refl
shown (reply.Funded ticket thread) = refl
shown reply.Done = refl
shown (reply.Killed thread) = refl
shown (reply.List Tickets) = refl
shown (reply.List Currencies) = refl
shown (reply.List Threads) = refl
shown (reply.Winner thread number total None) = ap (λ n. reply.Winner thread n (wide_meant (plain_wide total)) None)
    (wide number) ∙ ap (λ n. reply.Winner thread number n None) (wide total)
shown (reply.Winner thread number total (Some d)) = ap (λ n. reply.Winner thread n (wide_meant (plain_wide total))
    (Some d)) (wide number) ∙ ap (λ n. reply.Winner thread number n (Some d)) (wide total)
shown reply.Idle = refl
shown (reply.Expired thread ticks) = refl
shown (reply.Trapped thread ticks o ends) = ap (λ x. reply.Trapped thread ticks x ends) (outcomes o)
shown (reply.Refused why) = ap reply.Refused (refusals why)

pub replies : (one other : Reply) → plain_reply one ≡ plain_reply other → seen_reply one ≡ seen_reply other
replies one other same = sym (shown one) ∙ ap reply_of same ∙ shown other

-- ---- statuses

abbrev status_of : PlainStatus → Status
status_of s = pick status_number status.Dead (status.Ready ∷ status.Running s.processor s.used ∷ status.Receiving
    s.other ∷ status.Queued s.other ∷ status.Served s.other ∷ status.Waiting s.other ∷ status.Asleep ∷ []) s.kind

doing : (s : Status) → status_of (plain_status s) ≡ s
doing status.Ready = refl
doing (status.Running p used) = refl
doing (status.Receiving port) = refl
doing (status.Queued port) = refl
doing (status.Served server) = refl
doing (status.Waiting mutex) = refl
doing status.Asleep = refl
doing status.Dead = refl

pub statuses : (one other : Status) → plain_status one ≡ plain_status other → one ≡ other
statuses one other same = sym (doing one) ∙ ap status_of same ∙ doing other
