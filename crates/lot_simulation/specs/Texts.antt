-- The text of replies, refusals and listings.
use Rattle.std.specs.Prelude.{ℕ, ◌*◌, ◌/◌, ◌%◌, ◌==◌, Bool, true, false, Option, Some, None, List, [], ◌∷◌, ◌++◌, length, filter, is_some, codes, unwrap_or, if◌then◌else◌}
use Rattle.std.specs.List.{flat_map, range_with_len}
use Rattle.std.specs.Option.{option_map_or}
use Rattle.std.specs.Fmt.{decimal}
use Rattle.lot_machine.specs.Actions.{Action}
use Rattle.lot_machine.specs.declared.trap.Trap.TheVariants as action
use Rattle.lot_machine.specs.declared.command.Kind.{Kind}
use Rattle.lot_machine.specs.declared.command.Kind.TheVariants.{Tickets, Currencies, Threads}
use Rattle.lot_machine.specs.declared.event.Event.{Event}
use Rattle.lot_machine.specs.declared.event.Event.TheVariants as event
use Rattle.lot_machine.specs.declared.record.Status.{Status}
use Rattle.lot_machine.specs.declared.record.Status.TheVariants as status
use Rattle.lot_machine.specs.declared.refusal.Refusal.{Refusal}
use Rattle.lot_machine.specs.declared.refusal.Refusal.TheVariants as refusal
use Rattle.lot_machine.specs.declared.refusal.TrapRefusal.{TrapRefusal}
use Rattle.lot_machine.specs.declared.refusal.TrapRefusal.TheVariants as trap_refusal
use Rattle.lot_machine.specs.declared.reply.Reply.{Reply}
use Rattle.lot_machine.specs.declared.reply.Reply.TheVariants as reply
use Rattle.lot_machine.specs.declared.reply.Outcome.{Outcome}
use Rattle.lot_machine.specs.declared.reply.Outcome.TheVariants as outcome
use Rattle.lot_simulation.specs.declared.input.InputRefusal.{InputRefusal}
use Rattle.lot_simulation.specs.declared.input.InputRefusal.TheVariants as input_refusal
use Rattle.lot_simulation.specs.declared.input.InputFault.{InputFault}
use Rattle.lot_simulation.specs.declared.style.LineStyle.{LineStyle}
use Rattle.lot_simulation.specs.declared.style.LineStyle.TheVariants.{Whole, Timed}
use Rattle.lot_machine.specs.declared.row.TicketRow.{TicketRow}
use Rattle.lot_machine.specs.declared.row.CurrencyRow.{CurrencyRow}
use Rattle.lot_machine.specs.declared.row.ThreadRow.{ThreadRow}
use Rattle.lot_machine.specs.Numbered.{numbers}
use Rattle.lot_machine.specs.State.{State}
use Rattle.lot_machine.specs.Rows.{ticket_row, currency_row, thread_row}

-- the byte that ends a line
abbrev pub newline : List ℕ
newline = 10 ∷ []

-- ---- styles

-- the start of a turn's line: its time, in timed style
abbrev pub front : LineStyle → List ℕ
front Whole = []
front (Timed time) = decimal time ++ codes " "

-- thousandths as a point and up to three digits, without trailing zeros; no text for 0
abbrev pub behind_point : ℕ → List ℕ
behind_point m =
    if m == 0 then []
    else if m % 100 == 0 then codes "." ++ decimal (m / 100)
    else if m % 10 == 0 then codes "." ++ (decimal (m / 100) ++ decimal (m / 10 % 10))
    else codes "." ++ (decimal (m / 100) ++ (decimal (m / 10 % 10) ++ decimal (m % 10)))

-- the quotient, truncated to three digits after the point
abbrev pub quotient_text : ℕ → ℕ → List ℕ
quotient_text n d = decimal (n / d) ++ behind_point (n % d * 1000 / d)

-- a value in units, given in base units
abbrev pub value_text : LineStyle → ℕ → ℕ → List ℕ
value_text Whole unit value = decimal (value / unit)
value_text (Timed time) unit value = quotient_text value unit

-- a drawn number, or the total of its draw; whole style prints it in base units
abbrev pub drawn_value : LineStyle → ℕ → ℕ → List ℕ
drawn_value Whole unit n = decimal n
drawn_value (Timed time) unit n = quotient_text n unit

-- ---- refusals

-- a refusal, as its code and its name
abbrev pub refused : ℕ → List ℕ → List ℕ
refused code name = codes "refused " ++ (decimal code ++ (codes " " ++ name))

-- the code of a refused command or event
abbrev pub refusal_code : Refusal → ℕ
refusal_code refusal.BadName = 1
refusal_code refusal.NameTaken = 2
refusal_code refusal.NoCurrency = 3
refusal_code refusal.NoTicket = 4
refusal_code refusal.NoTarget = 5
refusal_code refusal.BadAmount = 6
refusal_code refusal.InUse = 7
refusal_code refusal.Funding = 8
refusal_code refusal.NotFunding = 9
refusal_code refusal.Cycle = 10
refusal_code refusal.BaseFixed = 11
refusal_code refusal.DeadThread = 12
refusal_code refusal.Full = 13
refusal_code refusal.NoScript = 14
refusal_code refusal.NoThread = 15
refusal_code refusal.Alive = 16
refusal_code refusal.BadProcessor = 20
refusal_code refusal.Busy = 21
refusal_code refusal.NotRunning = 22
refusal_code refusal.BadTicks = 23
refusal_code refusal.NotAsleep = 24

-- the name of a refused command or event
abbrev pub refusal_name : Refusal → List ℕ
refusal_name refusal.BadName = codes "BadName"
refusal_name refusal.NameTaken = codes "NameTaken"
refusal_name refusal.NoCurrency = codes "NoCurrency"
refusal_name refusal.NoTicket = codes "NoTicket"
refusal_name refusal.NoTarget = codes "NoTarget"
refusal_name refusal.BadAmount = codes "BadAmount"
refusal_name refusal.InUse = codes "InUse"
refusal_name refusal.Funding = codes "Funding"
refusal_name refusal.NotFunding = codes "NotFunding"
refusal_name refusal.Cycle = codes "Cycle"
refusal_name refusal.BaseFixed = codes "BaseFixed"
refusal_name refusal.DeadThread = codes "DeadThread"
refusal_name refusal.Full = codes "Full"
refusal_name refusal.NoScript = codes "NoScript"
refusal_name refusal.NoThread = codes "NoThread"
refusal_name refusal.Alive = codes "Alive"
refusal_name refusal.BadProcessor = codes "BadProcessor"
refusal_name refusal.Busy = codes "Busy"
refusal_name refusal.NotRunning = codes "NotRunning"
refusal_name refusal.BadTicks = codes "BadTicks"
refusal_name refusal.NotAsleep = codes "NotAsleep"

-- the code of a refused trap
abbrev pub trap_refusal_code : TrapRefusal → ℕ
trap_refusal_code trap_refusal.NoPort = 30
trap_refusal_code trap_refusal.NothingToReply = 32
trap_refusal_code trap_refusal.NoMutex = 33
trap_refusal_code trap_refusal.NotOwner = 34
trap_refusal_code trap_refusal.AlreadyOwner = 35
trap_refusal_code trap_refusal.LockCycle = 36

-- the name of a refused trap
abbrev pub trap_refusal_name : TrapRefusal → List ℕ
trap_refusal_name trap_refusal.NoPort = codes "NoPort"
trap_refusal_name trap_refusal.NothingToReply = codes "NothingToReply"
trap_refusal_name trap_refusal.NoMutex = codes "NoMutex"
trap_refusal_name trap_refusal.NotOwner = codes "NotOwner"
trap_refusal_name trap_refusal.AlreadyOwner = codes "AlreadyOwner"
trap_refusal_name trap_refusal.LockCycle = codes "LockCycle"

-- the code of a refused input
abbrev pub input_refusal_code : InputRefusal → ℕ
input_refusal_code input_refusal.BadHeader = 50
input_refusal_code input_refusal.BadLine = 51
input_refusal_code input_refusal.BadNumber = 52
input_refusal_code input_refusal.UnknownName = 53
input_refusal_code input_refusal.OpenScript = 54
input_refusal_code input_refusal.TooDeep = 55
input_refusal_code input_refusal.TooLong = 56
input_refusal_code input_refusal.BadActor = 57

-- the name of a refused input
abbrev pub input_refusal_name : InputRefusal → List ℕ
input_refusal_name input_refusal.BadHeader = codes "BadHeader"
input_refusal_name input_refusal.BadLine = codes "BadLine"
input_refusal_name input_refusal.BadNumber = codes "BadNumber"
input_refusal_name input_refusal.UnknownName = codes "UnknownName"
input_refusal_name input_refusal.OpenScript = codes "OpenScript"
input_refusal_name input_refusal.TooDeep = codes "TooDeep"
input_refusal_name input_refusal.TooLong = codes "TooLong"
input_refusal_name input_refusal.BadActor = codes "BadActor"

-- the one line for a refused input
abbrev pub fault_line : InputFault → List ℕ
fault_line fault =
    codes "refused line " ++ (decimal fault.line ++ (codes " " ++ (decimal (input_refusal_code fault.refusal)
    ++ (codes " " ++ (input_refusal_name fault.refusal ++ newline)))))

-- ---- traps

-- the choice of the mutex's new owner: by a lottery, or the one that had waited longest
abbrev pub drawn_text : LineStyle → ℕ → Option (ℕ × ℕ) → List ℕ
drawn_text style unit None = codes " oldest"
drawn_text style unit (Some drawn) = codes " draw " ++ (drawn_value style unit drawn.0 ++ (codes " of " ++ drawn_value style unit drawn.1))

-- a receive at a port: the client whose call was taken, and the number that it sent
abbrev pub received_text : ℕ → ℕ → ℕ → List ℕ
received_text port client number = codes "receive " ++ (decimal port ++ (codes " client " ++ (decimal client ++ (codes " got " ++ decimal number))))

-- a receive at a port without a call: the thread waits
abbrev pub receiving_text : ℕ → List ℕ
receiving_text port = codes "receive " ++ (decimal port ++ codes " waits")

-- a reply to a client
abbrev pub replied_text : ℕ → List ℕ
replied_text client = codes "reply client " ++ decimal client

-- The text of a trap's outcome; empty for an outcome that its action never has.
abbrev pub trap_text : LineStyle → ℕ → Action → Outcome → List ℕ
trap_text style unit made (outcome.Refused why) = refused (trap_refusal_code why) (trap_refusal_name why)
trap_text style unit action.Yield outcome.Yielded = codes "yield"
trap_text style unit (action.Call port number) (outcome.ServedBy server) = codes "call " ++ (decimal port ++ (codes " served by " ++ decimal server))
trap_text style unit (action.Call port number) outcome.Queued = codes "call " ++ (decimal port ++ codes " queued")
trap_text style unit (action.Receive port) (outcome.Received client number) = received_text port client number
trap_text style unit (action.Receive port) outcome.Waits = receiving_text port
trap_text style unit (action.Reply number) (outcome.Replied client) = replied_text client
trap_text style unit (action.Serve port number) (outcome.RepliedThenReceived to client got) = replied_text to ++ (codes " " ++ received_text port client got)
trap_text style unit (action.Serve port number) (outcome.RepliedThenWaits to) = replied_text to ++ (codes " " ++ receiving_text port)
trap_text style unit (action.Lock mutex) outcome.Locked = codes "lock " ++ (decimal mutex ++ codes " taken")
trap_text style unit (action.Lock mutex) outcome.Waits = codes "lock " ++ (decimal mutex ++ codes " waits")
trap_text style unit (action.Unlock mutex d) outcome.Freed = codes "unlock " ++ (decimal mutex ++ codes " free")
trap_text style unit (action.Unlock mutex d) (outcome.Passed to drawn) = codes "unlock " ++ (decimal mutex ++ (codes " to " ++ (decimal to ++ drawn_text style unit drawn)))
trap_text style unit (action.Sleep n) outcome.Slept = codes "sleep"
trap_text style unit action.Exit outcome.Exited = codes "exit"
trap_text style unit other never = []

-- the text of a trap's outcome, given its event
abbrev pub trap_text_of : LineStyle → ℕ → Event → Outcome → List ℕ
trap_text_of style unit (event.Trap p ran made) came = trap_text style unit made came
trap_text_of style unit other came = []

-- the mark of a used-up quantum, or no text
abbrev pub ends_text : Bool → List ℕ
ends_text true = codes " ends"
ends_text false = []

-- ---- listings

-- a thread's status
abbrev pub status_text : Status → List ℕ
status_text status.Ready = codes "ready"
status_text (status.Running processor used) = codes "running " ++ (decimal processor ++ (codes " used " ++ decimal used))
status_text (status.Receiving port) = codes "receiving " ++ decimal port
status_text (status.Queued port) = codes "queued " ++ decimal port
status_text (status.Served server) = codes "served " ++ decimal server
status_text (status.Waiting mutex) = codes "waiting " ++ decimal mutex
status_text status.Asleep = codes "asleep"
status_text status.Dead = codes "dead"

-- whether a ticket is active
abbrev pub activity_text : Bool → List ℕ
activity_text true = codes " active"
activity_text false = codes " inactive"

-- a ticket's line; `-` stands for no target
abbrev pub ticket_line : LineStyle → ℕ → ℕ → TicketRow → List ℕ
ticket_line style unit n row =
    front style ++ (codes "ticket " ++ (decimal n ++ (codes " amount " ++ (decimal row.amount ++ (codes " in " ++ (row.issuer
    ++ (codes " funds " ++ (unwrap_or row.target (codes "-") ++ (activity_text row.is_active
    ++ (codes " value " ++ (value_text style unit row.value ++ newline)))))))))))

-- a currency's value as printed: base, which is currency 0, is worth its active amount
abbrev pub currency_value : LineStyle → ℕ → ℕ → ℕ → List ℕ
currency_value style unit n value = if n == 0 then decimal value else value_text style unit value

-- a currency's line
abbrev pub currency_line : LineStyle → ℕ → ℕ → CurrencyRow → List ℕ
currency_line style unit n row =
    front style ++ (codes "currency " ++ (decimal n ++ (codes " " ++ (row.name ++ (codes " backing " ++ (decimal row.backing
    ++ (codes " issued " ++ (decimal row.issued ++ (codes " active " ++ (decimal row.active_amount
    ++ (codes " value " ++ (currency_value style unit n row.value ++ newline))))))))))))

-- a thread's line
abbrev pub thread_line : LineStyle → ℕ → ℕ → ThreadRow → List ℕ
thread_line style unit n row =
    front style ++ (codes "thread " ++ (decimal n ++ (codes " " ++ (row.name ++ (codes " " ++ (status_text row.status
    ++ (codes " value " ++ (value_text style unit row.value ++ (codes " weight " ++ (value_text style unit row.weight
    ++ (codes " quanta " ++ (decimal row.quanta ++ (codes " ticks " ++ (decimal row.ticks ++ newline))))))))))))))

-- the lines of the existing rows
abbrev pub lines_for : {R : Type 0} → (ℕ → R → List ℕ) → (ℕ → Option R) → List ℕ → List ℕ
lines_for text row ns = flat_map (λ n. option_map_or (text n) (row n) []) ns

-- the number of existing rows
abbrev pub row_count : {R : Type 0} → (ℕ → Option R) → List ℕ → ℕ
row_count row ns = length (filter (λ n. is_some (row n)) ns)

-- a listing: the number of its rows, and then their lines in ascending order
abbrev pub listing_text : LineStyle → State → Kind → List ℕ
listing_text style s Tickets =
    codes "lstkt " ++ (decimal (row_count (ticket_row s) (numbers s.tickets)) ++ (newline ++ lines_for (ticket_line style s.limits.unit) (ticket_row s) (numbers s.tickets)))
listing_text style s Currencies =
    codes "lscur " ++ (decimal (row_count (currency_row s) (range_with_len 0 (length s.currencies))) ++ (newline ++ lines_for (currency_line style s.limits.unit) (currency_row s) (range_with_len 0 (length s.currencies))))
listing_text style s Threads =
    codes "lsthr " ++ (decimal (row_count (thread_row s) (numbers s.records)) ++ (newline ++ lines_for (thread_line style s.limits.unit) (thread_row s) (numbers s.records)))

-- ---- replies

-- a done command, or a wake with its thread
abbrev pub done_text : Event → List ℕ
done_text (event.Wake thread) = codes "wake thread " ++ decimal thread
done_text other = codes "done"

-- the number delivered to a winner, if any
abbrev pub delivered_text : Option ℕ → List ℕ
delivered_text None = []
delivered_text (Some number) = codes " got " ++ decimal number

-- The text of a reply without a listing, with the end of its line; empty for a listing's.
abbrev pub plain_text : LineStyle → ℕ → Event → Reply → List ℕ
plain_text style unit e (reply.Ticket n) = codes "ticket " ++ (decimal n ++ newline)
plain_text style unit e (reply.Currency n) = codes "currency " ++ (decimal n ++ newline)
plain_text style unit e (reply.Thread n) = codes "thread " ++ (decimal n ++ newline)
plain_text style unit e (reply.Funded ticket thread) = codes "funded " ++ (decimal ticket ++ (codes " " ++ (decimal thread ++ newline)))
plain_text style unit e reply.Done = done_text e ++ newline
plain_text style unit e (reply.Killed thread) = codes "done" ++ newline
plain_text style unit e (reply.List kind) = []
plain_text style unit e (reply.Winner thread number total delivered) =
    codes "draw " ++ (drawn_value style unit number ++ (codes " of " ++ (drawn_value style unit total ++ (codes " thread " ++ (decimal thread ++ (delivered_text delivered ++ newline))))))
plain_text style unit e reply.Idle = codes "idle" ++ newline
plain_text style unit e (reply.Expired thread ticks) = codes "thread " ++ (decimal thread ++ (codes " ticks " ++ (decimal ticks ++ (codes " expire" ++ newline))))
plain_text style unit e (reply.Trapped thread ticks came ends) =
    codes "thread " ++ (decimal thread ++ (codes " ticks " ++ (decimal ticks ++ (codes " " ++ (trap_text_of style unit e came ++ (ends_text ends ++ newline))))))
plain_text style unit e (reply.Refused why) = refused (refusal_code why) (refusal_name why) ++ newline

-- a reply, and its listing if it has one, given the state after the event
abbrev pub reply_text : LineStyle → State → Event → Reply → List ℕ
reply_text style s e (reply.List kind) = listing_text style s kind
reply_text style s e other = plain_text style s.limits.unit e other
