-- The plain fields of an event.
use Rattle.std.specs.Prelude.{◌≡◌, ◌≤◌, ℕ, List, [], ◌∷◌, All, fold, true, length}
use Rattle.lot_machine.specs.Actions.{Action, object_of, with_numbers}
use Rattle.lot_machine.specs.Arguments.{Value}
use Rattle.lot_machine.specs.Arguments as value
use Rattle.lot_machine.specs.Commands.{is_name, is_thread_name, parts}
use Rattle.lot_machine.specs.declared.command.Command.{Command}
use Rattle.lot_machine.specs.declared.event.Event.{Event}
use Rattle.lot_machine.specs.declared.event.Event.TheVariants as event
use Rattle.lot_machine.specs.declared.reference.CurrencyRef.TheVariants as currency_ref
use Rattle.lot_machine.specs.declared.reference.ThreadRef.TheVariants as thread_ref
use Rattle.lot_machine.specs.declared.reference.TargetRef.TheVariants as target_ref
use Rattle.lot_machine.specs.declared.sizes.Sizes.{Sizes}
use Rattle.lot_machine.specs.declared.trap.Trap.TheVariants as trap
use Rattle.lot_machine.specs.declared.command.Verb.{Verb}
use Rattle.lot_machine.specs.declared.command.Verb.TheVariants as verb
use Rattle.lot_c.specs.declared.event.PlainEvent.{PlainEvent}
use Rattle.lot_c.specs.declared.kind.EventKind.{EventKind}
use Rattle.lot_c.specs.declared.kind.EventKind.TheVariants as kind
use Rattle.lot_c.specs.declared.kind.Reference.{Reference}
use Rattle.lot_c.specs.declared.kind.Reference.TheVariants as by
use Rattle.lot_c.specs.Names.{plain_name}
use Rattle.lot_c.specs.Numbers.{event_number}
use Rattle.lot_c.specs.Wides.{plain_wide}

-- an event of this kind, with all other fields 0
abbrev of_kind : EventKind → PlainEvent
of_kind k = record {
  kind = event_number k;
  processor = 0;
  ticks = 0;
  object = 0;
  sent = 0;
  script = 0;
  number = plain_wide 0;
  amount = 0;
  ticket = 0;
  currency = plain_name [];
  name = plain_name [];
}

-- a name of at most 16 bytes that a kernel with these sizes takes
abbrev IsName : Sizes → List ℕ → Type 0
IsName sizes name = (length name ≤ 16) × (is_name sizes name ≡ true)

-- the same for the name of a thread, which may have none
abbrev IsThreadName : Sizes → List ℕ → Type 0
IsThreadName sizes name = (length name ≤ 16) × (is_thread_name sizes name ≡ true)

-- a kernel with these sizes takes the name of the verb's argument, if it has one
abbrev pub HasName : Sizes → Verb → Value → Type 0
HasName sizes v (value.Currency (currency_ref.Named name)) = IsName sizes name
HasName sizes v (value.Target (target_ref.Named name)) = IsName sizes name
HasName sizes v (value.Thread (thread_ref.Named name)) = IsName sizes name
HasName sizes verb.MakeCurrency (value.Name name) = IsName sizes name
HasName sizes v (value.Name name) = IsThreadName sizes name
HasName sizes v other = Unit {0}

-- a kernel with these sizes takes each name of the event
abbrev pub HasNames : Sizes → Event → Type 0
HasNames sizes (event.Command c) = All (HasName sizes (parts c).0) (parts c).1
HasNames sizes other = Unit {0}

-- how the arguments refer to a currency or a thread
abbrev pub reference_in : List Value → Reference
reference_in (value.Currency (currency_ref.Numbered currency) ∷ others) = by.Currency
reference_in (value.Target (target_ref.Currency currency) ∷ others) = by.Currency
reference_in (value.Target (target_ref.Thread thread) ∷ others) = by.Thread
reference_in (value.Thread (thread_ref.Numbered thread) ∷ others) = by.Thread
reference_in (v ∷ others) = reference_in others
reference_in [] = by.Name

-- the fields with this argument
abbrev pub with_argument : PlainEvent → Value → PlainEvent
with_argument e (value.Amount amount) = record e { amount = amount }
with_argument e (value.Ticket ticket) = record e { ticket = ticket }
with_argument e (value.Currency (currency_ref.Named currency)) = record e { currency = plain_name currency }
with_argument e (value.Currency (currency_ref.Numbered currency)) = record e { object = currency }
with_argument e (value.Target (target_ref.Named target)) = record e { name = plain_name target }
with_argument e (value.Target (target_ref.Currency currency)) = record e { object = currency }
with_argument e (value.Target (target_ref.Thread thread)) = record e { object = thread }
with_argument e (value.Thread (thread_ref.Named thread)) = record e { name = plain_name thread }
with_argument e (value.Thread (thread_ref.Numbered thread)) = record e { object = thread }
with_argument e (value.Name name) = record e { name = plain_name name }
with_argument e (value.Script script) = record e { script = script }
with_argument e other = e

-- a command in plain fields
abbrev pub plain_command : Command → PlainEvent
plain_command c = fold with_argument (of_kind (kind.Command (parts c).0 (reference_in (parts c).1))) (parts c).1

-- the number that a trap sends, or 0
abbrev sent_by : Action → ℕ
sent_by (trap.Call port number) = number
sent_by (trap.Reply number) = number
sent_by (trap.Serve port number) = number
sent_by other = 0

-- the number that a trap draws by, or 0
abbrev drawn_by : Action → ℕ
drawn_by (trap.Unlock mutex number) = number
drawn_by other = 0

-- a trap in plain fields
abbrev pub plain_trap : ℕ → ℕ → Action → PlainEvent
plain_trap p ran action = record (of_kind (kind.Trap (with_numbers action tt tt tt tt))) {
  processor = p;
  ticks = ran;
  object = object_of action;
  sent = sent_by action;
  number = plain_wide (drawn_by action);
}

-- an event in plain fields
abbrev pub plain_event : Event → PlainEvent
plain_event (event.Command c) = plain_command c
plain_event (event.Draw p d) = record (of_kind kind.Draw) { processor = p; number = plain_wide d }
plain_event (event.Expire p) = record (of_kind kind.Expire) { processor = p }
plain_event (event.Trap p ran action) = plain_trap p ran action
plain_event (event.Preempt p ticks) = record (of_kind kind.Preempt) { processor = p; ticks = ticks }
plain_event (event.Overrun p ticks) = record (of_kind kind.Overrun) { processor = p; ticks = ticks }
plain_event (event.Wake t) = record (of_kind kind.Wake) { object = t }
