-- The event in plain fields.
use Rattle.std.specs.Prelude.{ℕ, Option, Some, None, Result, Ok, Err, List}
use Rattle.lot_machine.specs.Actions.{Action, TrapWord, with_numbers}
use Rattle.lot_machine.specs.Arguments.{Value}
use Rattle.lot_machine.specs.Arguments as value
use Rattle.lot_machine.specs.Verbs.{◌>>=◌, command_given, with_rest}
use Rattle.lot_machine.specs.declared.command.Command.{Command}
use Rattle.lot_machine.specs.declared.event.Event.{Event}
use Rattle.lot_machine.specs.declared.event.Event.TheVariants as event
use Rattle.lot_machine.specs.declared.reference.CurrencyRef.{CurrencyRef}
use Rattle.lot_machine.specs.declared.reference.CurrencyRef.TheVariants as currency_ref
use Rattle.lot_machine.specs.declared.reference.ThreadRef.{ThreadRef}
use Rattle.lot_machine.specs.declared.reference.ThreadRef.TheVariants as thread_ref
use Rattle.lot_machine.specs.declared.reference.TargetRef.{TargetRef}
use Rattle.lot_machine.specs.declared.reference.TargetRef.TheVariants as target_ref
use Rattle.lot_machine.specs.declared.sizes.Sizes.{Sizes}
use Rattle.lot_machine.specs.declared.arguments.Slot.{Slot}
use Rattle.lot_machine.specs.declared.arguments.Slot.TheVariants as slot
use Rattle.lot_machine.specs.declared.command.Verb.{Verb}
use Rattle.lot_machine.specs.declared.command.Verb.TheVariants as verb
use Rattle.lot_c.specs.declared.event.PlainEvent.{PlainEvent}
use Rattle.lot_c.specs.declared.kind.EventKind.{EventKind}
use Rattle.lot_c.specs.declared.kind.EventKind.TheVariants as kind
use Rattle.lot_c.specs.declared.kind.Reference.{Reference}
use Rattle.lot_c.specs.declared.kind.Reference.TheVariants as by
use Rattle.lot_c.specs.declared.status.Status.{Status}
use Rattle.lot_c.specs.declared.status.Status.TheVariants.{BadKind}
use Rattle.lot_c.specs.Numbers.{kind_numbered}
use Rattle.lot_c.specs.Names.{name_meant, thread_name_meant}
use Rattle.lot_c.specs.Wides.{wide_meant}

-- the fields of a command's event, for a kernel with these sizes: the verb, and how it refers to a currency or a thread
pub record CommandFields : Type 0 where
  pub event : PlainEvent
  pub sizes : Sizes
  pub verb : Verb
  pub reference : Reference

-- the currency: of the number `object`, or of the name `currency`
abbrev currency_in : CommandFields → Reference → Result CurrencyRef Status
currency_in f by.Currency = Ok (currency_ref.Numbered f.event.object)
currency_in f other = name_meant f.sizes f.event.currency >>= λ name. Ok (currency_ref.Named name)

-- the target: of the number `object`, or of the name `name`
abbrev target_in : CommandFields → Reference → Result TargetRef Status
target_in f by.Name = name_meant f.sizes f.event.name >>= λ name. Ok (target_ref.Named name)
target_in f by.Currency = Ok (target_ref.Currency f.event.object)
target_in f by.Thread = Ok (target_ref.Thread f.event.object)

-- the thread: of the number `object`, or of the name `name`
abbrev thread_in : CommandFields → Reference → Result ThreadRef Status
thread_in f by.Thread = Ok (thread_ref.Numbered f.event.object)
thread_in f other = name_meant f.sizes f.event.name >>= λ name. Ok (thread_ref.Named name)

-- the new name; a thread may have none
abbrev new_name : CommandFields → Verb → Result (List ℕ) Status
new_name f verb.MakeCurrency = name_meant f.sizes f.event.name
new_name f other = thread_name_meant f.sizes f.event.name

-- An argument in its field. A currency or a thread with the number `object` need not exist: the kernel checks that.
abbrev pub field_given : CommandFields → Slot → Result Value Status
field_given f slot.Amount = Ok (value.Amount f.event.amount)
field_given f slot.Ticket = Ok (value.Ticket f.event.ticket)
field_given f slot.Currency = currency_in f f.reference >>= λ currency. Ok (value.Currency currency)
field_given f slot.Target = target_in f f.reference >>= λ target. Ok (value.Target target)
field_given f slot.Thread = thread_in f f.reference >>= λ thread. Ok (value.Thread thread)
field_given f slot.Name = new_name f f.verb >>= λ name. Ok (value.Name name)
field_given f slot.Script = Ok (value.Script f.event.script)

-- an argument in its field, and the same fields again
abbrev pub argument_given : CommandFields → Slot → Result (Value × CommandFields) Status
argument_given f wanted = with_rest (λ v. v) f (field_given f wanted)

-- the command as an event; each verb takes the arguments of its form, so there is one
abbrev pub command_event : Option Command → Result Event Status
command_event (Some c) = Ok (event.Command c)
command_event None = Err BadKind

-- what a trap with this word asks for
abbrev pub action_in : PlainEvent → TrapWord → Action
action_in e word = with_numbers word e.object e.sent (wide_meant e.number) tt

-- the event in fields of this kind for a kernel with these sizes, or `BadKind` without one
abbrev pub meant_as : Sizes → PlainEvent → Option EventKind → Result Event Status
meant_as sizes e (Some (kind.Command v reference)) = do
  given ← command_given argument_given v (record { event = e; sizes = sizes; verb = v; reference = reference })
  command_event given.0
meant_as sizes e (Some (kind.Trap word)) = Ok (event.Trap e.processor e.ticks (action_in e word))
meant_as sizes e (Some kind.Draw) = Ok (event.Draw e.processor (wide_meant e.number))
meant_as sizes e (Some kind.Expire) = Ok (event.Expire e.processor)
meant_as sizes e (Some kind.Preempt) = Ok (event.Preempt e.processor e.ticks)
meant_as sizes e (Some kind.Overrun) = Ok (event.Overrun e.processor e.ticks)
meant_as sizes e (Some kind.Wake) = Ok (event.Wake e.object)
meant_as sizes e None = Err BadKind

-- The event in these fields for a kernel with these sizes, or the status for invalid ones. Fields that the kind doesn't
-- read may have any value.
abbrev pub event_meant : Sizes → PlainEvent → Result Event Status
event_meant sizes e = meant_as sizes e (kind_numbered e.kind)
