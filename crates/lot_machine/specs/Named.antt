-- The processor of an event, and the thread that its reply names or makes.
use Rattle.std.specs.Prelude.{ℕ, Option, Some, None}
use Rattle.lot_machine.specs.declared.event.Event.{Event}
use Rattle.lot_machine.specs.declared.event.Event.TheVariants as event
use Rattle.lot_machine.specs.declared.reply.Reply.{Reply}
use Rattle.lot_machine.specs.declared.reply.Reply.TheVariants as reply

-- the event's processor; a command of the console and a wake have none
abbrev pub processor_of : Event → Option ℕ
processor_of (event.Command command) = None
processor_of (event.Draw p d) = Some p
processor_of (event.Expire p) = Some p
processor_of (event.Trap p ran action) = Some p
processor_of (event.Preempt p ticks) = Some p
processor_of (event.Overrun p ticks) = Some p
processor_of (event.Wake t) = None

-- the thread that the reply names: it runs now, or it ran until its quantum ended or its trap was made
abbrev pub thread_in : Reply → Option ℕ
thread_in (reply.Winner t number total delivered) = Some t
thread_in (reply.Expired t ticks) = Some t
thread_in (reply.Trapped t ticks outcome ends) = Some t
thread_in other = None

-- the number that the reply gives to a new thread
abbrev pub thread_given : Reply → Option ℕ
thread_given (reply.Thread t) = Some t
thread_given (reply.Funded ticket t) = Some t
thread_given other = None
