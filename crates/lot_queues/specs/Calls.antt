-- A call in terms of the machine's definitions.
use Rattle.lot_machine.specs.State.{QueuedCall}
use Rattle.lot_queues.specs.declared.queues.TakenCall.{TakenCall}

-- the queued call of the machine with this caller and number
abbrev pub queued_call : TakenCall → QueuedCall
queued_call c = record { caller = c.caller; number = c.number }
