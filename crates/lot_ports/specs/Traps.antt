-- A trap at a port: the queues after it, and its whole effect.
use Rattle.std.specs.Prelude.{◌≡◌}
use Rattle.lot_machine.specs.declared.funding.Node.{Node}
use Rattle.lot_machine.specs.Ports.{PortTrap}
use Rattle.lot_queues.specs.QueueLists.{QueueLists}
use Rattle.lot_threads.specs.declared.effect.TrapEffect.{TrapEffect}
use Rattle.lot_threads.specs.Threaded.{Threaded, IsStaleIn, MakesStaleIn, with_records}

-- the queues with the trap's clients and ports
abbrev pub with_ports : QueueLists → PortTrap → QueueLists
with_ports q e = record q { clients = e.clients; ports = e.ports }

-- The trap at a port has this effect and leads to these threads and queues. Stale nodes stay stale, and touched nodes
-- reach the new ones.
pub record IsPortTrap (v : Threaded) (q : QueueLists) (trap : PortTrap) (effect : TrapEffect) (new : Threaded) (left : QueueLists) : Type 0 where
  pub outcome : effect.outcome ≡ trap.outcome
  pub after : effect.after ≡ trap.after
  pub threads : new ≡ with_records v trap.records new.stale
  pub queues : left ≡ with_ports q trap
  pub kept : (node : Node) → IsStaleIn v node → IsStaleIn new node
  pub stale : MakesStaleIn v new
