use Rattle.lot_ports.proofs.Lemmas.{IsReleased, clients_of, length}
use Rattle.lot_ports.proofs.ports.release_clients.Given as goal

abbrev pub invariant-loop-client : goal.invariant-loop-client
invariant-loop-client l = IsReleased l.initial.threads l.initial.queues l.server.number l.threads l.queues

abbrev pub decreases-loop-client : goal.decreases-loop-client
decreases-loop-client l = length (clients_of l.queues.clients l.server.number)
