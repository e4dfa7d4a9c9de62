-- The names and the lemmas that the proofs of this crate's functions cite, passed on from one place. Declares nothing.
pub use Rattle.lot_queues.proofs.Common.{None, ap, arith, empty_lists, get_or_default, replicate, sym, threads_in, ◌∙◌, ◌≡◌}
pub use Rattle.lot_queues.proofs.FirstTaken.{first-taken}
pub use Rattle.lot_queues.proofs.Holds.{calls-are, calls-below, clients-are, clients-below, free, in-mutexes, itself, mutexes-are, node-below, nowhere, opened, owner-is, owners-are, ports-are, receivers-are, receivers-below, room-is, set-owner, start, there, waiters-are, waiters-below}
pub use Rattle.lot_queues.proofs.Nowhere.{away-to}
pub use Rattle.lot_queues.proofs.Pushed.{push-call, push-client, push-receiver, push-waiter}
pub use Rattle.lot_queues.proofs.Taken.{caller-nowhere, caller-there, first-call, first-there, first-thread, first-within, fits, has-sent, nowhere-test, others-nowhere, take-call, take-client, take-receiver, take-waiter, taken-waiter, waiter-listed, waiter-there, waiter-within}
pub use Rattle.lot_queues.proofs.TakenOut.{taken-out}
