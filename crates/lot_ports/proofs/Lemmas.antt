-- The names and the lemmas that the proofs of this crate's functions cite, passed on from one place. Declares nothing.
pub use Rattle.lot_ports.proofs.Common.{Contains, IsLive, IsNowhere, List, QueueLists, Ready, Record, Some, Threaded, ToThread, ap, arith, callers_at, clients_of, first_client, funding_in, lends-to-live, length, live-counted, live_in, may-lend-to, option_map, port_at, queued_call, rules, subst, sym, unwrap_or, ◌∙◌, ◌≡◌}
pub use Rattle.lot_ports.proofs.Callers.{caller-first}
pub use Rattle.lot_ports.proofs.Releasing.{IsReleased, counted, fewer, released-start, released-step}
pub use Rattle.lot_ports.proofs.Serving.{client-other, live-kept, makes-serving, nowhere-replied}
