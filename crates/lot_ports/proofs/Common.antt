-- The names that this crate's proofs cite, passed on from one place. Declares nothing.
pub use Rattle.std.proofs.Common.{Contains, List, None, Option, Some, ap, append_assoc, arith, drop, inl, inr, length, length-set, map, option_map, refl, rules, slice_get, subst, suc, sym, unwrap_or, ℕ, [], ◌++◌, ◌-◌, ◌<◌, ◌∙◌, ◌∷◌, ◌≡◌, ◌≤◌, ◌⊎◌}
pub use Rattle.std.proofs.lemmas.List.{append-nil}
pub use Rattle.lot_machine.proofs.Common.{clients_of, first_client, port_at, receive, released, reply, slice_get-map}
pub use Rattle.lot_machine.proofs.Killed.{each-append, each-between}
pub use Rattle.lot_machine.proofs.StepSizes.{each-length}
pub use Rattle.lot_machine.specs.State.{Port, QueuedCall, change_each, change_record, is_live_status, live_in}
pub use Rattle.lot_queues.proofs.Callers.{first-none, first-some, number-again}
pub use Rattle.lot_queues.proofs.Common.{IsNowhere, IsThere, QueueLists, callers_at, contains-at}
pub use Rattle.lot_queues.proofs.Elements.{contains-drop}
pub use Rattle.lot_queues.specs.Calls.{queued_call}
pub use Rattle.lot_threads.proofs.Common.{IsLive, IsStaleIn, MakesStaleIn, Node, Ready, Record, Served, Threaded, ToThread, at_number, at_number-map, edges-between, funding_in, live-between, number-kept, number-set, number-some, number-there, set_number, weighed_of, with_records}
pub use Rattle.lot_threads.proofs.Last.{makes-last}
pub use Rattle.lot_threads.proofs.TwoChanges.{makes-both-in, makes-each}
pub use Rattle.lot_threads.proofs.Ways.{lends-to-live, live-counted, may-lend-to}
pub use Rattle.lot_ports.specs.Traps.{with_ports}
