-- The names that this crate's proofs cite, passed on from one place. Declares nothing.
pub use Rattle.std.proofs.Common.{Bool, Contains, IsTrue, List, None, Option, Some, ap, ap₂, arith, cond, drop, false, filter, get_or, get_or-set_other, inl, inr, length, length-set, map, ne_eqb, not, option_map, refl, remove, replicate, set, slice_get, slice_index, slice_index_or, subst, suc, sym, take, true, unwrap_or, zero, ℕ, [], ◌++◌, ◌+◌, ◌-◌, ◌<◌, ◌==◌, ◌^◌, ◌||◌, ◌∙◌, ◌∷◌, ◌≡◌, ◌≤◌, ◌⊎◌}
pub use Rattle.std.proofs.lemmas.List.{get_or-map, get_or-replicate, get_or-set_same, get_or_default, get_or_past, length-map, length-replicate, same_lists, set-get_or, take-append-drop}
pub use Rattle.std.proofs.lemmas.List.Elements.{Contains-append_cases, Contains-append_left, Contains-append_right, Contains-push_cases}
pub use Rattle.std.proofs.lemmas.List.FromFn.{get_or-map-range_with_len, length-map-range_with_len, map-range_with_len_more}
pub use Rattle.std.proofs.lemmas.Option.{get_or_from_slice_get, slice_get-get_or, slice_get-map, slice_get_past, slice_get_read, slice_get_within, unwrap_or-slice_get}
pub use Rattle.std.specs.Option.{IfNone, IfSome, is_some}
pub use Rattle.lot_machine.proofs.Common.{HasQueues, IsQueue, Mutex, Port, QueuedCall, at_number, cases_eq, cases_lt, eq-eqb, eqb-false, eqb-true, is_dead, is_live_status, mutex_at, port_without, range_with_len, set_number, status_of, without}
pub use Rattle.lot_machine.proofs.EachOnce.{contains-at, place-in}
pub use Rattle.lot_machine.proofs.Killed.{filter-was, without-absent}
pub use Rattle.lot_machine.proofs.Tickets.{at_number-suc, some-injective}
pub use Rattle.lot_machine.specs.Ports.{clients_of, port_at, with_client}
pub use Rattle.lot_machine.specs.declared.record.Record.{Record}
pub use Rattle.lot_machine.specs.declared.record.Status.{Status}
pub use Rattle.lot_machine.specs.declared.record.Status.TheVariants.{Queued, Receiving, Running, Served, Waiting}
pub use Rattle.lot_lists.specs.NodeLists.{HasSameSize, IsConsistent, IsFree, IsListed, NodeLists, empty_lists, node_at, nodes_of, with_pushed, with_removed}
pub use Rattle.lot_queues.specs.Fields.{Fields, IsLaidOut, call_of, calls_list, clients_in, list_count, mutex_in, port_in, receivers_list, relisted, seen, threads_in, waiters_list}
pub use Rattle.lot_queues.specs.QueueLists.{IsNowhere, IsThere, IsWaiter, QueueLists, callers_at, empty_queues, queues_without, with_calls, with_owner, with_receivers, with_waiters}
pub use Rattle.lot_queues.specs.declared.layout.Layout.{Layout}
pub use Rattle.lot_queues.specs.declared.queues.TakenCall.{TakenCall}
