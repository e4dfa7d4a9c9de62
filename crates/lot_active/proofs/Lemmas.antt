-- The names and the lemmas that the proofs of this crate's functions cite, passed on from one place. Declares nothing.
pub use Rattle.lot_active.proofs.Common.{Activity, Adds, Adjusts, Changes, Crossing, EdgePlaces, EdgeSource, Held, IsFree, IsNodeWithin, Layout, List, MayMove, SetsAwake, Settles, Some, Spreading, Thread, ap, arith, contains-at, edge_place, false, get_or_read, graph_net, held_at, inl, inr, layout_of, length, length-set, map, map-append, mark_of, node_count, node_place, nodes_of, on_at, places_of_edge, places_of_ends, refl, slice_set, some-injective, subst, sym, target-ticket, target_node, true, ℕ, [], ◌<◌, ◌∙◌, ◌∷◌, ◌≡◌}
pub use Rattle.lot_active.proofs.Bridge.{funded-within, graph-net, graph-no_cycle, kept-amount, kept-low, kept-moves, kept-place, kept-thread, kept-ticket, none-awake, thread-within, unfunded-off}
pub use Rattle.lot_active.proofs.Calls.{attach-may, attach-none, attach-spreads, detach-may, detach-none, detach-spreads, end-changes_from, end-kept, local-by, net-less, new-kept}
pub use Rattle.lot_active.proofs.Edits.{adds-net, ends-there, same-ends}
pub use Rattle.lot_active.proofs.Ends.{net-sound}
pub use Rattle.lot_active.proofs.Lists.{found-none, push-relists, same-bits}
pub use Rattle.lot_active.proofs.Local.{IsLocal, kept-local}
pub use Rattle.lot_active.proofs.NodeChanges.{changes-nodes}
pub use Rattle.lot_active.proofs.Notes.{crossing-end, crossing-may, crossing-start, crossing-step, crossing-switched}
pub use Rattle.lot_active.proofs.Steps.{adjust-length, adjust-made, awake-kept, awake-switched, closer, mark-moved, mark-read, mark-woken, sized-by}
pub use Rattle.lot_active.proofs.Turned.{turn-changes, turn-kept, turn-lives, turn-low, turn-nodes, turn-spreads}
pub use Rattle.lot_active.proofs.Walks.{all-done, next-more, next-new, next-places, next-to, places-at}
