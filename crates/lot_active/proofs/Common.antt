-- The names that this crate's proofs cite, passed on from one place. Declares nothing.
pub use Rattle.std.proofs.Common.{All, Bool, Contains, IsTrue, List, None, Option, Some, ap, append_assoc, ap₂, arith, cond, eqb, false, filter, filter_map, inl, inr, is_some, length, length-append, length-set, map, nat_lt, ne_eqb, not, option_and_then, option_map, refl, remove, replicate, slice_get, slice_set, subst, suc, sum_by, sym, true, unwrap_or, zero, ℕ, [], ◌&&◌, ◌*◌, ◌++◌, ◌+◌, ◌-◌, ◌<◌, ◌==◌, ◌^◌, ◌||◌, ◌↔◌, ◌∙◌, ◌∷◌, ◌≡◌, ◌≢◌, ◌≤◌, ◌⊎◌}
pub use Rattle.std.proofs.Math.Path.{fun_ext}
pub use Rattle.std.proofs.lemmas.List.{get_or-set_other, get_or-set_same, get_or_past, get_or_read, length-replicate, map-append}
pub use Rattle.std.proofs.lemmas.Option.{get_or_from_slice_get, slice_get_past, slice_get_within}
pub use mathlib.Core.Bool.{beq}
pub use Rattle.lot_machine.proofs.Common.{AllByRecursion, ChainLeads, Funding, IsActive, IsBacked, IsChain, IsLendChain, IsLive, LendsLead, LendsOnTo, LendsTo, active_amount, borrower, cases_eq, cases_lt, ends_of, eq-eqb, eqb-true, is_active, is_backed, issuer_of, le-ltb, lend_node, length-le_from_distinct_below, list_any, lt-ltb, ltb-true, or_cases, or_left, or_right, owner_of, reissued, retargeted, target_node, target_of, ticket_at, ticket_in, with_amount, with_new_ticket, with_target, without_ticket}
pub use Rattle.lot_machine.proofs.LendDepth.{is_backed-exact}
pub use Rattle.lot_machine.proofs.TicketDepth.{is_active-exact}
pub use Rattle.lot_machine.proofs.Tickets.{at_number-suc, flatten-some, issuer-of, some-injective, target-of, ticket-of, ticket_in-suc}
pub use Rattle.lot_graph.proofs.Common.{Contains-append_left, Contains-append_right, Contains-push_cases, Currency, Edge, FitsIn, FitsLimits, HasEachOnce, IfNone, IsConsistent, IsEdgeWithin, IsFree, IsListed, IsMutex, IsNodeOf, IsNodeWithin, IsSound, IsThread, LeadsInto, Lend, LimitedFunding, Mutex, Nobody, Node, NodeLists, OfLender, OfMutex, OfTicket, Target, Thread, Ticket, ToMutex, ToThread, at_number, contains-mapped, edge_at, edge_count, edge_place, layout_of, mapped-contains, node_at, node_count, node_of, node_place, nodes_of, number-push, number-set, number-there, option_any, option_flatten, set_number, sum_by-cons, with_currencies, with_lends, with_owners, with_pushed, with_removed, with_tickets}
pub use Rattle.lot_graph.proofs.EndLemmas.{ends-lender, ends-mutex, ends-ticket, lender-ends, mutex-ends, pair, ticket-ends}
pub use Rattle.lot_graph.proofs.FieldLemmas.{target-ticket}
pub use Rattle.lot_graph.proofs.HeadLemmas.{edge-back, edge-by, place-back}
pub use Rattle.lot_graph.proofs.MirrorLemmas.{contains-at, contains-nothing, left-before, place-in, still-left}
pub use Rattle.lot_graph.proofs.PlaceLemmas.{edge-low, place-within}
pub use Rattle.lot_graph.proofs.SpreadLemmas.{list-back, list-low, node-back, same-list}
pub use Rattle.lot_graph.proofs.WalkLemmas.{all-rest, mapped-at, walk-short}
pub use Rattle.lot_graph.specs.declared.layout.Layout.{Layout}
pub use Rattle.lot_active.specs.Activity.{Activity, Adds, Changes, IsAwake, IsKept, Tells, amount_at, amount_from, amount_of, awake_at, is_on, leads_to, leads_to_passed, mark_of, part, sum_below}
pub use Rattle.lot_active.specs.Changes.{AdjustsNode, ChangesNodes, IsActiveNode, SwitchesNode, adjusted_nodes, node_amount, switched_nodes}
pub use Rattle.lot_active.specs.Fundings.{AddsEdge, AwakeAre, IsKeptFor, counted_amount, edge_between, ends_of_edge, graph_net, net_of, places_of_edge, places_of_ends}
pub use Rattle.lot_active.specs.Held.{Adjusts, AllEmpty, Held, In, IsSized, MayMove, NotesChange, Relists, SetsAwake, Settles, held_at, moved, on_at}
pub use Rattle.lot_active.specs.Nets.{EntersAt, HasEdge, HasNoCycle, IsNet, IsWay, Net, Reaches}
pub use Rattle.lot_active.specs.Spread.{AddsUp, Crossing, HasMoved, Noted, Spreading, set_at}
pub use Rattle.lot_active.specs.declared.edge_ends.EdgeEnds.{EdgeEnds}
pub use Rattle.lot_active.specs.declared.edge_ends.EdgePlaces.{EdgePlaces}
pub use Rattle.lot_active.specs.declared.edge_ends.EdgeSource.{EdgeSource}
