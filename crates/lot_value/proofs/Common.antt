-- The names that this crate's proofs cite, passed on from one place. Declares nothing.
pub use Rattle.std.proofs.Common.{All, Bool, Contains, IfNone, IfSome, IsTrue, List, None, OnSome, Option, Some, ap, append-nil, append_assoc, ap₂, arith, false, get_or, if◌then◌else◌, inl, inr, length, length-set, map, min, not, option_and_then, option_map, refl, remove, replicate, set, slice_get, slice_index, slice_index_or, slice_set, subst, suc, sum_by, sym, true, unwrap_or, zero, ℕ, [], ◌*◌, ◌++◌, ◌+◌, ◌-◌, ◌/◌, ◌<◌, ◌==◌, ◌^◌, ◌↔◌, ◌∙◌, ◌∷◌, ◌≡◌, ◌≢◌, ◌≤◌, ◌⊎◌}
pub use Rattle.std.proofs.lemmas.Bool.{OnFalse_at, OnFalse_from, OnTrue_at, cases_eq, cases_lt, eqb-false, eqb-true, true≢false}
pub use Rattle.std.proofs.lemmas.Grind.{common_steps, get_or-set_at}
pub use Rattle.std.proofs.lemmas.List.{get_or-set_other, get_or-set_same, get_or_read, length-replicate, length_push, map-append}
pub use Rattle.std.proofs.lemmas.List.Sums.{get_or-le-sum_by, sum_by-append, sum_by-cons, sum_by-remove, sum_by_push}
pub use Rattle.std.specs.Bool.{OnFalse, OnTrue}
pub use Rattle.std.specs.Option.{IsSome, SomeIff, is_some, option_flatten}
pub use Rattle.lot_machine.proofs.BaseKept.{active-bounded}
pub use Rattle.lot_machine.proofs.Common.{ChainLeads, Funding, FundsThere, HasEachOnce, HasEquation, HasNoCycle, IsActive, IsChangedEdge, IsChangedLife, IsChangedNode, IsEdge, IsPath, IsTouched, IsUnit, IsWay, LeadsInto, LiveBetween, PathLeads, Reaches, WeighedBetween, activates_within, active_amount, at_number, backing_currency, currency_value, edge_count_into, edges_into, ends_of, get_or_from_slice_get, is_active, issuer_of, lend_node, node_value, numbers, option_any, owner_of, range_with_len, reissued, retargeted, set_number, share, shares_into, slice_get-get_or, slice_get_read, slice_get_within, target_node, target_of, ticket_at, ticket_in, ticket_share, ticket_value, ticket_value_within, user_currency_count, weighed_of, with_amount, with_new_ticket, with_target, without_ticket}
pub use Rattle.lot_machine.proofs.EachOnce.{contains-at, contains-later, contains-mapped, contains-nothing, left-before, mapped-contains, place-in, still-left}
pub use Rattle.lot_machine.proofs.Edges.{ends-are}
pub use Rattle.lot_machine.proofs.EdgesOnce.{into-once, into-sums, kept-shares}
pub use Rattle.lot_machine.proofs.NodeBounds.{issuer-amount, node-bounded, other_ticket}
pub use Rattle.lot_machine.proofs.NodeShares.{same-shares, solution, ticket-is, values-solve}
pub use Rattle.lot_machine.proofs.Paths.{path-fewer}
pub use Rattle.lot_machine.proofs.Queues.{number-set_same}
pub use Rattle.lot_machine.proofs.TwoSteps.{edges-between, leads-first, leads-second, live-between, touched-first, touched-second}
pub use Rattle.lot_machine.proofs.Weighed.{only-there}
pub use Rattle.lot_machine.specs.Commands.{is_funding, is_unfunded}
pub use Rattle.lot_machine.specs.State.{holders, sizes_of}
pub use Rattle.lot_lists.specs.NodeLists.{HasSameSize, IsConsistent, IsFree, NodeLists, node_at, nodes_of, with_pushed, with_removed}
pub use Rattle.lot_graph.proofs.Common.{FundsFrom, IsBorrower, IsCycle, IsFunding, IsIssuedIn, IsMutex, IsNodeOf, IsSound, IsTarget, IsThread, LeadsOutOf, LendReaches, LimitedFunding, Unfunded, chain-path, edges-many, head_of, number-kept, number-set, number-there, number-within, opening_funding, path-chain, place-after}
pub use Rattle.lot_graph.proofs.FieldLemmas.{free-kept, funding-ticket, set-twice, target-ticket}
pub use Rattle.lot_graph.proofs.SpreadLemmas.{lender-edge, list-back, list-low, mutex-edge, node-back, only-list, owner-edge, same-list, thread-edge}
pub use Rattle.lot_graph.proofs.WayLemmas.{edge-reaches, reaches-then}
pub use Rattle.lot_active.proofs.Bridge.{active-there, kept-amount}
pub use Rattle.lot_active.proofs.CallEdits.{again-kept, currencies-kept, destroy-kept, disown-edge, fund-edge, issue-kept, lend-edge, own-edge, set_amount-kept, thread-kept, unfund-edge, unlend-edge}
pub use Rattle.lot_active.proofs.Common.{Activity, AddsEdge, AwakeAre, ChangesNodes, Contains-append_left, Contains-append_right, Contains-push_cases, Currency, Edge, FitsIn, FitsLimits, IsActiveNode, IsKeptFor, IsLive, IsNodeWithin, Layout, Lend, Mutex, Nobody, Node, OfLender, OfMutex, OfTicket, SwitchesNode, Target, Thread, Ticket, ToMutex, ToThread, adjusted_nodes, at_number-suc, awake_at, counted_amount, edge_between, ends-mutex, ends-ticket, ends_of_edge, flatten-some, is_active-exact, issuer-of, layout_of, lender-ends, mapped-at, mark_of, mutex-ends, net_of, node_count, node_of, node_place, pair, some-injective, switched_nodes, ticket-ends, ticket-of, with_currencies, with_lends, with_owners, with_tickets}
pub use Rattle.lot_active.proofs.Edits.{again-ends, destroy-ends, issue-ends, set_amount-ends, thread-ends}
pub use Rattle.lot_active.proofs.Ends.{ends-places, net-sound}
pub use Rattle.lot_active.proofs.Lists.{set-same}
pub use Rattle.lot_active.proofs.Local.{way-short}
pub use Rattle.lot_active.proofs.Moved.{moved-changes, moved-kept, unlisted}
pub use Rattle.lot_active.proofs.NodeChanges.{kept-node}
pub use Rattle.lot_active.proofs.Ways.{active-ticket, net-no_cycle, ticket-active}
pub use Rattle.lot_active.specs.declared.edge_ends.EdgeEnds.{EdgeEnds}
pub use Rattle.lot_value.specs.Caches.{CoversChange, DiffersAt, HasSameEquation, IsOnce, IsRight, IsRightBut, IsSmall, IsStale, Known, Settles, TouchesListed, edges_into_all, kept_worth, value_in}
pub use Rattle.lot_value.specs.Changing.{CanApply, CanLend, CanTarget, HoldsOfOwners, MovesNothing, StaleBy, applied, graph_after, live_after}
pub use Rattle.lot_value.specs.Counts.{counted_up}
pub use Rattle.lot_value.specs.Marking.{IsFreshPlace, IsRaising, IsReordered, IsStaleList, LeadsFromPlace, LeadsToPlace, Marks, MarksNodes, Spreads, last_of, stale_places}
pub use Rattle.lot_value.specs.Sources.{AreSources}
pub use Rattle.lot_value.specs.Touched.{IsFundedBy, IsListed, IsSwitchedOrFunded, IsUser, Touched}
pub use Rattle.lot_value.specs.Valued.{AreTogether, Becomes, Follows, FollowsGraph, FollowsLives, MakesStale, StandsFor, Valued, live_of}
pub use Rattle.lot_value.specs.contracts.values.Values.{the_view}
pub use Rattle.lot_value.specs.declared.change.GraphChange.{GraphChange}
pub use Rattle.lot_value.specs.declared.change.GraphChange.TheVariants.{DropCurrency, DropTicket, NewCurrency, NewTicket, PutThread, ReuseCurrency, ReuseTicket, SetAmount}
