-- The names that this crate's proofs cite, passed on from one place. Declares nothing.
pub use Rattle.std.proofs.Common.{All, Bool, Contains, IsTrue, List, None, Option, Some, ap, append-nil, append_assoc, ap₂, arith, cond, false, filter, get_or, inl, inr, is_some, length, length-set, map, nat_le, nat_lt, not, option_and_then, option_map, refl, remove, replicate, rules, set, slice_get, slice_set, subst, suc, sum_by, sym, take, true, zero, ℕ, [], ◌%◌, ◌&&◌, ◌++◌, ◌+◌, ◌-◌, ◌<◌, ◌^◌, ◌↔◌, ◌∙◌, ◌∷◌, ◌≡◌, ◌≤◌, ◌⊎◌}
pub use Rattle.std.proofs.lemmas.Grind.{common_steps}
pub use Rattle.std.proofs.lemmas.List.{get_or-replicate, get_or-set_other, get_or-set_same, get_or_past, length-append, length-map, length-replicate, length-take-le, map-append, take_more_set}
pub use Rattle.std.proofs.lemmas.List.Elements.{Contains-append_left, Contains-append_right, Contains-push_cases}
pub use Rattle.std.proofs.lemmas.Option.{slice_get-get_or, slice_get-map, slice_get_past, slice_get_within}
pub use Rattle.std.specs.Iterator.{YieldsFirst}
pub use Rattle.std.specs.Option.{IfNone, IfSome, IsSome, option_copied, option_flatten}
pub use Rattle.slab.proofs.SlabLemmas.{ContainsKey-within}
pub use Rattle.slab.specs.Slab.{Slab, get, with_value}
pub use Rattle.lot_machine.proofs.Amounts.{FundsThere-amount, HasNoCycle-amount, amount-issuers, amount-targets}
pub use Rattle.lot_machine.proofs.Changes.{number-kept, number-push, number-set, number-there, place-after}
pub use Rattle.lot_machine.proofs.Common.{Funding, HasNoCycle, IsChain, IsEdge, LendsLead, LendsTo, WouldCycle, all_tickets, and_from, and_parts, at_number, backing_currency, borrower, borrower_of, cases_eq, cases_lt, currency_funded, edge_count_into, edges_into, ends_of, eq-eqb, is_currency, is_funding, issued_in, issuer_of, le-ltb, leb-false, leb-true, lend_node, list_any, lt-ltb, ltb-false, option_any, owner_of, reissued, retargeted, set_number, sum_by-cons, target_node, target_of, ticket_at, ticket_in, with_amount, with_new_ticket, with_target, without_ticket}
pub use Rattle.lot_machine.proofs.EachOnce.{apart-filter, apart-from, apart-map, contains-filter, contains-mapped, contains-nothing, filter-contains, mapped-contains, once-from, place-in}
pub use Rattle.lot_machine.proofs.EdgeSums.{edges-many}
pub use Rattle.lot_machine.proofs.EdgesOnce.{into-sums}
pub use Rattle.lot_machine.proofs.FundingKept.{FundsFrom, FundsNoMore, FundsThere-after, FundsThere-funds, FundsThere-new_ticket, FundsThere-no_more, FundsThere-placed, FundsThere-removed, FundsThere-target, FundsThere-without_ticket, HasNoCycle-currencies, HasNoCycle-funds, HasNoCycle-new_ticket, HasNoCycle-no_more, HasNoCycle-target, HasNoCycle-without_ticket, chain-path, no_more-put, path-chain}
pub use Rattle.lot_machine.proofs.LendSums.{number-within}
pub use Rattle.lot_machine.proofs.LendsKept.{HasNoCycle-freed, HasNoCycle-lends, HasNoCycle-lends_more, HasNoCycle-lends_nobody, lend-path, no-lend-back, no-lend-return}
pub use Rattle.lot_machine.proofs.Paths.{HasNoReturn, IsPath, Leads, path-then}
pub use Rattle.lot_machine.proofs.Tickets.{any_at, any_from, at_number-suc, is_currency-is, issued-at, issued-found, issuer-of, list_any-filter, place_of, some-injective, ticket-of, ticket_in-suc}
pub use Rattle.lot_machine.specs.declared.funding.Edge.{Edge}
pub use Rattle.lot_machine.specs.declared.funding.Edge.TheVariants.{OfLender, OfMutex, OfTicket}
pub use Rattle.lot_machine.specs.declared.funding.Lend.{Lend}
pub use Rattle.lot_machine.specs.declared.funding.Lend.TheVariants.{Nobody, ToMutex, ToThread}
pub use Rattle.lot_machine.specs.declared.funding.Node.{Node}
pub use Rattle.lot_machine.specs.declared.funding.Node.TheVariants.{Currency, Mutex, Thread}
pub use Rattle.lot_machine.specs.declared.ticket.Target.{Target}
pub use Rattle.lot_machine.specs.declared.ticket.Target.TheVariants.{Unfunded}
pub use Rattle.lot_machine.specs.declared.ticket.Ticket.{Ticket}
pub use Rattle.lot_lists.specs.NodeLists.{IsConsistent, IsFree, IsListed, NodeLists, empty_lists, node_at, nodes_of, with_pushed, with_removed}
pub use Rattle.lot_graph.specs.Changes.{with_currencies, with_lends, with_owners, with_tickets}
pub use Rattle.lot_graph.specs.Fields.{Fields, HeadsWithin, IsGraph, NoneFundsBase, funding_in, head_of, list_into, list_issued, seen}
pub use Rattle.lot_graph.specs.Found.{FoundNodes, HasFound, IsAbove}
pub use Rattle.lot_graph.specs.Graphs.{HasEachOnce, IsBorrower, IsCurrency, IsCycle, IsFunding, IsIssuedIn, IsLender, IsMutex, IsNode, IsNodeOf, IsSound, IsTarget, IsThread, IsWay, LeadsInto, LeadsOutOf, LendReaches, LimitedFunding, Reaches, opening_funding}
pub use Rattle.lot_graph.specs.Mirrors.{Mirrors}
pub use Rattle.lot_graph.specs.Places.{AmountsFit, FitsIn, FitsLimits, IsEdgeWithin, IsNodeWithin, edge_at, edge_count, edge_place, layout_of, node_count, node_of, node_place}
pub use Rattle.lot_graph.specs.Spread.{AreEdges, Finds, HasTrail, IsBack, IsFoundList, IsListOf, IsNext, IsTrail, Spreads, found_nodes, funding_of, tail_of}
pub use Rattle.lot_graph.specs.Tickets.{IsFilled, TicketTable, no_tickets, stored}
pub use Rattle.lot_graph.specs.Walks.{funding_edges, funds_at, issued_edges, own_edge_of, own_edges}
pub use Rattle.lot_graph.specs.declared.layout.Layout.{Layout}
pub use Rattle.lot_graph.specs.declared.reach.Edges.{Edges}
