-- The names and the lemmas that the proofs of this crate's functions cite, passed on from one place. Declares nothing.
pub use Rattle.lot_graph.proofs.Common.{Contains, Currency, Edge, Fields, Finds, FitsLimits, FoundNodes, Funding, HasEachOnce, HasFound, IfNone, IfSome, IsAbove, IsBack, IsBorrower, IsConsistent, IsCurrency, IsCycle, IsEdge, IsFoundList, IsFree, IsFunding, IsGraph, IsIssuedIn, IsLender, IsListOf, IsListed, IsMutex, IsNext, IsNodeOf, IsNodeWithin, IsSome, IsSound, IsTarget, IsThread, Layout, LeadsInto, LeadsOutOf, Lend, LendReaches, LimitedFunding, List, Mutex, Nobody, Node, None, NoneFundsBase, OfLender, OfMutex, OfTicket, Option, Reaches, Some, Spreads, Target, Thread, Ticket, TicketTable, ToMutex, ToThread, Unfunded, ap, append-nil, ap₂, arith, at_number, backing_currency, common_steps, contains-nothing, edge_at, edge_count, false, found_nodes, funding_edges, funding_in, funding_of, funds_at, head_of, is_funding, is_some, issued_in, issuer_of, layout_of, lend_node, length, map, node_at, node_place, nodes_of, number-within, option_and_then, option_any, option_copied, option_flatten, option_map, own_edges, owner_of, refl, reissued, retargeted, rules, set_number, slice_get, slice_get_within, slice_set, some-injective, subst, sym, tail_of, take, target_node, target_of, ticket_in, true, with_amount, with_currencies, with_lends, with_new_ticket, with_owners, with_pushed, with_removed, with_target, with_tickets, without_ticket, ℕ, [], ◌%◌, ◌++◌, ◌+◌, ◌-◌, ◌<◌, ◌^◌, ◌∙◌, ◌∷◌, ◌≡◌, ◌≤◌}
pub use Rattle.lot_graph.proofs.AboveLemmas.{finds-above, found-test, into-within, limits-within, next-contained, tail-within, tails-all, walk-end, walk-more, within-limits}
pub use Rattle.lot_graph.proofs.CycleLemmas.{bare-ahead, bare_of, base-apart, cycle-is, cycle-reaches, edges-held, found-reaches, fund-kept, issuer-low, node-numbered, reaches-cycle, target-low}
pub use Rattle.lot_graph.proofs.FieldLemmas.{add_thread-held, again-free, again-held, again_currency-held, borrower-there, destroy-held, disowned-held, edge-within, found-held, free-free, free-kept, funding-listed, funding-ticket, issue-free, issue-held, lend-held, lender-listed, lender-within, make_currency-held, mutex-within, new-held, nobody-free, nobody-within, node-low, node-within, none-when, owned-held, owned-listed, place-low, remove_currency-held, set_amount-held, some-when, target-ticket, ticket-listed, unfund-held, unfunded-free, unfunded-within, unlend-held}
pub use Rattle.lot_graph.proofs.HeadLemmas.{edge-back, place-back}
pub use Rattle.lot_graph.proofs.LimitLemmas.{graph-fits}
pub use Rattle.lot_graph.proofs.MirrorLemmas.{contains-at, mirror-found}
pub use Rattle.lot_graph.proofs.PlaceLemmas.{edge-low, edge-there}
pub use Rattle.lot_graph.proofs.SpreadLemmas.{IsFollowed, IsOfSome, followed-all, followed-end, followed-more, followed-start, found-low, found-none, found-some, funded-all, funded_at, head-within, list-back, list-low, mutex-spread, node-back, only-list, some-more, spread-by, spread-none, spread-push, thread-spread}
pub use Rattle.lot_graph.proofs.TicketLemmas.{filled-after, gap-made, length-seen, pushed-seen, slots-set, there-made, ticket-found, ticket-seen}
pub use Rattle.lot_graph.proofs.UnusedLemmas.{into-empty, issued-empty}
pub use Rattle.lot_graph.proofs.WalkLemmas.{all-rest, first-into, first-low, into-once, issued-once, out-once, out-short, own-once, own-short, passed-over, walk-short}
