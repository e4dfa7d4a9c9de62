-- The names and the lemmas that the proofs of this crate's functions cite, passed on from one place. Declares nothing.
pub use Rattle.lot_value.proofs.Common.{AddsEdge, AreSources, Bool, CanApply, ChangesNodes, Contains, Currency, DropCurrency, DropTicket, Edge, EdgeEnds, Follows, HasEachOnce, HasEquation, IfNone, IfSome, IsBorrower, IsEdge, IsFree, IsFreshPlace, IsFundedBy, IsFunding, IsIssuedIn, IsKeptFor, IsListed, IsLive, IsMutex, IsNodeOf, IsNodeWithin, IsOnce, IsReordered, IsRight, IsSmall, IsStale, IsStaleList, IsSwitchedOrFunded, IsTarget, IsThread, IsUnit, IsUser, Known, Layout, LeadsFromPlace, LeadsInto, LeadsOutOf, LeadsToPlace, LimitedFunding, List, MarksNodes, Mutex, NewCurrency, NewTicket, Nobody, Node, NodeLists, None, OfLender, OfMutex, OfTicket, OnFalse_at, OnFalse_from, OnTrue_at, Option, PutThread, ReuseCurrency, ReuseTicket, SetAmount, Settles, Some, Spreads, StandsFor, Thread, Ticket, Unfunded, Valued, active-there, ap, ap₂, arith, at_number, common_steps, contains-at, contains-nothing, counted_up, edge_count_into, ends-ticket, ends_of, false, funding-ticket, get_or_read, graph_after, head_of, holders, inl, inr, kept_worth, last_of, layout_of, lend_node, lender-edge, length, length-set, length_push, list-back, list-low, live_of, map, mapped-contains, mutex-edge, node_at, node_count, node_of, node_place, nodes_of, option_and_then, option_map, owner-edge, owner_of, place-in, refl, remove, set-twice, set_number, share, shares_into, sizes_of, slice_index, slice_index_or, slice_set, some-injective, stale_places, subst, sum_by_push, switched_nodes, sym, target_of, the_view, thread-edge, ticket-of, ticket_at, true, true≢false, value_in, with_currencies, with_owners, with_pushed, with_removed, with_tickets, ℕ, [], ◌*◌, ◌++◌, ◌+◌, ◌/◌, ◌<◌, ◌∙◌, ◌∷◌, ◌≡◌, ◌⊎◌}
pub use Rattle.lot_value.proofs.Amounts.{amount-same, changed-apart, changed-target, changed-there, free-target, is-funding, reissued-again, unfunded-there}
pub use Rattle.lot_value.proofs.Applied.{Done, becomes, done, done-stays, follows-none, follows-stays, lend-and-sleep, live-and-lend, made-in, seen}
pub use Rattle.lot_value.proofs.Counting.{counted-more}
pub use Rattle.lot_value.proofs.Ends.{edge-there, there-edge, to-is}
pub use Rattle.lot_value.proofs.Following.{follows-set, low, stays-small, together-new}
pub use Rattle.lot_value.proofs.GraphCalls.{disown-went, follows-one, free-same, fund-came, lend-came, own-came, unfund-went, unlend-went}
pub use Rattle.lot_value.proofs.Lending.{apart-fewer, edges-lent, lend-kept, lend-twice, lends-nobody, number-some}
pub use Rattle.lot_value.proofs.Listed.{each-done, each-here, each-next, list-within, listed-low, moved-is, reordered-move, reordered-same, reordered-then}
pub use Rattle.lot_value.proofs.Mapped.{place-mapped, reordered-mapped}
pub use Rattle.lot_value.proofs.Moving.{follows-move, freed-apart, freed-free, freed-mutex, freed-thread, have-s, have-t, layout, within-s, within-t}
pub use Rattle.lot_value.proofs.Nodes.{node-within, within-node}
pub use Rattle.lot_value.proofs.OneEdge.{ends-have}
pub use Rattle.lot_value.proofs.Raising.{free-none, raising-kept, raising-moved, raising-none, raising-raised, raising-start, same-list}
pub use Rattle.lot_value.proofs.Reading.{all-count, all-sum, next-sum}
pub use Rattle.lot_value.proofs.Rightness.{marks-nodes, right-worth, sources-small, touch-exact, touch-right}
pub use Rattle.lot_value.proofs.Settled.{first-none, fresh-place, known-same, last-none, nothing-stale, once-mapped, places-back, rank-falls, rank_of, reads-right, reordered-right, reordered-settles, settle-more, settle-right, settle-settles, settled-unit, shares-at, source-fresh}
pub use Rattle.lot_value.proofs.Shares.{active-is, share-amount, share-base, share-off, share-user, ticket-here, ticket-target}
pub use Rattle.lot_value.proofs.Spreading.{IsFollowed, IsTargetOf, followed-end, followed-marks, followed-more, followed-start, found-free, found-listed, funded-all, funded-ends, funded-none, funded-skip, list-test, listed-free, listed-some, marks-nothing, spread-edge, spread-none, spread-push, targets-none}
pub use Rattle.lot_value.proofs.TicketWorth.{kept-share, share-at, ticket-small, unfunded-nothing}
pub use Rattle.lot_value.proofs.Touches.{all-yielded, funded-more, listed-all, listed-more, listed-so, marked-more, next-listed, targets-marked, touched-none, touched-one, touched-then}
pub use Rattle.lot_value.proofs.TwoChanges.{follows-both}
pub use Rattle.lot_value.proofs.Unchanged.{Stays, stays-again, stays-amount, stays-currencies, stays-destroy, stays-issue}
