-- The names that this crate's proofs cite, passed on from one place. Declares nothing.
pub use Rattle.std.proofs.lemmas.List.{length-append, length_push}
pub use Rattle.std.proofs.lemmas.List.Sums.{sum_by-set}
pub use Rattle.lot_machine.proofs.EdgeSums.{currency-sum}
pub use Rattle.lot_lists.proofs.Walks.{met_in_range}
pub use Rattle.lot_graph.specs.Graphs.{HasEachOnce, IsBorrower, IsFunding, IsLender, IsMutex, IsSound, IsTarget, IsThread, LeadsInto, LimitedFunding, edge_amount}
pub use Rattle.lot_active.proofs.Edits.{ends-there, same-ends}
pub use Rattle.lot_value.proofs.Common.{Activity, AddsEdge, Currency, Edge, EdgeEnds, FitsLimits, Funding, IsKeptFor, IsLive, IsSome, IsStale, Lend, Mutex, Nobody, Node, OfLender, OfMutex, OfTicket, Target, Thread, Ticket, ToMutex, ToThread, Unfunded, Valued, at_number, at_number-suc, backing_currency, currencies-kept, disown-edge, edge_between, ends_of_edge, fund-edge, funding-ticket, into-sums, is_some, issue-kept, lend-edge, lend_node, lender-ends, mutex-ends, nodes_of, own-edge, set_number, target-ticket, target_node, target_of, thread-kept, unfund-edge, unlend-edge, with_currencies, with_lends, with_new_ticket, with_owners, with_target, with_tickets}
pub use Rattle.lot_value.specs.declared.change.GraphChange.TheVariants.{NewCurrency, NewTicket, PutTicket}
pub use Rattle.lot_threads.proofs.Common.{AreWeights, CompetesIn, GraphChange, Queued, applied, competes-more, competes-none, funding_in, lends_after, queue-set, weights-follow}
pub use Rattle.lot_kernel.proofs.Common.{Bool, IfNone, List, None, OnSome, Option, Some, ap, arith, false, get_or, length, length-set, not, option_and_then, option_map, refl, rules, subst, suc, sum_by, sym, target-may, true, unwrap_or, zero, ℕ, [], ◌*◌, ◌++◌, ◌+◌, ◌-◌, ◌<◌, ◌^◌, ◌∙◌, ◌∷◌, ◌≡◌, ◌≤◌}
pub use Rattle.lot_kernel_tests.specs.Both.{Agree, Both}
