-- The names that this crate's proofs cite, passed on from one place. Declares nothing.
pub use Rattle.std.proofs.Common.{All, Bool, Contains, IsTrue, List, None, Option, Some, ap, arith, false, if◌then◌else◌, inl, inr, length, length-append, length-set, map, option_and_then, option_map, refl, replicate, rules, slice_get, slice_set, subst, suc, sym, true, zero, ℕ, [], ◌++◌, ◌+◌, ◌-◌, ◌<◌, ◌↔◌, ◌∙◌, ◌∷◌, ◌≡◌, ◌≢◌, ◌≤◌, ◌⊎◌}
pub use Rattle.std.proofs.lemmas.List.Elements.{All-append, All-cons, All-nil, All-set}
pub use Rattle.lot_machine.proofs.Changes.{number-kept, number-push, number-set, number-there}
pub use Rattle.lot_machine.proofs.Common.{IsLive, LendsLead, LendsTo, borrower, cases_eq, eq-eqb, eqb-true, is_funding, length-map, map-append, map-set, newborn, node_value, set-append_seam, thread_value, ticket_value}
pub use Rattle.lot_machine.proofs.Edges.{no-way-back}
pub use Rattle.lot_machine.proofs.RecordsKept.{found-runs, nobody-runs, runs-used_by}
pub use Rattle.lot_machine.proofs.TrapCycles.{at_number-map}
pub use Rattle.lot_machine.specs.State.{is_live_status, lend_of, live_in, sizes_of, status_of, thread_on, used_by}
pub use Rattle.lot_machine.specs.declared.record.Status.{Status}
pub use Rattle.lot_machine.specs.declared.record.Status.TheVariants.{Asleep, Dead, Ready, Receiving, Running, Served, Waiting}
pub use Rattle.lot_machine.specs.declared.record.Thread.{Thread}
pub use Rattle.lot_machine.specs.declared.sizes.Sizes.{Sizes}
pub use Rattle.lot_graph.proofs.WayLemmas.{lead-reaches, lend-edge}
pub use Rattle.lot_value.proofs.Common.{Edge, Funding, FundsThere, HasEquation, HasNoCycle, IsActive, IsBorrower, IsCycle, IsEdge, IsFunding, IsStale, IsThread, IsTouched, IsWay, Known, Lend, LendReaches, LimitedFunding, LiveBetween, MakesStale, Nobody, Node, OfLender, OfMutex, OfTicket, PathLeads, Reaches, Ticket, ToMutex, ToThread, Valued, WeighedBetween, active_amount, at_number, at_number-suc, counted_up, edges-between, edges_into_all, ends_of, lend_node, live-between, number-set_same, number-within, option_any, option_flatten, owner_of, set_number, slice_get_within, some-injective, target_node, ticket_at, weighed_of, with_lends}
pub use Rattle.lot_value.proofs.Lending.{lend-kept, lent_ends, lent_weighed, number-read, number-some}
pub use Rattle.lot_value.proofs.TwoChanges.{makes-both, makes-together}
pub use Rattle.lot_value.specs.Changing.{CanApply, CanLend, StaleBy, applied, lends_after, live_after}
pub use Rattle.lot_value.specs.declared.change.GraphChange.{GraphChange}
pub use Rattle.lot_value.specs.declared.change.GraphChange.TheVariants.{PutThread}
pub use Rattle.lot_draw.proofs.Common.{AreWeights, CompetesIn, IsBetween, Queued, Record}
pub use Rattle.lot_draw.proofs.Ready.{ready-drawn}
pub use Rattle.lot_draw.proofs.Together.{competes-more, competes-none, queue-set, weights-follow}
pub use Rattle.lot_draw.specs.Competing.{AreReady, HasTicks, competitor_at, competitor_of, drawn_among}
pub use Rattle.lot_draw.specs.declared.competing.Competitor.{Competitor}
pub use Rattle.lot_threads.specs.Runners.{AreRunners, runner_at, with_runner, without_runner}
pub use Rattle.lot_threads.specs.Threaded.{AreOf, CanRun, IsLiveIn, IsStaleIn, IsThreadOf, LeavesThreads, MakesStaleIn, Threaded, funding_in, lends_in, limited_in, with_records}
pub use Rattle.lot_threads.specs.Timely.{IsBelowQuantum, IsTimely}
