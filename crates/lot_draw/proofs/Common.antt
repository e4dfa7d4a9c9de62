-- The names that this crate's proofs cite, passed on from one place. Declares nothing.
pub use Rattle.std.proofs.Common.{All, Bool, Contains, IfSome, IsSome, List, MatchOption, None, Option, Some, add-one, add_comm, ap, arith, cond, drop, false, filter, get_or, get_or-set_other, inl, inr, is_some, length, length-set, map, nat_lt, option_and_then, option_map, refl, remove, replicate, rules, set, slice_get, subst, suc, sum, sym, true, zero, ℕ, [], ◌%◌, ◌++◌, ◌+◌, ◌-◌, ◌<◌, ◌==◌, ◌^◌, ◌↔◌, ◌∙◌, ◌∷◌, ◌≡◌, ◌≤◌, ◌⊎◌}
pub use Rattle.std.proofs.lemmas.List.Elements.{All-set, Contains-append_left, Contains-append_right, Contains-push_cases}
pub use Rattle.std.proofs.lemmas.List.Sums.{sum_by-cons, sum_by-le}
pub use Rattle.lot_machine.proofs.Common.{cases_eq, cases_lt, eqb-false, eqb-true, is_ready, ltb-false, ltb-true, mod-lt, ready_threads, status_of, thread_value, value_of}
pub use Rattle.lot_machine.proofs.EachOnce.{contains-at, contains-filter, contains-nothing, still-left}
pub use Rattle.lot_machine.specs.Bounds.{IsBetween}
pub use Rattle.lot_machine.specs.Lottery.{first_above, mixed_seed, running_sums, weight, winner}
pub use Rattle.lot_machine.specs.declared.record.Record.{Record}
pub use Rattle.lot_lists.proofs.Common.{get_or-range_with_len, get_or-replicate, length-map, length-replicate, slice_get-get_or, slice_get_past, slice_get_read}
pub use Rattle.lot_value.proofs.Common.{Currency, IsFree, IsNodeWithin, IsOnce, IsStale, IsThread, Known, Layout, LimitedFunding, Mutex, Node, Settles, Thread, Valued, at_number, at_number-suc, counted_up, edge_count_into, edges_into_all, get_or-set_at, layout_of, node_place, nodes_of, number-set, numbers, option_any, option_flatten, range_with_len, set_number, value_in}
pub use Rattle.lot_value.proofs.Listed.{pushed-is}
pub use Rattle.lot_value.proofs.Nodes.{node-within}
pub use Rattle.lot_value.proofs.Settled.{settle-more}
pub use Rattle.lot_value.proofs.Spreading.{found-free}
pub use Rattle.lot_tree.specs.Visits.{CountsReads}
pub use Rattle.lot_draw.specs.Competing.{AreReady, competing_threads, competitor_at, competitor_of, drawn_among, weight_among, weight_with, winner_among}
pub use Rattle.lot_draw.specs.Queued.{AreWeights, CompetesIn, IsSettled, Queued}
pub use Rattle.lot_draw.specs.declared.competing.Competitor.{Competitor}
pub use Rattle.lot_draw.specs.declared.competing.Winner.{Winner}
