-- The names and the lemmas that the proofs of this crate's functions cite, passed on from one place. Declares nothing.
pub use Rattle.lot_draw.proofs.Common.{All-set, AreWeights, CompetesIn, CountsReads, IfSome, IsFree, IsNodeWithin, IsOnce, IsSome, IsStale, Known, Layout, LimitedFunding, List, MatchOption, Node, None, Option, Queued, Some, Thread, Valued, Winner, ap, arith, competitor_at, contains-at, counted_up, edge_count_into, found-free, inl, inr, layout_of, length, length-set, node-within, nodes_of, pushed-is, refl, remove, replicate, rules, set, set_number, settle-more, slice_get, subst, sym, thread_value, true, value_in, value_of, weight_among, weight_with, ℕ, [], ◌+◌, ◌<◌, ◌^◌, ◌∙◌, ◌≡◌, ◌⊎◌}
pub use Rattle.lot_draw.proofs.Lotteries.{drawn-is, winner-competes}
pub use Rattle.lot_draw.proofs.Ready.{ready-drawn}
pub use Rattle.lot_draw.proofs.Weighing.{competitor-place, draws, first-none, pushed-contains, same-drawn, still-competes, sum-light, there-at, weights-none, weights-set, weights-settled, weights-stale, weights-weighed}
