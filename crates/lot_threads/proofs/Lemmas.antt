-- The names and the lemmas that the proofs of this crate's functions cite, passed on from one place. Declares nothing.
pub use Rattle.lot_threads.proofs.Common.{AreOf, Bool, CanApply, CanLend, CanRun, Competitor, Contains, Funding, HasEquation, HasTicks, IsActive, IsBelowQuantum, IsBetween, IsCycle, IsFunding, IsThreadOf, IsTimely, IsTrue, Known, Lend, LimitedFunding, List, None, Option, Queued, Reaches, Record, Running, Some, Status, Thread, Threaded, Valued, active_amount, ap, arith, at_number, at_number-map, counted_up, drawn_among, edges_into_all, eq-eqb, eqb-true, false, funding_in, is_funding, is_live_status, lend_of, lends_in, length, length-map, limited_in, live_in, newborn, node_value, number-read, option_any, option_map, ready-drawn, refl, runner_at, set_number, sizes_of, status_of, subst, sym, thread_value, ticket_at, ticket_value, true, with_lends, with_runner, without_runner, ℕ, [], ◌++◌, ◌+◌, ◌-◌, ◌<◌, ◌↔◌, ◌∙◌, ◌∷◌, ◌≡◌}
pub use Rattle.lot_threads.proofs.Adding.{added-of, made-stale, number-made}
pub use Rattle.lot_threads.proofs.Applying.{reached-then, room-then, together-then}
pub use Rattle.lot_threads.proofs.Running.{found-record, only-runner, run-used, runner-found, runner-runs, runner-within}
pub use Rattle.lot_threads.proofs.Together.{changed-of, drawn-of, graph-is, lend-same, opened-of, settled-of, stale-of}
