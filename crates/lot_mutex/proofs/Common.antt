-- The names that this crate's proofs cite, passed on from one place. Declares nothing.
pub use Rattle.std.proofs.Common.{All, Bool, Contains, IsTrue, List, MatchOption, None, Option, Some, ap, append_assoc, arith, cond, drop, eqb, false, filter_map, if◌then◌else◌, inl, inr, is_some, length, length-set, map, option_map, refl, remove, rules, slice_get, slice_index, slice_set, subst, suc, sum, sum_by, sym, take, true, unwrap_or, zero, ℕ, [], ◌%◌, ◌++◌, ◌+◌, ◌-◌, ◌<◌, ◌==◌, ◌^◌, ◌∙◌, ◌∷◌, ◌≡◌, ◌≢◌, ◌≤◌, ◌⊎◌}
pub use Rattle.std.proofs.lemmas.List.{append-nil, length-append, length-map, map-append, map-set}
pub use Rattle.std.proofs.lemmas.List.Elements.{filter_map-append}
pub use Rattle.std.specs.Option.{IfSome, option_eq, option_flatten}
pub use Rattle.lot_machine.proofs.Common.{Funding, IsFirstAbove, IsLive, IsQueue, IsTouched, PathLeads, WeighedBetween, at_number, borrower_of, cases_eq, cases_lt, cons_option, eq-eqb, eq-or-lt_of_le, eqb-false, eqb-true, get_or_from_slice_get, is_live, is_owned_by, is_to_mutex, mutex_value, numbers, option_any, owner_of, passed_on, released, set-append_seam, set_number, slice_get-get_or, slice_get_within, sum-map, sum_by-cons, waiters_for, weighed_of, winner}
pub use Rattle.lot_machine.proofs.Draws.{winner-is}
pub use Rattle.lot_machine.proofs.EachOnce.{apart-from, contains-at, contains-nothing, filter-contains, place-in, range-contains, sums-within}
pub use Rattle.lot_machine.proofs.Killed.{each-append, each-between}
pub use Rattle.lot_machine.proofs.Queues.{number-set_same, status-now, status-other}
pub use Rattle.lot_machine.proofs.StepSizes.{each-length}
pub use Rattle.lot_machine.proofs.TrapCycles.{at_number-map, lend-at}
pub use Rattle.lot_machine.proofs.Unlent.{lends-to-nobody, unlent-nothing}
pub use Rattle.lot_machine.specs.Mutexes.{MutexTrap, lock, mutex_at, unlock}
pub use Rattle.lot_machine.specs.State.{Mutex, change_each, change_record, is_live_status, lend_of, live_in, status_of}
pub use Rattle.lot_machine.specs.declared.after.After.TheVariants.{Leaves}
pub use Rattle.lot_machine.specs.declared.drawn.Drawn.{Drawn}
pub use Rattle.lot_machine.specs.declared.reply.Outcome.{Outcome}
pub use Rattle.lot_machine.specs.declared.reply.Outcome.TheVariants.{Freed, Passed}
pub use Rattle.lot_queues.proofs.Callers.{first-none, first-some, mutex-passed, number-again}
pub use Rattle.lot_queues.specs.QueueLists.{IsNowhere, IsThere, QueueLists, with_owner, with_waiters}
pub use Rattle.lot_graph.proofs.Common.{IsMutex, LimitedFunding, Thread}
pub use Rattle.lot_value.specs.Changing.{CanOwn}
pub use Rattle.lot_value.specs.declared.meter.Meter.{Meter}
pub use Rattle.lot_threads.proofs.Common.{Edge, Lend, Nobody, Node, OfLender, OfMutex, OfTicket, Ready, Record, Status, ToMutex, Waiting, at_number-suc, edges-between, live-between, number-kept, number-set, number-some, some-injective}
pub use Rattle.lot_threads.proofs.TwoChanges.{IsOwnerBetween, makes-both-in, makes-each}
pub use Rattle.lot_threads.proofs.Ways.{live-apart, live-other, live-status, live-there, number-high, number-low}
pub use Rattle.lot_threads.specs.Threaded.{IsLiveIn, IsStaleIn, IsThreadOf, MakesStaleIn, Threaded, funding_in, lends_in, settled_in, with_records, worth_in}
pub use Rattle.lot_mutex.specs.Listed.{IsMutexTrap, Listed, next_from, owners_of, passed_from, with_mutexes}
