-- The names and the lemmas that the proofs of this crate's functions cite, passed on from one place. Declares nothing.
pub use Rattle.lot_mutex.proofs.Common.{All, Contains, Drawn, Freed, IfSome, IsLiveIn, IsMutexTrap, IsStaleIn, IsThreadOf, LimitedFunding, List, Listed, MakesStaleIn, Meter, Mutex, None, Option, Passed, QueueLists, Record, Some, Thread, Threaded, ap, arith, at_number, change_record, funding_in, length, live-apart, live-other, live-status, live-there, map, mutex-passed, mutex_at, option_flatten, owner_of, refl, remove, rules, set_number, slice_get, slice_get-get_or, slice_index, status-now, status-other, status_of, subst, suc, sum, sym, take, unlock, winner, with_owner, worth_in, ℕ, [], ◌+◌, ◌<◌, ◌^◌, ◌∙◌, ◌≡◌, ◌≢◌}
pub use Rattle.lot_mutex.proofs.Owners.{free-owner, lock-takes, lock-waits, owned-there, owner-at, owners-after, owners-same, passing, place-below, place_of, unlock-passes}
pub use Rattle.lot_mutex.proofs.PassedOn.{first-passed, owner-differs, owner-same, still-counted, turn-apart, turn-mine, turn-other}
pub use Rattle.lot_mutex.proofs.Passing.{live-same, next-owner, pass-threads, passed, passes-stale, settled-makes}
pub use Rattle.lot_mutex.proofs.Waiting.{queue-from, up-to}
pub use Rattle.lot_mutex.proofs.Worths.{drawn-small, none-wins, settled-fresh, waiters-there, worths-little}
