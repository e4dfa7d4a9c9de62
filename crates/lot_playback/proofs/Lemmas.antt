-- The names and the lemmas that the proofs of this crate's functions cite, passed on from one place. Declares nothing.
pub use Rattle.lot_playback.proofs.Common.{Answered, Answers, AreAlarms, AreCurrencies, AreDue, AreOwed, Bool, CanFollow, CanFollowTurn, Clock, Currencies, CurrencyTable, Due, DueTable, Event, FollowsTurn, FoundNodes, HasDues, HasDuesBefore, HasFound, HasLayoutFor, HasOthersAbove, HaveAdded, HaveIdled, HaveValues, IfNone, IsAtPlace, IsAtTime, IsBetween, IsDue, IsEnded, IsFalse, IsFollowed, IsNext, IsNextAlarm, IsOwed, IsPlayed, IsSome, IsTold, IsTrue, IsWithinBounds, Layout, List, MadeTurn, MakesTurn, NextTurn, None, Option, Owing, Program, Reply, Seen, Sharers, Sizes, Sleeper, Some, Stage, State, Threads, Timekeeper, ToldTurn, Turn, World, after_turn, alarm_at, alarms_after, alarms_in, answer_in, ap, append-nil, append_assoc, arith, cases_lt, clock_after_console, clock_of, clocks_after, clocks_after_console, console_due, drop, due-there, due_to, due_turn, earliest, false, flat_map, get_or, get_or_default, idle_to, if◌then◌else◌, inl, inr, is_idle_draw, is_none, length, length-replicate, life, life_change, live_part, map, moment_in, moment_of, mutex_change, mutex_wait, next_due, next_turns, not, opening, parts_before, processor_due, processors_due, queued, range_with_len, rate_in, refl, replicate, reply_change, reply_wait, room-small, rules, set, sleeper_on, slice_index, slice_index_or, some-injective, sooner_of, stands_below, status_of, subst, sym, system_turn, take, thread_on, ticks_in, timed_room, timer_due, true, turn_due, turn_in, turns_done, value_in, value_of, vec_len, whole_in, woken, world_of, ℕ, [], ◌++◌, ◌+◌, ◌-◌, ◌<◌, ◌^◌, ◌||◌, ◌↔◌, ◌∙◌, ◌∷◌, ◌≡◌, ◌≤◌, ◌⊎◌}
pub use Rattle.lot_playback.proofs.AlarmFacts.{alarm-due, asleep-there, next-alarm, none-sleeping, sleeper-numbered, sleeper-there}
pub use Rattle.lot_playback.proofs.ClockFacts.{time-due, time-made, time-more, time-next, time-none, time-there}
pub use Rattle.lot_playback.proofs.DueFacts.{HasPassed, HavePassed, HaveTaken, all-queued, beyond-stays, dispatch-none, dispatch-one, dues-changed, dues-kept, few-at, few-forgotten, few-values, few-waits, forget-none, forget-one, forget-value, none-beyond, none-passed, one-passed, one-queued, one-taken, owed-at, owed-then, then_due, waits-more}
pub use Rattle.lot_playback.proofs.FollowFacts.{answer-is, followed-more, full-next, if-ok-none, looked-followed, none-made, none-next, one-next, opened-followed, refusals-more, room-few, turn-answers, within-room, world-more}
pub use Rattle.lot_playback.proofs.MadeFacts.{counted-answered, counted-ended, ended-answer}
pub use Rattle.lot_playback.proofs.PlaceFacts.{place-actor, place-below, place-made, place-more, place-next, place-none, place-room}
pub use Rattle.lot_playback.proofs.RefusedTrapFacts.{traps-more}
pub use Rattle.lot_playback.proofs.TickFacts.{currencies-more, found-for, have-run, one-added, ran-on, runner-there}
pub use Rattle.lot_playback.proofs.TimeFacts.{all-set, all-woken, clock-at, clock-idled, console-idled, earliest-both, earliest-more, idled-longer, none-idled, processor-first, set-all, set-at, set-length, set-more, turned-all, turned-at, turned-length, turned-more}
pub use Rattle.lot_playback.proofs.ValueFacts.{value-more}
pub use Rattle.lot_playback.proofs.WorthFacts.{run-sound}
