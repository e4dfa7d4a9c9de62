-- The names that this crate's proofs cite, passed on from one place. Declares nothing.
pub use Rattle.std.proofs.Common.{All, Bool, List, None, Option, Some, ap, append-nil, append_assoc, arith, cond, drop, eq-eqb, false, filter, filter_map, get_or, if◌then◌else◌, inl, inr, is_none, is_some, length, length-append, length-drop, map, nat_le, ne_eqb, not, option_map, refl, replicate, rules, set, slice_get, slice_index, subst, suc, sum_by, sym, take, true, unwrap_or, vec_len, zero, ℕ, [], ◌*◌, ◌++◌, ◌+◌, ◌-◌, ◌/◌, ◌<◌, ◌==◌, ◌^◌, ◌||◌, ◌↔◌, ◌∙◌, ◌∷◌, ◌≡◌, ◌≢◌, ◌≤◌, ◌⊎◌}
pub use Rattle.std.proofs.Math.Nat.{div-le_self, mul-add, mul-div-le, mul-le-mul_right}
pub use Rattle.std.proofs.lemmas.Grind.{common_steps, flat_map-append, get_or-set_at}
pub use Rattle.std.proofs.lemmas.List.{get_or-replicate, get_or-set_other, get_or_default, length-map, length-replicate, length-set, length-take, map-append, map-set}
pub use Rattle.std.proofs.lemmas.List.Sums.{fold_push, get_or-le-sum_by, sum_by-cons, sum_by_push}
pub use Rattle.std.specs.Option.{IfNone, IfSome, IsSome, option_flatten, option_map_or}
pub use Rattle.std.specs.Prelude.{Err, IfOk, IsErr, IsFalse, IsTrue, Ok, Result, count_by, slice_index_or}
pub use Rattle.lot_machine.proofs.Common.{All-head, All-tail, DropCurrency, Funding, IsSound, NewCurrency, State, Step, active_amount, change_record, command_effect, command_refusal, command_step, currency_or_base, currency_value, draw, event_effect, event_refusal, free_currencies, funding_of, is_bad_processor, is_currency, is_live_status, is_ready, lend_of, live_of, live_value, next_place, opening, placed, ready_threads, slice_get_cases, started, status_of, step, stopped, thread_on, thread_there, thread_value, ticket_in, unless_refused, used_there, value_of, weight_of, with_ticks}
pub use Rattle.lot_machine.proofs.Idle.{filter-passes, index-holds, is-ready, there-runs}
pub use Rattle.lot_machine.proofs.Queues.{status-other}
pub use Rattle.lot_machine.proofs.StepChanges.{By, Console, Keeps, by_event, kept, step-leads}
pub use Rattle.lot_machine.proofs.Tickets.{at_number-suc, is_currency-is, some-injective, target-of, ticket_in-suc}
pub use Rattle.lot_machine.specs.declared.record.Status.TheVariants.{Asleep, Dead, Queued, Ready, Receiving, Running, Served, Waiting}
pub use Rattle.lot_simulation.proofs.Common.{ActorTurn, BadProcessor, Moment, NotRunning, TimedTurn, alarms_after, all_due, cases_eq, cases_lt, clock_after_console, clock_of, clocks_after, clocks_after_console, console_due, cost_of, due_first, earliest, flat_map, following, idle_to, is_idle_draw, is_refusal, le-leb, leb-false, leb-true, moment_after, moment_after_all, next_due, opening_moment, processor_due, processors_due, range_with_len, sooner, step-grown, sum-filter, ticks_in, timed_room, timed_turns, timer_due, total_of, turn_due, turns_from, turns_made, within, woken}
pub use Rattle.lot_simulation.proofs.OtherTurns.{event-for, event_for, turn-grows}
pub use Rattle.lot_simulation.proofs.TimedRuns.{due-there, room-small, turns-few}
pub use Rattle.lot_simulation.proofs.TimesRise.{AreLater, Each, alarms-later, each-due, earliest-one, first-due, sleeper-found}
pub use Rattle.lot_simulation.specs.TimedReport.{actor_turns, currency_ticks_after, currency_ticks_from, currency_ticks_in, due_after, due_from, life, life_change, live_part, makes, makes_currency, mutex_change, mutex_wait, no_spans, queued, rate_in, ready_after, ready_in, refusals_after, refusals_in, refused_traps_in, reply_change, reply_wait, span_begun, span_ended, tick_parts, ticks_below, time_from}
pub use Rattle.lot_simulation.specs.World.TurnAnswer.{Answered, Ended}
pub use Rattle.lot_simulation.specs.declared.timed.Clock.{Clock}
pub use Rattle.lot_simulation.specs.declared.timed.Due.{Due}
pub use Rattle.lot_simulation.specs.declared.timed.Sleeper.{Sleeper}
pub use Rattle.lot_simulation.specs.declared.timed.SpanChange.TheVariants.{Anew}
pub use Rattle.lot_simulation.specs.declared.timed.Spans.{Spans}
pub use Rattle.lot_graph.proofs.Common.{FoundNodes, HasFound, number-kept}
pub use Rattle.lot_program.proofs.Common.{drop-append_seam, get_or-range_with_len, length-range_with_len, take-append_seam}
pub use Rattle.lot_engine.proofs.Common.{Command, Drawn, Event, HasLayoutFor, HasPlayed, IsBetween, IsPlayed, IsProgram, IsWithinBounds, Layout, Lend, MakeCurrency, Program, Record, Refusal, RemoveCurrency, Reply, ScriptTrap, Sizes, Slice, Status, Ticket, TurnAnswer, TurnMade, World, action_of, actor_event, all-pass, at_number, at_number-map, console_turn, currency-bounded, event_of_slice, found-runs, is_live, next_name, number_of, numbered, numbers, opening_world, option_any, order-sound, processor_event, processor_turn, resolved, set_number, sleeper_on, slice_on, stands_below, system_after, system_run, system_turn, turn_in, winner, worth_of}
pub use Rattle.lot_engine.proofs.CountFacts.{turns_made-answered}
pub use Rattle.lot_engine.proofs.InOrder.{run-in-order}
pub use Rattle.lot_engine.proofs.PlayingFacts.{played-after, played-more}
pub use Rattle.lot_engine.proofs.Runs.{system_run-one_more}
pub use Rattle.lot_engine.proofs.TurnFacts.{count-console, count-processor}
pub use Rattle.lot_engine.specs.Seen.{Seen, Setting, after_turn, commands_made, world_of}
pub use Rattle.lot_engine.specs.Turns.{IsEnded}
pub use Rattle.lot_playback.specs.Following.{CanFollowTurn, FollowsTurn, HasDuesBefore, IsOpened, IsTold, ToldTurn}
pub use Rattle.lot_playback.specs.InTime.{AreAlarms, AreFew, AreNumbered, AreRefusedTraps, CanFollow, HasDues, HasFollowed, HasRoomFor, HaveCounted, HaveFollowed, HaveIdled, IsAtEnd, IsDue, IsFollowed, IsNextAlarm, alarm_at, alarms_in, change_by, due_turn, is_locking, moment_in, moment_of, next_turns, sooner_of, turns_done}
pub use Rattle.lot_playback.specs.Orders.{IsAtPlace, IsAtTime, made_in}
pub use Rattle.lot_playback.specs.Owed.{Answers, AreDue, AreOwed, AreReadyFor, AreWaiting, HasFew, HaveQueued, HaveQueuedOne, HaveValues, IsDispatch, IsOwed, IsReadyFor, NoneWaitsBeyond, forgotten, is_number, moved_thread, parts_before, state_after, time_after, waits_before}
pub use Rattle.lot_playback.specs.Sharing.{count_in, due_to, makes_one, part_in, shared_ticks, time_shared, value_in, whole_in}
pub use Rattle.lot_playback.specs.Stages.{HasMade, IsNext, MakesTurn, Reports, Stage, answer_in, turns_left}
pub use Rattle.lot_playback.specs.TicksBelow.{AreCurrencies, HasFoundFor, HasOthersAbove, HaveAdded, HaveRun, RanOn}
pub use Rattle.lot_playback.specs.Turns.{MadeTurn, counted_turn, counted_turns, scheduled_turn, scheduled_turns, turn_in_time, turns_by, turns_in_time, world_after_turns}
pub use Rattle.lot_playback.specs.declared.alarms.Alarms.{Alarms}
pub use Rattle.lot_playback.specs.declared.currencies.CurrencyTable.{CurrencyTable}
pub use Rattle.lot_playback.specs.declared.dues.DueTable.{DueTable}
pub use Rattle.lot_playback.specs.declared.dues.Owing.{Owing}
pub use Rattle.lot_playback.specs.declared.playback.Order.{Order}
pub use Rattle.lot_playback.specs.declared.sharers.Sharers.{Sharers}
pub use Rattle.lot_playback.specs.declared.sharers.Sharers.TheVariants.{Currencies, Threads}
pub use Rattle.lot_playback.specs.declared.timekeeper.Timekeeper.{Timekeeper}
pub use Rattle.lot_playback.specs.declared.turn.NextTurn.{NextTurn}
pub use Rattle.lot_playback.specs.declared.turn.Turn.{Turn}
