-- The names that this crate's proofs cite, passed on from one place. Declares nothing.
pub use Rattle.std.proofs.Common.{All, Bool, Err, IfErr, IfOk, IfSome, List, None, Ok, Option, Result, Some, add-zero, ap, append-nil, append_assoc, arith, cond, count_by, drop, eq-eqb, false, get_or, inl, inr, length, length-append, map, ne_eqb, refl, rules, set, slice_get, subst, suc, sum_by, sym, true, true≢false, vec_capacity, vec_len, zero, ℕ, [], ⊎_elim, ◌++◌, ◌+◌, ◌<◌, ◌==◌, ◌∙◌, ◌∷◌, ◌≡◌, ◌≢◌, ◌≤◌, ◌⊎◌}
pub use Rattle.std.proofs.lemmas.List.Elements.{All-pop}
pub use Rattle.std.proofs.lemmas.List.Recursion.{is_count_by}
pub use Rattle.std.proofs.lemmas.List.Sums.{length-filter, sum_by-append, sum_by-cons, sum_by_push}
pub use Rattle.atomic_table.specs.Seated.{TableId}
pub use Rattle.crossbeam_queue.proofs.Lists.{at_longer, at_set, set_again, set_else}
pub use Rattle.crossbeam_queue.specs.Fifo.{Forks, Learns, Merges, Pops, Pushes}
pub use Rattle.crossbeam_queue.specs.Passes.{IsPassOf, view}
pub use borrow.Author.Count.{below_more}
pub use lib.ListN.{get_elem?}
pub use mathlib.Core.Logic.{dite}
pub use mathlib.Core.Option.{some, some-injective, some-ne-none}
pub use native.Mathlib.Decide.{ℕ_discrete}
pub use Rattle.lot_simulation.proofs.ActorCounts.{counts-add_up, lengths-add_up, turns_made-actors, turns_made-length}
pub use Rattle.lot_simulation.proofs.Common.{ActorTurn, beside, count_in, idles_in, quanta_in, range_with_len, sum-same, ticks_in, total_of, turns_made, turns_of}
pub use Rattle.lot_engine.proofs.Common.{IsErr, IsLegal, Parts, Program, Reply, Seen, Setting, World, after_turn, counted, counted_with, get_or_from_slice_get, if◌then◌else◌, opening_world, slice_get-get_or, slice_get_within, system_after, system_answers, system_turn}
pub use Rattle.lot_engine.proofs.CountFacts.{counted-one_more, counted-own_more}
pub use Rattle.lot_engine.specs.Turns.{Answers, Faults, Goes, IsWorkOf}
pub use Rattle.lot_engine.specs.declared.counts.Counts.{Counts}
pub use Rattle.lot_engine.specs.declared.fault.TurnFault.{TurnFault}
pub use Rattle.lot_engine.specs.declared.turn.Answer.{Answer}
pub use Rattle.lot_station.specs.BatonRule.{AllFit, HoldsSystem, IsClaimOf, Kept, Opened, ViewFits, content}
pub use Rattle.lot_station.specs.BatonSeats.{Baton, Dealt, HasEachSeat, IsSeatOf, Looks, Seat, Shows, Turns, baton, claim_of, seat, seen_in}
pub use Rattle.lot_station.specs.BatonSums.{AddUp, CountsAddUp, share, summed, summed_by}
pub use Rattle.lot_station.specs.BatonViews.{Extends, Next, Sees, SeesAll, StartsWith, all_actors, all_but_first, claim, first_actor, first_only, gave, holding, newcomer, note_of, resting, together, took}
pub use Rattle.lot_station.specs.Holders.{CountsAgree, Holder, InOrder, dealt, with_turn}
pub use Rattle.lot_station.specs.Settings.{AtSome, IsLegalIn, counts_in, times_in, turns_by, turns_in}
pub use Rattle.lot_station.specs.Shares.{IsEnough}
pub use Rattle.lot_station.specs.declared.baton.view.Claim.{Claim}
pub use Rattle.lot_station.specs.declared.baton.view.View.{View}
