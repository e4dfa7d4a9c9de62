-- The names that this crate's proofs cite, passed on from one place. Declares nothing.
pub use Rattle.std.proofs.BoxSteps.Form.{B, Bx, D, P, R, args, box_ty, box_typed, word, τ}
pub use Rattle.std.proofs.BoxSteps.Steps.{box_in, box_out}
pub use Rattle.std.proofs.Common.{Bool, List, None, Ok, Option, Some, ap, arith, false, find, get_or, inl, inr, is_none, length, map, nat_le, nat_lt, not, refl, set, slice_get, slice_index, subst, suc, sum, sym, take, true, unwrap_or, zero, ℕ, [], ◌&&◌, ◌++◌, ◌+◌, ◌-◌, ◌<◌, ◌==◌, ◌^◌, ◌↔◌, ◌∙◌, ◌∷◌, ◌≡◌, ◌≤◌, ◌⊎◌}
pub use Rattle.std.proofs.GlobalToken.{dealloc_token-Testable}
pub use Rattle.std.proofs.Math.Seq.{take-append_seam}
pub use Rattle.std.proofs.ResultValues.{and_tt}
pub use Rattle.std.proofs.alloc.Calls.{Fits, Goes-blank, handle_tells, token}
pub use Rattle.std.proofs.alloc.Shapes.{after}
pub use Rattle.std.proofs.cell.Inside.{Good}
pub use Rattle.std.proofs.lemmas.List.{append_assoc, drop-set-lt, drop_more, length-map, length-set, take_more_set}
pub use Rattle.std.proofs.lemmas.Nat.{div-add-mod'}
pub use Rattle.std.proofs.option.Made.{Some-of, none_of}
pub use Rattle.std.specs.Box.Ownership.{box_owns}
pub use Rattle.std.specs.contracts.impls.GlobalAllocator.TheImpl.{dict, ghosts}
pub use Rattle.std.specs.declared.alloc.Global.{Global}
pub use base.Fml.{Fml, GName, Lft, Share, fbor, fdead, feq, fex, fhide, flft, fobs, fsep, ftrue, fupd, fwand}
pub use base.Fraction.{full_share}
pub use base.Logic.{SProp, apply∗, emp, ent, fst∗, guard_i, id⊢, never, sep, snd∗, upd_i, via, wand}
pub use base.Shift.{Keyless}
pub use contract.BorrowLft.{meet_⊑_left, ◌⊑◌}
pub use contract.Monad.{Fun, fact, fact_use}
pub use contract.Running.{tables}
pub use denote.Builtin.{RefOf}
pub use denote.Copied.{plain_Copied}
pub use denote.Exit.{Exit, hidden, leaves, no, unchanged, under, yes}
pub use denote.Follow.{Part, follows, lends_Part}
pub use denote.Memory.{cell_at, hidden_shr, lone, mem, part_at}
pub use denote.Moves.{moves_from}
pub use denote.Opens.{hide, unhide}
pub use denote.Param.{bounded, layout}
pub use denote.Param.Send.{AllSend, Common, IsSend, Quiet, owning_send, part_keyless, sendable, struct_send}
pub use denote.Param.Shared.{copy_shared}
pub use denote.RattleType.{RattleType, Valss, owns}
pub use denote.RawPtr.{InBlock, Ptr, RawPtr, Testable, block_of, block_ptr, coded_ptr, count_of, in_a_block, in_block, lies_at, null_ptr, ptr_own, ptr_val, rawptr_pure, tests_null}
pub use denote.Ref.{Bor, MutBor, MutRef, ShrRef, mut_Tells, mut_vals, shr_Tells, shr_vals}
pub use denote.Sharing.{ShrLaws, said}
pub use denote.SharingLaws.{beside_shr_laws, contraction, said_shr_laws}
pub use denote.Signature.{Slot, mut_ref_to, plain, type_at}
pub use denote.Steps.{closes, heard, looks, nothing, only, opens, shuts}
pub use denote.Struct.Field.{RawPtr-field}
pub use denote.Struct.Laws.{RawPtr-copy, RawPtr-laws}
pub use denote.Struct.Lending.{Lends, in_block_says, lent_at, lent_at_shr_laws, lent_out, of_Lends}
pub use denote.Struct.Owning.{fields, shape, to}
pub use denote.Struct.Struct.{Struct, exits_of, within}
pub use denote.Struct.Tuple.{Tuple}
pub use denote.Triple.Call.{calls_at, calls_at_last}
pub use denote.Triple.Clauses.{Clauses, Ended}
pub use denote.Triple.Spec.{triple_of}
pub use denote.Triple.Statement.{Contract, Triple}
pub use denote.Triple.Table.{entered}
pub use denote.Triple.Walked.{Goes-dropped, Goes-ref, Goes-spent_ref, Stays, ends_at, says, stay_dropped, stay_ref, walk_Meets, walk_of, walked}
pub use ghost.Rules.{span, thinned}
pub use lib.Dec.{T, lit<}
pub use mir.MapTy.{inst_fn}
pub use mir.Syntax.{Args, Body, Dict, Fn, a_type, aggregate, assign, copy, dcons, dnil, impl, int, named, place, return, rv_opd, seq, tnil, ty_ptr, w8}
pub use mir.Val.{Val, WT, has_ty, of_list, vbool, vcons, vnil, vptr, vstruct}
pub use prog.Memory.{Memory}
pub use prog.Routine.{Routine}
pub use prog.Wp.{Env, Tables, Wp, WpFn, after_seq, at_return}
pub use seplogic.Ra.Ura.{Ura}
pub use sound.WpLaws.{WpFn-mono, fm_of}
pub use types.ByLocal.{alloc_all, env, free_all, get, get_in, lands_as, lands_last, look_at, pass_all, sets, sets_last, through}
pub use types.Kit.{Goal, Item, Seq, any_q, assume, at_ret, await, by, done, drop, feq_i, feq_l, fjoin, fjoin3, fpack, fpick, frame, fsplit, fsplit3, given, group, join, keep, later, learn, move, now, pick, qed, raw, rewrite, some, split, split3, suffices, updating, use0, use1, use2, !, ‵, ◌$◌, ◌∵◌, ◌⊛◌}
pub use types.Logic.{Logic, lfts, sem}
pub use types.Match.{live}
pub use types.Part.{agg, look_in, sub, whole}
pub use types.Run.{addr, and_then, bin, blocks, branches, enter, exec, first, fld, lit, load, look, no_more, of_opd, returns, stop}
pub use types.Tokens.{bor_fracture, bor_open, obor_alter, one_token}
pub use Rattle.lot_machine.proofs.Common.{QueuedCall, RunsApart, State, at_number, change_record, first_above, is_ready, numbers, option_any, processor_of, ready_threads, running_sums, status_of, thread_in, thread_on, weight_of, winner}
pub use Rattle.lot_machine.proofs.Idle.{filter-passes, is-ready, there-runs}
pub use Rattle.lot_machine.proofs.NamedThreads.{winner-within}
pub use Rattle.lot_machine.proofs.OrderKept.{step-order}
pub use Rattle.lot_machine.proofs.Queues.{status-now, status-set}
pub use Rattle.lot_machine.proofs.RecordsKept.{StopsIfLeaves, found-runs, nobody-runs, numbered}
pub use Rattle.lot_machine.proofs.StepChanges.{checked-leads}
pub use Rattle.lot_machine.proofs.StepSizes.{checked-sizes, step-limits}
pub use Rattle.lot_machine.specs.declared.command.Kind.TheVariants.{Currencies, Threads, Tickets}
pub use Rattle.lot_machine.specs.declared.reply.Reply.{Reply}
pub use Rattle.lot_kernel.proofs.Common.{Action, After, BadProcessor, BadTicks, Call, Drawn, Effect, Ends, Event, Fund, GoesOn, IsInOrder, Kill, Leaves, Lock, MakeCurrency, MakeFunded, MakeThread, MakeTicket, NotRunning, Outcome, Receive, Record, Refusal, RemoveCurrency, RemoveThread, RemoveTicket, Serve, SetTicket, Sizes, Sleep, Snapshot, Status, Step, TrapRefusal, Unfund, Unlock, Yield, after_trap, all-pass, at_number-suc, before_lock, checked_effect, compensation_for, draw, ends_quantum, event_effect, event_refusal, finish_trap, get_or_from_slice_get, is_bad_processor, is_name, is_thread_name, mutex_at, port_at, replies, slice_get_cases, some-injective, started, state_after, step, stopped, thread_there, trap_effect, trap_refusal, unless_refused, used_there, with_ticks}
pub use Rattle.lot_kernel.specs.Counted.{AreDone, Counts, IsDone}
pub use Rattle.lot_kernel.specs.Memory.{bytes_of}
pub use Rattle.lot_c.specs.Calls.{events_meant, fault_or, first_fault, in_front, replies_written, written_by}
pub use Rattle.lot_c.specs.Events.{event_meant}
pub use Rattle.lot_c.specs.Handles.{KernelValue, handle_owns, handle_shares}
pub use Rattle.lot_c.specs.Lending.{with_kernel}
pub use Rattle.lot_c.specs.Names.{name_meant, name_passing, plain_name, spelled, thread_name_meant}
pub use Rattle.lot_c.specs.Numbers.{outcome_number, refusal_number, reply_number, status_number, trap_refusal_number}
pub use Rattle.lot_c.specs.Plain.{HasNames, plain_event}
pub use Rattle.lot_c.specs.Readers.{handle_of, reader_of}
pub use Rattle.lot_c.specs.Replies.{plain_outcome, plain_reply, runs_on, seen_reply}
pub use Rattle.lot_c.specs.Rows.{plain_status}
pub use Rattle.lot_c.specs.Wides.{plain_wide, wide_meant}
pub use Rattle.lot_c.specs.contracts.handle.Handle.{the_row, the_type}
pub use Rattle.lot_c.specs.declared.event.PlainEvent.{PlainEvent}
pub use Rattle.lot_c.specs.declared.reply.PlainReply.{PlainReply}
pub use Rattle.lot_c.specs.declared.rows.PlainStatus.{PlainStatus}
