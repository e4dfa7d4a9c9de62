-- The names and the lemmas that the proofs of this crate's functions cite, passed on from one place. Declares nothing.
pub use Rattle.lot_c.proofs.Common.{B, Body, Bool, Clauses, Counts, D, Env, Fml, Fun, GName, Goes-dropped, Goes-ref, Goes-spent_ref, Good, Item, List, Logic, Memory, MutBor, MutRef, None, P, Part, RawPtr-copy, RawPtr-field, Reply, Routine, SProp, Slot, Some, Some-of, State, Stays, Tables, Ura, Val, WpFn, WpFn-mono, addr, after, agg, alloc_all, and_then, and_tt, ap, arith, assign, at_ret, await, bin, block_ptr, blocks, box_in, box_out, box_owns, box_typed, branches, by, cell_at, closes, copy, copy_shared, done, drop, emp, ends_at, ent, enter, entered, env, exec, fact, false, fbor, feq_i, first, fjoin, fjoin3, fld, flft, fobs, follows, fpack, frame, free_all, fsep, fsplit, fsplit3, ftrue, full_share, get, get_in, ghosts, group, handle_shares, handle_tells, heard, id⊢, is_none, join, keep, later, layout, lends_Part, length, length-set, lit, lit<, live, load, lone, look_at, look_in, mem, move, mut_Tells, mut_ref_to, mut_vals, named, no, no_more, none_of, nothing, null_ptr, of_Lends, of_opd, opens, owns, part_at, pass_all, pick, place, plain, plain_reply, qed, raw, refl, return, returns, rewrite, rv_opd, says, sem, sep, seq, sets, sets_last, some, split, state_after, stay_dropped, stay_ref, step, step-limits, stop, sub, subst, suffices, sym, tables, tests_null, through, triple_of, true, type_at, use0, use1, vbool, vcons, vnil, vptr, walk_Meets, walk_of, walked, whole, with_kernel, word, yes, ℕ, !, [], ‵, ◌$◌, ◌++◌, ◌<◌, ◌∙◌, ◌∵◌, ◌∷◌, ◌≡◌, ◌⊛◌}
pub use Rattle.lot_c.proofs.Handles.{E, FromParts-row, handle_in, handle_out, held, is-filled, null_typed, null_word}
pub use Rattle.lot_c.proofs.Runs.{done-more, fault-more, meant-more, written-step}
pub use Rattle.lot_c.proofs.Shared.{Lends-loan, handle-shares_laws}
