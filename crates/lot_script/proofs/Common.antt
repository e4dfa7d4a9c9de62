-- The names that this crate's proofs cite, passed on from one place. Declares nothing.
pub use Rattle.std.proofs.Common.{All, Bool, List, None, Option, Some, ap, append_assoc, arith, cond, drop, false, fold, get_or, inl, inr, le-ltb, length, length-append, length-drop, lt-ltb, map, min, option_and_then, refl, replicate, rules, subst, suc, sym, take, take_all, true, zero, ℕ, [], ◌%◌, ◌++◌, ◌+◌, ◌-◌, ◌<◌, ◌∙◌, ◌∷◌, ◌≡◌, ◌≢◌, ◌≤◌, ◌⊎◌}
pub use Rattle.std.proofs.Math.Seq.{take-add}
pub use Rattle.std.proofs.lemmas.Grind.{common_steps}
pub use Rattle.std.proofs.lemmas.List.{drop-append-le, drop-drop, drop-replicate, drop_all, length-map, length-replicate, length-reverse, reverse-append, reverse-reverse, take-append-drop, take-append-le, take-replicate}
pub use Rattle.std.proofs.lemmas.List.Elements.{All-append, All-cons, All-head, All-nil, All-tail}
pub use Rattle.std.proofs.lemmas.List.Sums.{fold-append}
pub use Rattle.std.proofs.lemmas.Slice.Eq.{slice_eq-Decides}
pub use Rattle.std.specs.Bool.{Decides}
pub use Rattle.std.specs.List.{prefix_len, repeat}
pub use Rattle.std.specs.Prelude.{IsTrue, nat_lt, reverse, slice_get, ⊤}
pub use Rattle.lot_machine.proofs.Common.{cases_lt, get_or_from_slice_get, slice_get-get_or, slice_get_read, slice_get_within}
pub use Rattle.lot_simulation.specs.Script.{Item, Pieces, accumulated, first_of_list, is_mark, items_of, pieces, rest_after, slice, trap_of, unrolled, without_sleep}
pub use Rattle.lot_simulation.specs.Script.Item.{Add, Set, Traps, Work}
pub use Rattle.lot_simulation.specs.declared.script.ScriptLine.{ScriptLine}
pub use Rattle.lot_machine.specs.Actions.{ScriptTrap}
pub use Rattle.lot_machine.specs.declared.trap.Trap.TheVariants.{Exit, Sleep}
pub use Rattle.lot_script.specs.Drafts.{CanNest, Draft, IsDraft, IsLine, IsScript, Nests, loops_after, open_count, pushed}
pub use Rattle.lot_script.specs.Places.{AreCopies, CanBeDone, Fits, IsCopy, IsRestOf, MakesTrap, Passes, Place, Stands, after_end, context_at, first_place, left_of, open_after, open_after_lines, open_at, rest_at}
pub use Rattle.lot_script.specs.contracts.open_loops.OpenLoopPartialEq.TheImpl.{eq-value}
pub use Rattle.lot_script.specs.declared.open_loops.OpenLoop.{OpenLoop}
