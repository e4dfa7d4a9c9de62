-- The names and the lemmas that the proofs of this crate's functions cite, passed on from one place. Declares nothing.
pub use Rattle.lot_script.proofs.Common.{CanNest, Draft, Fits, IsRestOf, IsScript, List, MakesTrap, OpenLoop, Option, Place, ScriptLine, Some, Stands, arith, common_steps, get_or, length, map, open_after, open_at, refl, rest_at, slice_get, slice_get_read, subst, sym, unrolled, without_sleep, ℕ, ◌+◌, ◌<◌, ◌∙◌, ◌≡◌, ◌≤◌}
pub use Rattle.lot_script.proofs.Awake.{awake-script}
pub use Rattle.lot_script.proofs.Copies.{copies-all, copies-as_many, copies-next, copies-there}
pub use Rattle.lot_script.proofs.Fronts.{slice-trap}
pub use Rattle.lot_script.proofs.Nesting.{IsDraft-pushed, count-most}
pub use Rattle.lot_script.proofs.Opened.{nests-there, open_at-next}
pub use Rattle.lot_script.proofs.Passed.{MakesTrap-exit, MakesTrap-line, Passes-then, stands-within}
pub use Rattle.lot_script.proofs.Reached.{rest-there, some-there}
