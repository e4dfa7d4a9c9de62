-- The names and the lemmas that the proofs of this crate's functions cite, passed on from one place. Declares nothing.
pub use Rattle.lot_program.proofs.Common.{All-push, All-same, Command, IfOk-from_err, IsCommandIn, List, ap, command_in, err_from_is_err_and, map, sym, [], ◌++◌, ◌∙◌, ◌∷◌}
pub use Rattle.lot_program.proofs.PackedLemmas.{commands-added, commands-in, commands-kept}
