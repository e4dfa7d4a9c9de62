-- The names and the lemmas that the proofs of this crate's functions cite, passed on from one place. Declares nothing.
pub use Rattle.lot_command.proofs.Common.{HasCome, IfOk, Ok, Played, Run, Show, Showing, Warnings, ap, program_in, refl, result_ok, seeded, subst, sym, text_of, ◌∙◌, ◌≡◌}
pub use Rattle.lot_command.proofs.GivenSeeds.{refused-shown}
pub use Rattle.lot_command.proofs.Statuses.{come-of, if-ok, on-any, played-stops, refused-stops, showing-is, status-for}
