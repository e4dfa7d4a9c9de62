-- The names that this crate's proofs cite, passed on from one place. Declares nothing.
pub use Rattle.std.specs.Prelude.{IfOk, IfSome, OnOk, is_some, ◌&&◌}
pub use Rattle.std.specs.Result.{result_ok}
pub use Rattle.lot_simulation.specs.Seeded.{seeded, with_seed}
pub use Rattle.lot_io.specs.Reading.{HasRead}
pub use Rattle.lot_engine.specs.Seen.{Setting}
pub use Rattle.lot_system.proofs.Common.{Appends, Begins, any_ends_refused, end_text, ends_refused, fault_line, output_of, seeds_between}
pub use Rattle.lot_system.specs.declared.inputs.Played.TheVariants.{Refused}
pub use Rattle.lot_simulation.specs.declared.warnings.Warnings.{Warnings}
pub use Rattle.lot_explain.specs.Explained.{explained_of}
pub use Rattle.lot_explain.specs.declared.detail.Detail.{Detail}
pub use Rattle.lot_chart.proofs.Common.{Bool, Currency, Err, InputFault, Interval, IoFault, List, Measure, None, Ok, Option, Played, Plays, Program, Result, Some, Thread, Watch, ap, came_of, chart, curves_of, dues_by, false, inl, inr, last_moment, program_in, refl, subst, sym, table, true, ℕ, [], ◌||◌, ◌∙◌, ◌∷◌, ◌≡◌}
pub use Rattle.lot_command.specs.Running.{EndsRun}
pub use Rattle.lot_command.specs.Statuses.{HasCome, IsStatusFor, status_of, status_of_input}
pub use Rattle.lot_command.specs.Views.{ends_refused_in, input_ends_refused, shown_of, text_of, view_ends_refused, view_of}
pub use Rattle.lot_command.specs.declared.command_line.request.Request.{Request}
pub use Rattle.lot_command.specs.declared.command_line.request.Request.TheVariants.{Run, Show}
pub use Rattle.lot_command.specs.declared.command_line.request.Showing.{Showing}
pub use Rattle.lot_command.specs.declared.command_line.request.View.{View}
pub use Rattle.lot_command.specs.declared.exit_status.ExitStatus.{ExitStatus}
pub use Rattle.lot_command.specs.declared.run.InputRunFault.TheVariants.{Play}
