-- The names that this crate's proofs cite, passed on from one place. Declares nothing.
pub use Rattle.std.proofs.Common.{All, List, ap, append_assoc, arith, drop, length, length-append, map, refl, rules, slice_index_or, subst, suc, sym, take, zero, ℕ, [], ◌%◌, ◌*◌, ◌++◌, ◌+◌, ◌-◌, ◌<◌, ◌∙◌, ◌∷◌, ◌≡◌, ◌≤◌}
pub use Rattle.std.proofs.Math.Seq.{drop-append_seam, take-append_seam}
pub use Rattle.std.proofs.lemmas.List.{append-nil, drop-append-le, length-drop, length-map, map-append, take-append-le, take_all, take_more}
pub use Rattle.std.proofs.lemmas.List.Elements.{All-append, All-push, All-replicate, All-same, All-tail}
pub use Rattle.std.proofs.lemmas.List.FromFn.{get_or-range_with_len, length-range_with_len}
pub use Rattle.std.proofs.lemmas.Result.{IfOk-from_err, err_from_is_err_and}
pub use Rattle.lot_simulation.proofs.Common.{Command, IsBetween, Program, range_with_len}
pub use Rattle.lot_simulation.specs.Script.{without_sleep}
pub use Rattle.lot_simulation.specs.Seeded.{seeds_from}
pub use Rattle.lot_program.specs.Packed.{Extends, IsCommandIn, command_in}
pub use Rattle.lot_program.specs.Parts.{AreSeeds}
pub use Rattle.lot_program.specs.Programs.{IsSeed}
pub use Rattle.lot_program.specs.declared.packed.PackedCommand.{PackedCommand}
