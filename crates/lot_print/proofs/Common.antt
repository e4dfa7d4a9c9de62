-- The names that this crate's proofs cite, passed on from one place. Declares nothing.
pub use Rattle.std.proofs.Common.{Bool, Err, List, None, Ok, Option, Result, Some, T, ap, append-nil, append_assoc, arith, codes, drop, eq-zero-or-pos, eqb, eqb→eq, false, filter, get_or, if◌then◌else◌, inl, inr, le-leb, length, length-append, map, min, ne_eqb, not, refl, rules, slice_index, subst, suc, sym, take, tests, true, zero, ℕ, [], ◌%◌, ◌&&◌, ◌*◌, ◌++◌, ◌+◌, ◌-◌, ◌/◌, ◌<◌, ◌==◌, ◌^◌, ◌||◌, ◌∙◌, ◌∷◌, ◌≡◌, ◌≢◌, ◌≤◌}
pub use Rattle.std.proofs.Math.Seq.{take-append_seam}
pub use Rattle.std.proofs.lemmas.Fmt.{decimal_digit, decimal_is_IsNumeral, first_decimal, length-decimal-le}
pub use Rattle.std.proofs.lemmas.Grind.{flat_map-append}
pub use Rattle.std.proofs.lemmas.Iterator.{YieldsList-from_slice}
pub use Rattle.std.proofs.lemmas.Iterator.Consumers.{count_from_yields_List}
pub use Rattle.std.proofs.lemmas.Iterator.Search.{YieldsList-from_take_while}
pub use Rattle.std.proofs.lemmas.List.{drop-drop, drop_min, length-drop, length-take, take-append-drop, take_min, take_rest}
pub use Rattle.std.proofs.lemmas.List.Folds.{length-prefix_len}
pub use Rattle.std.proofs.lemmas.Str.Parse.{digit_from_value}
pub use Rattle.std.specs.Char.{is_ascii_digit}
pub use Rattle.std.specs.Fmt.{decimal}
pub use Rattle.std.specs.Io.KnownBytes.{Appends}
pub use Rattle.std.specs.List.{flat_map, list_all, prefix_len, slice_split}
pub use Rattle.std.specs.Prelude.{All, IsTrue, nat_le, nat_lt, sum_by, ⊤}
pub use Rattle.std.specs.Str.Parse.{AllDigits, digits_value}
pub use Rattle.itoa.proofs.Decimal.{decimal_four, decimal_pair, decimal_two, pair}
pub use lib.Ieee.Fits.{and_l, and_r}
pub use Rattle.lot_machine.proofs.Common.{All-head, All-tail, eqb-false, eqb-true, le-ltb, lt-ltb}
pub use Rattle.lot_simulation.proofs.ActorRuns.{length-actors_of}
pub use Rattle.lot_simulation.specs.Grammar.{ActorRun, actors_of, body_after_header, read_line, read_lines, run_of}
pub use Rattle.lot_simulation.specs.Lines.{is_comment, is_printable, lines_of, number_of, tokens_of, without_end}
pub use Rattle.lot_simulation.specs.Reading.{Reading, actor_below, each, each_pair, ◌>>=◌}
pub use Rattle.lot_simulation.specs.Report.{actor_text, groups_after, groups_of, history_lines, run_before, run_text, runs_in, runs_line, runs_lines, schedule_line, schedule_lines, with_first}
pub use Rattle.lot_simulation.specs.Texts.{behind_point, fault_line, front, input_refusal_code, input_refusal_name, newline, plain_text, refused}
pub use Rattle.lot_simulation.specs.Words.{body_place, body_words, header_words, word_in}
pub use Rattle.lot_simulation.specs.declared.input.BodyWord.{BodyWord}
pub use Rattle.lot_simulation.specs.declared.input.InputRefusal.{InputRefusal}
pub use Rattle.lot_simulation.specs.declared.separators.Separators.TheVariants.{Spaces}
pub use Rattle.lot_io.proofs.WritingFacts.{appends-both, begins-after, begins-front, writes-after}
pub use Rattle.lot_io.specs.Writing.{Begins, IsPut, Written}
pub use Rattle.lot_print.specs.Readback.{HasRoom, IsReadAs}
pub use Rattle.lot_print.specs.declared.line.TheConstants.{PAIRS}
