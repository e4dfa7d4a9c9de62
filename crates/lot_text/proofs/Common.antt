-- The names that this crate's proofs cite, passed on from one place. Declares nothing.
pub use Rattle.std.proofs.Common.{Bool, Err, List, None, Ok, Option, Result, Some, ap, append-nil, arith, cond, drop, drop-cons, eq-zero-or-pos, false, filter, get_or, if◌then◌else◌, inl, inr, le-leb, length, length-append, lt-ltb, map, max, min, nat_le, not, refl, replicate, rules, subst, suc, sym, take, tests, true, unwrap_or, zero, ℕ, [], ◌%◌, ◌&&◌, ◌*◌, ◌++◌, ◌+◌, ◌-◌, ◌<◌, ◌==◌, ◌^◌, ◌||◌, ◌↔◌, ◌∙◌, ◌∷◌, ◌≡◌, ◌≢◌, ◌≤◌}
pub use Rattle.std.proofs.lemmas.Bool.{and_parts, eq-eqb, eqb-false, eqb-true, false≢true, le-ltb, leb-false, lt-leb, not-false, not-true, or_parts, true≢false}
pub use Rattle.std.proofs.lemmas.Bool.Decides.{nat_tests}
pub use Rattle.std.proofs.lemmas.Grind.{common_steps, div_ceil_times}
pub use Rattle.std.proofs.lemmas.Iterator.{YieldsList-from_slice}
pub use Rattle.std.proofs.lemmas.Iterator.Consumers.{count_from_yields_List}
pub use Rattle.std.proofs.lemmas.Iterator.Search.{YieldsList-from_take_while}
pub use Rattle.std.proofs.lemmas.List.{append_assoc, drop_all, drop_min, length-drop, length-map, length-take, take_all, take_more, take_rest}
pub use Rattle.std.proofs.lemmas.List.Concat.{flat_map-append}
pub use Rattle.std.proofs.lemmas.List.Elements.{All-append, All-head, All-nil, All-push, All-replicate, All-same, All-tail}
pub use Rattle.std.proofs.lemmas.List.Folds.{length-prefix_len}
pub use Rattle.std.proofs.lemmas.List.FromFn.{map-range_with_len_more}
pub use Rattle.std.proofs.lemmas.List.Sums.{prefix_len-le-length, prefix_len_passes, prefix_len_stops}
pub use Rattle.std.specs.Char.{digit_value}
pub use Rattle.std.specs.List.{onto_first, prefix_len, range_with_len, slice_split}
pub use Rattle.std.specs.Prelude.{All, IsErr, IsErrAnd, IsTrue, MatchResult, OnOk, codes, is_some, nat_lt, position, sum_by}
pub use Rattle.std.specs.Str.Parse.{digits_value, digits_value_after}
pub use Rattle.std.specs.Vec.{vec_len}
pub use Rattle.memchr.specs.Find.{IsFirstByte, is_byte}
pub use Rattle.lot_machine.proofs.Common.{bytes_eq, then_some}
pub use Rattle.lot_machine.specs.Lottery.{mixed_seed}
pub use Rattle.lot_machine.specs.Commands.{command_from, form}
pub use Rattle.lot_machine.specs.declared.arguments.Slot.{Slot}
pub use Rattle.lot_machine.specs.Arguments.{Value}
pub use Rattle.lot_machine.specs.declared.command.Verb.{Verb}
pub use Rattle.lot_simulation.proofs.ActorRuns.{length-actors_of}
pub use Rattle.lot_simulation.proofs.Common.{IsNonDecreasing, Sizes}
pub use Rattle.lot_simulation.specs.Grammar.{ActorRun, actors_of, add_made, add_named, add_naming, add_runs, body_after_header, command_line, header_in_order, header_line, is_after_seed, is_alone, is_given, is_late, name_at_end, name_in, numbered, phrase_inside, phrases_inside, phrases_of, program_in, read_line, read_lines, refused_on, run_of, script_line, script_names, stands_alone, values_from, whole_program, with_header_word, without_line}
pub use Rattle.lot_simulation.specs.Lines.{is_comment, is_ignored, is_printable, lines_of, separates, tokens_of, with_first_byte, without_end}
pub use Rattle.lot_simulation.specs.Reading.{NamedScript, OpenScript, Reading, actor_below, checked, each, each_pair, new_name, number_between, number_named, ◌>>=◌}
pub use Rattle.lot_simulation.specs.Words.{body_place, header_place, timed_script_words, word_in}
pub use Rattle.lot_simulation.specs.declared.input.HeaderWord.{HeaderWord}
pub use Rattle.lot_simulation.specs.declared.input.InputFault.{InputFault}
pub use Rattle.lot_simulation.specs.declared.input.InputRefusal.{InputRefusal}
pub use Rattle.lot_simulation.specs.declared.input.InputRefusal.TheVariants.{BadHeader, BadLine, TooLong}
pub use Rattle.lot_simulation.specs.declared.input.ScriptWord.{ScriptWord}
pub use Rattle.lot_simulation.specs.declared.separators.Separators.{Separators}
pub use Rattle.lot_simulation.specs.declared.separators.Separators.TheVariants.{Blanks, Spaces}
pub use Rattle.lot_program.proofs.Common.{AreSeeds, Command, IsBetween, IsSeed}
pub use Rattle.lot_program.proofs.SeedLemmas.{AreSeeds-own, range_with_len-push}
pub use Rattle.lot_text.specs.Alone.{new_name_alone}
pub use Rattle.lot_text.specs.Faults.{Fails, Gives, IsFaultOf, fault_on}
pub use Rattle.lot_text.specs.Numbers.{within_64_bits}
pub use Rattle.lot_text.specs.ReadingFields.{reading_of}
pub use Rattle.lot_text.specs.Readings.{IsReading, after_header, argument_count, pairs_added, phrase_at}
pub use Rattle.lot_text.specs.Tokens.{words_of}
pub use Rattle.lot_text.specs.declared.fault.LineFault.{LineFault}
pub use Rattle.lot_text.specs.declared.fault.LineFault.TheVariants.{Memory, Refused}
