-- The names and the lemmas that the proofs of this crate's functions cite, passed on from one place. Declares nothing.
pub use Rattle.lot_text.proofs.Common.{ActorRun, All-nil, All-push, All-same, BadHeader, BadLine, Bool, Err, IsSeed, IsTrue, List, Ok, OnOk, OpenScript, Reading, Result, Sizes, Some, actor_below, ap, append-nil, arith, body_after_header, bytes_eq, checked, codes, digits_value, drop, drop_all, eqb-false, eqb-true, false, header_line, if◌then◌else◌, is_ignored, le-leb, length, length-actors_of, length-append, length-map, lines_of, lt-leb, nat_le, not, number_between, reading_of, refl, rules, run_of, script_names, separates, subst, sym, take, take_all, take_rest, true, vec_len, without_line, ℕ, [], ◌+◌, ◌-◌, ◌<◌, ◌∙◌, ◌∷◌, ◌≡◌, ◌≤◌}
pub use Rattle.lot_text.specs.declared.reading.NamedScript.{NamedScript}
pub use Rattle.lot_text.proofs.FaultLemmas.{Fails-then, Gives-fault, Gives-memory, Gives-refusal, Match-memory, Match-refusal, alone-refused, each-later, each-more, each-refused, more-read, none-refused, pair-later, pair-more, pair-refused}
pub use Rattle.lot_text.proofs.FirstLine.{last-line, length-after, lines_of-count, program_in-read, program_in-stops, read_lines-goes_on}
pub use Rattle.lot_text.proofs.HeaderLemmas.{early-above, header-fails, header-read}
pub use Rattle.lot_text.proofs.NameLemmas.{mutex-line, port-line, script-full, script-named, script-refused, ticket-named, ticket-refused}
pub use Rattle.lot_text.proofs.NumberLemmas.{digits_value_after-past, within_64_bits-of}
pub use Rattle.lot_text.proofs.PhraseLemmas.{fewer-tokens, phrase-read, phrases-end, phrases-fail, phrases-go_on}
pub use Rattle.lot_text.proofs.ReadingLemmas.{limits-read, naming-full, naming-read, timed-read, with_schedule, with_timed}
pub use Rattle.lot_text.proofs.RunLemmas.{All-actors_of, actors_of-more, each_pair-none, pairs_added-read, runs_line-none, runs_line-odd, runs_line-pairs, runs_line-without}
pub use Rattle.lot_text.proofs.TokenLemmas.{ignored-next, parts-alone, parts-end, parts-next, tokens_of-words}
