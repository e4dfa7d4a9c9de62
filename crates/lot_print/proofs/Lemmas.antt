-- The names and the lemmas that the proofs of this crate's functions cite, passed on from one place. Declares nothing.
pub use Rattle.lot_print.proofs.Common.{ActorRun, Err, List, Written, ap, append_assoc, arith, behind_point, codes, decimal, decimal_digit, drop, eqb-false, fault_line, flat_map, front, input_refusal_code, input_refusal_name, length, ne_eqb, newline, plain_text, refl, refused, rules, run_text, runs_in, runs_line, runs_lines, schedule_line, schedule_lines, subst, sym, take, take_rest, ℕ, [], ◌%◌, ◌++◌, ◌+◌, ◌-◌, ◌/◌, ◌<◌, ◌∙◌, ◌∷◌, ◌≡◌, ◌≢◌}
pub use Rattle.lot_print.proofs.GroupLemmas.{runs_lines-first, schedule_lines-first}
pub use Rattle.lot_print.proofs.PageFacts.{put-stop}
pub use Rattle.lot_print.proofs.Pairs.{PAIRS_at, last_pair, last_pairs, parts}
pub use Rattle.lot_print.proofs.RunLemmas.{run_texts-first, runs_in-some}
pub use Rattle.lot_print.proofs.WritingFacts.{line-is, parts-more, parts-stop}
