-- The names and the lemmas that the proofs of this crate's functions cite, passed on from one place. Declares nothing.
pub use Rattle.lot_explain.proofs.Common.{Answered, Begins, Err, Event, IfSome, IsExplained, IsPut, Option, Program, Put, Reply, Seen, Some, Won, World, ap, append-nil, arith, begins-front, codes, decimal, ends-well, entrants_in, err-is, explained_made, explained_turns, fails-first, fails-last, flat_map, front, funding_at, funding_in, funding_lines, last_report, length, loan_line, loan_of, lot_diagnostics, lot_if_ready, lots_of, number_in, number_of, numbers, program_turns, put-err, put-ok, put-written, range_with_len, refl, reply_text, rules, subst, sym, system_turn, total_of, won_in, won_lines, world_of, ℕ, ◌++◌, ◌+◌, ◌∙◌, ◌∷◌, ◌≡◌}
pub use Rattle.lot_explain.proofs.EventFacts.{event-given}
pub use Rattle.lot_explain.proofs.FundingFacts.{funding-timed}
pub use Rattle.lot_explain.proofs.GatheringFacts.{each-more, ready-lots}
pub use Rattle.lot_explain.proofs.LineFacts.{first-more, lines-both, lines-more, lines-stop, texts-more, texts-stop}
pub use Rattle.lot_explain.proofs.MadeTexts.{program-texts}
pub use Rattle.lot_explain.proofs.RowFacts.{idle-other}
pub use Rattle.lot_explain.proofs.TurnFacts.{answered-text, begins-first, ended-text, just-explained, put-then, total-is}
pub use Rattle.lot_explain.proofs.WonFacts.{IsOnly, turn-won}
