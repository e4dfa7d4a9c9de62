-- The names and the lemmas that the proofs of this crate's functions cite, passed on from one place. Declares nothing.
pub use Rattle.lot_system.proofs.Common.{ActorTurn, Appends, AreAllFigures, Begins, Cell, Counts, Err, Event, Figures, HasMade, IsChangedAt, IsInOrder, IsOver, Layout, LineStyle, List, MadeTurn, OnOk, Option, Program, Put, Reply, ReportForm, Reports, Seen, Sizes, Some, Spread, State, Subject, Threads, TimedTurn, Timekeeper, Told, Warnings, Written, [], actor_turns, all_subjects, any_ends_refused, ap, arith, begins-after, begins-front, codes, counted, currency_cells, decimal, drop, early_end, early_text, ended_at, ended_cell, ends_refused, figures_after, figures_in, figures_over, figures_text, first_number, flat_map, front, given_count, if_any, is_there, last_report, length, length-drop, length-map, life_change, listing_line, listing_text, made_cell, made_text, made_texts, moment_in, most_of, mutex_change, number, opening, opening_world, option_map_or, plain_text, played_output, processor_cells, processor_total, program_turns, quiet, range_with_len, refl, reply_change, reply_text, report_text, row_line, rules, seeds_between, share, span_cells, stopped_in, subject_text, subjects_text, subst, sym, thread_cells, thread_row, thread_text, tick_parts, ticks_in, time-end, timed_report_of, timed_table, timed_turns, told_at_end, told_in, told_text, total_cells, total_of, turns_made, turns_of, unwrap_or, wait_cells, with_seed, world-one_more, world_of, writes-after, ℕ, ◌*◌, ◌++◌, ◌+◌, ◌-◌, ◌<◌, ◌||◌, ◌∙◌, ◌∷◌, ◌≡◌}
pub use Rattle.lot_system.proofs.LineFacts.{pages-out, put-err, put-ok, texts-more, texts-stop}
pub use Rattle.lot_system.proofs.ListingFacts.{listed-after, passing-none, passing-there}
pub use Rattle.lot_system.proofs.PlayedFacts.{ends-err, err-is, on-any}
pub use Rattle.lot_system.proofs.RefusedFacts.{all-seeds, any-seed, first-seed, stopped-at-end}
pub use Rattle.lot_system.proofs.SeedFacts.{all-are, all-more, between-first, between-more, due-percent, many-are, of-each, over-at-end, over-none, rows-left, rows-more, seeded-many, spreads-all, spreads-next, told-is}
pub use Rattle.lot_system.proofs.TableFacts.{scheduled-is, timed-is}
pub use Rattle.lot_system.proofs.TextFacts.{played-texts}
pub use Rattle.lot_system.proofs.TimedReportFacts.{currencies-are, dues-are, early-is, early-line, history-short, lives-are, lives-cells, lives-more, mutexes-are, part-is, ready-are, refused-are, replies-are, text-is, ticks-are, traps-are, turns-are, turns-few, waits-are}
pub use Rattle.lot_system.proofs.WritingFacts.{IsPart, part-more, part-stops, put-written, range-more, range-stops}
