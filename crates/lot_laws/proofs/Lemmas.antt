-- The names and the lemmas that the proofs of this crate's functions cite, passed on from one place. Declares nothing.
pub use Rattle.lot_laws.proofs.Common.{BadAmount, BadName, Bool, IsJustBelow, MakeCurrency, MakeFunded, MakeThread, MakeTicket, NameTaken, NoCurrency, NoScript, Option, Some, [], ap, are_currencies_full, are_threads_full, are_tickets_full, arith, command_effect, command_refusal, compensation_of, count_by, count_by-le-length, currency_meant, false, funding_of, inl, inr, is_bad_amount, is_name, is_no_script, is_none, is_some, is_taken, is_thread_name, length, live_of, not, opening, or_cases, place_wins, refl, step, step-order, subst, sum, sym, thread_given, thread_wins, total_weight, true, unwrap_or, value_of, weight, weight_of, ℕ, ◌*◌, ◌<◌, ◌||◌, ◌∙◌, ◌∷◌, ◌≡◌, ◌≢◌, ◌≤◌, ◌⊎◌}
pub use Rattle.lot_laws.proofs.AllDraws.{all-of, binomial-of, first-wins, mean-of, never-of, place-of, spread-of, thread-of}
pub use Rattle.lot_laws.proofs.AmountsKept.{run-insulated}
pub use Rattle.lot_laws.proofs.Compensated.{all-parts, leaves-compensated, weighs-one, weighs-part, weighs-value, yielded}
pub use Rattle.lot_laws.proofs.Conserved.{conserved, few-lost, loses-most}
pub use Rattle.lot_laws.proofs.EachTicket.{reachable-amounts, reachable-order}
pub use Rattle.lot_laws.proofs.FullRefused.{full-exactly}
pub use Rattle.lot_laws.proofs.FullTables.{currencies-full, reachable-tables, threads-full, tickets-full}
pub use Rattle.lot_laws.proofs.Inflated.{fund-local, make-local, set-changes-inside, set-local}
pub use Rattle.lot_laws.proofs.Lending.{comes-alone, worth-nothing}
pub use Rattle.lot_laws.proofs.Losses.{loses-few}
pub use Rattle.lot_laws.proofs.NumbersGiven.{currencies-in-order, currency-free, range-differs, thread-free, threads-in-order, ticket-free, tickets-in-order}
pub use Rattle.lot_laws.proofs.Replied.{caller-keeps, server-returns}
pub use Rattle.lot_laws.proofs.ServingMoves.{own-keeps, server-frees}
pub use Rattle.lot_laws.proofs.Slices.{slices-all, slices-share}
pub use Rattle.lot_laws.proofs.StayOut.{reachable-edges, record-stays, stands-nowhere, stays-removed}
pub use Rattle.lot_laws.proofs.StaysInside.{reachable-run, run-amounts, run-inside, run-tickets, well-formed}
pub use Rattle.lot_laws.proofs.WaitingServer.{owns-nothing}
pub use Rattle.lot_laws.proofs.WholeRounds.{rounds-all, rounds-binomial, rounds-keep, rounds-mean, rounds-never, rounds-ticks, rounds-wins}
pub use Rattle.lot_laws.proofs.ValueInside.{run-within, value-within}
pub use Rattle.lot_laws.proofs.WeightInside.{compensated-within, ticks-within, weight-within}
pub use Rattle.lot_laws.proofs.WinsInside.{wins-weigh}
