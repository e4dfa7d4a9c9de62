-- The names and the lemmas that the proofs of this crate's functions cite, passed on from one place. Declares nothing.
pub use Rattle.lot_kernel_tests.proofs.Common.{AreWeights, CompetesIn, Currency, HasEachOnce, IsFunding, IsKeptFor, IsTarget, LeadsInto, LimitedFunding, NewCurrency, NewTicket, Nobody, OfLender, OfMutex, OfTicket, PutTicket, Some, Unfunded, Valued, ap, length, refl, rules, subst, sym, target_of, [], ◌++◌, ◌∙◌, ◌≡◌}
pub use Rattle.lot_kernel_tests.proofs.BothLemmas.{ends-lender_is, fund-ends, give-ends, lend-ends, lends-size, none-live, unfund-ends, unlend-ends}
pub use Rattle.lot_kernel_tests.proofs.SumLemmas.{backing-total}
