-- The names and the lemmas that the proofs of this crate's functions cite, passed on from one place. Declares nothing.
pub use Rattle.lot_machine.proofs.Common.{Contains, Nobody, arith, refl, []}
pub use Rattle.lot_machine.proofs.Bounded.{values-within, weights-within}
pub use Rattle.lot_machine.proofs.CurrencyFlow.{currency-bounded}
pub use Rattle.lot_machine.proofs.EdgeSums.{edges-many}
pub use Rattle.lot_machine.proofs.EdgesOnce.{into-once, into-sums, kept-shares}
pub use Rattle.lot_machine.proofs.LendsKept.{HasNoCycle-lends, HasNoCycle-lends_more, HasNoCycle-lends_nobody, HasNoCycle-lends_tested}
pub use Rattle.lot_machine.proofs.NodeBounds.{base_ticket, issuer-amount, other_ticket, user_ticket}
pub use Rattle.lot_machine.proofs.NodeShares.{same-shares, solution}
pub use Rattle.lot_machine.proofs.RecordsKept.{RunsApart-placed}
pub use Rattle.lot_machine.proofs.ValueDepth.{depth-enough}
