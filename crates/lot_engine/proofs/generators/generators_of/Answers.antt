use Rattle.lot_engine.proofs.Errors.{if-ok-none}
use Rattle.lot_engine.proofs.generators.generators_of.Goals as goal

pub returns-in_err-generators-clause-seeds : goal.returns-in_err-generators-clause-seeds
returns-in_err-generators-clause-seeds c = if-ok-none c.from_residual.result _ c.from_residual.ensures.0

pub returns-in_err-generators-clause-count : goal.returns-in_err-generators-clause-count
returns-in_err-generators-clause-count c = if-ok-none c.from_residual.result _ c.from_residual.ensures.0
