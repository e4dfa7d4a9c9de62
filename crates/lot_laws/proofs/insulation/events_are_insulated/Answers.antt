use Rattle.lot_laws.proofs.Lemmas.{run-insulated, [], ◌∷◌}
use Rattle.lot_laws.proofs.insulation.events_are_insulated.Goals as goal

pub returns-clause-event : goal.returns-clause-event
returns-clause-event c s e = run-insulated s (e ∷ [])

pub returns-clause-run : goal.returns-clause-run
returns-clause-run c = run-insulated
