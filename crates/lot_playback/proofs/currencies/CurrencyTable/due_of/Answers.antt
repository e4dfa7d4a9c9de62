use Rattle.lot_playback.specs.declared.sharers.Sharers.TheVariants.{Currencies}
use Rattle.lot_playback.proofs.currencies.CurrencyTable.due_of.Goals as goal

pub returns-clause-due : goal.returns-clause-due
returns-clause-due c first s done n are = c.of.ensures.due Currencies first s done n are.dues
