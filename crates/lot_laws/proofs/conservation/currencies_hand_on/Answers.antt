use Rattle.lot_laws.proofs.Conserved.{adds-up, loses-most}
use Rattle.lot_laws.proofs.conservation.currencies_hand_on.Goals as goal

pub returns-clause-adds_up : goal.returns-clause-adds_up
returns-clause-adds_up c = adds-up

pub returns-clause-most : goal.returns-clause-most
returns-clause-most c f no_cycle there amounts unit live = loses-most f no_cycle there unit live amounts
