use Rattle.lot_laws.proofs.Issuers.{issues-none, funds-none}
use Rattle.lot_laws.proofs.removed.removed_currencies_have_no_tickets.Goals as goal

pub returns-clause-issued : goal.returns-clause-issued
returns-clause-issued c = issues-none

pub returns-clause-funded : goal.returns-clause-funded
returns-clause-funded c = funds-none
