use Rattle.lot_laws.proofs.TwoCurrencies.{other-currency, changes-inside}
use Rattle.lot_laws.proofs.worked.insulation.other_currency.Goals as goal

pub returns-clause-unaffected : goal.returns-clause-unaffected
returns-clause-unaffected c = other-currency

pub returns-clause-inside : goal.returns-clause-inside
returns-clause-inside c = changes-inside
