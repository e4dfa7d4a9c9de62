use Rattle.lot_laws.proofs.TwoCurrencies.{other-unaffected-by-amount, amount-changes-inside, same-currency-untouched, same-currency-affected}
use Rattle.lot_laws.proofs.worked.insulation.larger_amount.Goals as goal

pub returns-clause-unaffected : goal.returns-clause-unaffected
returns-clause-unaffected c = other-unaffected-by-amount

pub returns-clause-inside : goal.returns-clause-inside
returns-clause-inside c = amount-changes-inside

pub returns-clause-untouched : goal.returns-clause-untouched
returns-clause-untouched c = same-currency-untouched

pub returns-clause-affected : goal.returns-clause-affected
returns-clause-affected c = same-currency-affected
