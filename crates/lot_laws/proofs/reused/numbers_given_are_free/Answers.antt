use Rattle.lot_laws.proofs.Lemmas.{currency-free, thread-free, ticket-free}
use Rattle.lot_laws.proofs.reused.numbers_given_are_free.Goals as goal

pub returns-clause-ticket : goal.returns-clause-ticket
returns-clause-ticket c = ticket-free

pub returns-clause-currency : goal.returns-clause-currency
returns-clause-currency c = currency-free

pub returns-clause-thread : goal.returns-clause-thread
returns-clause-thread c = thread-free
