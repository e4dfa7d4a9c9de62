use Rattle.lot_laws.proofs.Lemmas.{currencies-in-order, length, opening, range-differs, subst, sym, thread_given, threads-in-order, tickets-in-order, ◌≢◌}
use Rattle.std.specs.Prelude.{AllPairs}
use Rattle.lot_laws.specs.Numbers.{currency_given, numbers_given, ticket_given}
use Rattle.lot_laws.proofs.reused.no_number_is_given_twice.Goals as goal

pub returns-clause-tickets : goal.returns-clause-tickets
returns-clause-tickets c limits events off =
    subst (AllPairs (λ a b. a ≢ b)) (sym (tickets-in-order (opening limits) events off))
    (range-differs 1 (length (numbers_given ticket_given (opening limits) events)))

pub returns-clause-tickets_in_order : goal.returns-clause-tickets_in_order
returns-clause-tickets_in_order c limits = tickets-in-order (opening limits)

pub returns-clause-currencies : goal.returns-clause-currencies
returns-clause-currencies c limits events off =
    subst (AllPairs (λ a b. a ≢ b)) (sym (currencies-in-order (opening limits) events off))
    (range-differs 1 (length (numbers_given currency_given (opening limits) events)))

pub returns-clause-currencies_in_order : goal.returns-clause-currencies_in_order
returns-clause-currencies_in_order c limits = currencies-in-order (opening limits)

pub returns-clause-threads : goal.returns-clause-threads
returns-clause-threads c limits events off =
    subst (AllPairs (λ a b. a ≢ b)) (sym (threads-in-order (opening limits) events off))
    (range-differs 1 (length (numbers_given thread_given (opening limits) events)))

pub returns-clause-threads_in_order : goal.returns-clause-threads_in_order
returns-clause-threads_in_order c limits = threads-in-order (opening limits)
