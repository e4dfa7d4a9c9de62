use Rattle.lot_laws.proofs.Lemmas.{arith, count_by-le-length, is_some, reachable-order, reachable-tables}
use Rattle.lot_laws.proofs.reused.limits_bound_what_exists.Goals as goal

pub returns-clause-tickets : goal.returns-clause-tickets
returns-clause-tickets c s reached =
    omega (arith, count_by-le-length is_some s.tickets, (reachable-order s reached).ticket_count)

pub returns-clause-currencies : goal.returns-clause-currencies
returns-clause-currencies c s reached =
    omega (arith, count_by-le-length is_some s.currencies, (reachable-tables s reached).0)

pub returns-clause-threads : goal.returns-clause-threads
returns-clause-threads c s reached =
    omega (arith, count_by-le-length is_some s.threads, (reachable-tables s reached).1)

pub returns-clause-places : goal.returns-clause-places
returns-clause-places c s reached =
    ((reachable-order s reached).ticket_count, (reachable-tables s reached).0, (reachable-tables s reached).1)
