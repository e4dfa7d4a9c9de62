use Rattle.lot_laws.proofs.Lemmas.{conserved, few-lost, funding_of, live_of, loses-most, reachable-amounts, reachable-order}
use Rattle.lot_laws.proofs.conservation.value_stays_conserved.Goals as goal

pub returns-clause-adds_up : goal.returns-clause-adds_up
returns-clause-adds_up c s is = let order = reachable-order s is in conserved s order.no_cycle order.funds_there

pub returns-clause-most : goal.returns-clause-most
returns-clause-most c s is = let order = reachable-order s is in
    few-lost s order.no_cycle order.funds_there (reachable-amounts s is)

pub returns-clause-currency : goal.returns-clause-currency
returns-clause-currency c s currency is user =
    let order = reachable-order s is in loses-most (funding_of s) order.no_cycle order.funds_there s.limits.unit
    (live_of s) (reachable-amounts s is) currency user
