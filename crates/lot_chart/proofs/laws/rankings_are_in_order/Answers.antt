use Rattle.lot_chart.proofs.Ranked.{ranked-in_order, ranked-length, ranked-once}
use Rattle.lot_chart.proofs.laws.rankings_are_in_order.Goals as goal

pub returns-clause-order : goal.returns-clause-order
returns-clause-order c = ranked-in_order

pub returns-clause-once : goal.returns-clause-once
returns-clause-once c row t there = ranked-once row t there.0 there.1

pub returns-clause-len : goal.returns-clause-len
returns-clause-len c = ranked-length
