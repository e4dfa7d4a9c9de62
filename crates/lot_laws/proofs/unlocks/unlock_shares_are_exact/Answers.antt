use Rattle.lot_laws.proofs.UnlockShares.{each-passes, first-gets, next-waits, waiter-share}
use Rattle.lot_laws.proofs.unlocks.unlock_shares_are_exact.Goals as goal

pub returns-clause-share : goal.returns-clause-share
returns-clause-share c = waiter-share

pub returns-clause-each : goal.returns-clause-each
returns-clause-each c = each-passes

pub returns-clause-waiter : goal.returns-clause-waiter
returns-clause-waiter c = next-waits

pub returns-clause-first : goal.returns-clause-first
returns-clause-first c = first-gets
