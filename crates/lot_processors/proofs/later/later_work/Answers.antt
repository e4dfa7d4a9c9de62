use Rattle.lot_processors.proofs.later.later_work.Goals as goal

pub returns-then-is_same-clause-last : goal.returns-then-is_same-clause-last
returns-then-is_same-clause-last c now is = let same = c.is_same.ensures c.if-is_same.true in cc
