use Rattle.lot_queues.proofs.TakenOut.{left-free, left-removed, none-free, some-listed}
use Rattle.lot_queues.proofs.queues.remove_listed.Goals as goal

pub returns-then-is_none-clause-free : goal.returns-then-is_none-clause-free
returns-then-is_none-clause-free c =
    none-free c.args.lists.now _ _ _ c.is_none.ensures c.if-is_none.true c.list_of.ensures.free

pub returns-then-is_none-clause-left : goal.returns-then-is_none-clause-left
returns-then-is_none-clause-left c = left-free c.args.lists.now _
    (none-free c.args.lists.now _ _ _ c.is_none.ensures c.if-is_none.true c.list_of.ensures.free)

pub returns-clause-left : goal.returns-clause-left
returns-clause-left c =
    let (from, listed) =
    some-listed c.args.lists.now _ _ _ c.is_none.ensures c.if-is_none.false c.list_of.ensures.found in
    left-removed c.args.lists.now c.remove.new.self _ from c.list_of.ensures.consistent listed c.remove.ensures.removed
