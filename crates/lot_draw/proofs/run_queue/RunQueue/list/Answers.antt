use Rattle.lot_draw.proofs.Lemmas.{IsFree, found-free, nodes_of, pushed-contains, pushed-is}
use Rattle.lot_draw.proofs.run_queue.RunQueue.list.Goals as goal

pub push_back-requires-clause-free : goal.push_back-requires-clause-free
push_back-requires-clause-free c = found-free c.list_of.result c.is_none.result
    (IsFree c.self.inside.changed c.args.place) c.is_none.ensures c.if-is_none.true c.list_of.ensures.free

pub returns-then-is_none-clause-listed : goal.returns-then-is_none-clause-listed
returns-then-is_none-clause-listed c =
    let old = c.self.inside.changed in
    let new = c.push_back.new.self in
    rw (← c.self.view_is) (pushed-contains (nodes_of old 0) (nodes_of new 0) c.args.place
    (pushed-is old new c.args.place c.self.invariant.list.one c.push_back.ensures.pushed))
