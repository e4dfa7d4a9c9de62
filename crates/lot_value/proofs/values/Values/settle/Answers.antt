use Rattle.lot_value.proofs.Lemmas.{once-mapped, settle-more, settled-unit, ◌∙◌}
use Rattle.lot_value.proofs.values.Values.settle.Goals as goal

pub loop-preserved : goal.loop-preserved
loop-preserved c = record {
  unit = settled-unit c.loop.self c.settle_next.new.self c.settle_next.result c.is_some.result c.is_some.ensures
      c.loop-test.true c.settle_next.ensures.settles ∙ c.loop.invariant.unit;
  right = λ live kept before. c.settle_next.ensures.right live kept (c.loop.invariant.right live kept before);
  counted =
      settle-more c.args.graph.now.funding c.args.self.now.reads c.loop.self.reads c.settle_next.new.self.reads
      c.args.self.now.stale c.loop.self c.settle_next.new.self c.settle_next.result c.is_some.result c.is_some.ensures
      c.loop-test.true
      c.settle_next.ensures.settles c.settle_next.ensures.counted c.loop.invariant.counted;
}

pub returns-clause-once : goal.returns-clause-once
returns-clause-once c = rw (← c.self.view_is) (once-mapped c.self.inside.layout c.self.inside.stale c.self.invariant.0)
