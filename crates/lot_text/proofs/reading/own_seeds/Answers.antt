use Rattle.lot_text.proofs.Common.{AreSeeds-own, arith, range_with_len-push, ◌≡◌}
use Rattle.lot_text.proofs.reading.own_seeds.Goals as goal

pub loop-processor-preserved : goal.loop-processor-preserved
loop-processor-preserved c = rw (range_with_len-push, ← c.loop-processor.invariant) c.in_ok-push.ensures.items

pub returns-clause-seeds : goal.returns-clause-seeds
returns-clause-seeds c =
    let all : c.loop-processor.processor ≡ c.args.processors = omega arith in
    rw (c.loop-processor.invariant, all) (AreSeeds-own c.args.processors (omega (arith, c.requires.1)))
