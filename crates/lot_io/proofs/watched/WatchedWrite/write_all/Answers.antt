use Rattle.std.proofs.Common.{◌+◌, arith}
use Rattle.std.proofs.lemmas.Grind.{common_steps}
use Rattle.std.proofs.lemmas.List.{take_rest}
use Rattle.lot_io.proofs.WritingFacts.{appends-more, appends-none, appends-rest, keeps-appends}
use Rattle.lot_io.proofs.watched.WatchedWrite.write_all.Goals as goal

pub returns-in_err-taken-clause-begun : goal.returns-in_err-taken-clause-begun
returns-in_err-taken-clause-begun g c =
    c.loop-rest.invariant.begun _ 0 (keeps-appends _ _ c.in_err-taken.ensures.bytes)

pub loop-rest-preserved : goal.loop-rest-preserved
loop-rest-preserved g c =
    let following = take_rest c.loop-rest.rest.now c.in_ok-taken.taken in
    record {
      bytes = λ new h. c.loop-rest.invariant.bytes new
          (appends-rest _ _ new c.in_ok-taken.taken c.loop-rest.rest.now _ following c.in_ok-taken.ensures.bytes h);
      begun = λ new count h. c.loop-rest.invariant.begun new (c.in_ok-taken.taken + count) (appends-more _ _ new
          c.in_ok-taken.taken count c.loop-rest.rest.now _ following c.in_ok-taken.ensures.bytes h);
      failed = grind (arith, common_steps);
      shorter = grind (arith, common_steps);
      flushed = grind (arith, common_steps);
      nothing_after = grind (arith, common_steps);
    }

pub returns-clause-begun : goal.returns-clause-begun
returns-clause-begun g c = c.loop-rest.invariant.begun _ 0 (appends-none _)
