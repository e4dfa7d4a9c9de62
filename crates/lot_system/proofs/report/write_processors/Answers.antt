use Rattle.lot_system.proofs.Lemmas.{Err, arith, processor_total, range-more, range-stops, rules, turns_made, world_of, ◌+◌, ◌≡◌}
use Rattle.lot_system.proofs.report.write_processors.Goals as goal

pub returns-in_err-write_processor : goal.returns-in_err-write_processor
returns-in_err-write_processor g c =
    let is : c.from_residual.result ≡ Err c.in_err-write_processor.field-0.0 = search rules in
    let told = c.in_err-write_processor.ensures in
    let i = c.loop-place.invariant in
    let s = c.args.system.now in
    rw is (
      told.0,
      told.1,
      range-stops (g.W.Write.contents c.args.writer.now.inner) (g.W.Write.contents c.loop-place.writer.inner)
          (g.W.Write.contents c.write_processor.new.writer.inner)
          (processor_total (turns_made s.setting.program s.history)) 1 c.loop-place.place
          (world_of s).state.limits.processors (c.loop-place.place + 1)
          (omega (arith, c.loop-place-test.true, c.processors-place-end.ensures.world)) (omega arith) i.bytes told.2,
    )

pub loop-place-preserved : goal.loop-place-preserved
loop-place-preserved g c =
    let i = c.loop-place.invariant in
    let s = c.args.system.now in
    let told = c.in_ok-write_processor.ensures in
    record {
      working = told.0;
      bytes = range-more (g.W.Write.contents c.args.writer.now.inner) (g.W.Write.contents c.loop-place.writer.inner)
          (g.W.Write.contents c.write_processor.new.writer.inner)
          (processor_total (turns_made s.setting.program s.history)) 1 c.loop-place.place
          (c.loop-place.place + 1) (omega arith) i.bytes told.1;
    }
