use Rattle.lot_system.proofs.Lemmas.{Err, List, Layout, State, arith, length, option_map_or, range-more, range-stops, rules, thread_row, thread_text, ℕ, [], ◌+◌, ◌≡◌}
use Rattle.lot_system.proofs.report.write_threads.Goals as goal

-- the line or row of the thread with a number, if there is one
abbrev line : Layout → State → ℕ → List ℕ
line layout s n = option_map_or (thread_text layout n) (thread_row s n) []

pub returns-in_err-write_thread : goal.returns-in_err-write_thread
returns-in_err-write_thread g c =
    let is : c.from_residual.result ≡ Err c.in_err-write_thread.field-0.0 = search rules in
    let i = c.loop-place.invariant in
    let told = c.in_err-write_thread.ensures in
    rw is (
      told.0,
      told.1,
      range-stops (g.W.Write.contents c.args.writer.now.inner) (g.W.Write.contents c.loop-place.writer.inner)
          (g.W.Write.contents c.write_thread.new.writer.inner)
          (line c.args.layout c.args.settled.kernel.now.state) 1 c.loop-place.place
          (length c.args.settled.kernel.now.state.records) (c.loop-place.place + 1)
          (omega (arith, c.loop-place-test.true, c.thread_count-place-end.ensures)) (omega arith) i.bytes told.2,
    )

pub loop-place-preserved : goal.loop-place-preserved
loop-place-preserved g c =
    let i = c.loop-place.invariant in
    let told = c.in_ok-write_thread.ensures in
    record {
      working = told.0;
      bytes = range-more (g.W.Write.contents c.args.writer.now.inner) (g.W.Write.contents c.loop-place.writer.inner)
          (g.W.Write.contents c.write_thread.new.writer.inner) (line c.args.layout c.args.settled.kernel.now.state) 1
          c.loop-place.place (c.loop-place.place + 1) (omega arith) i.bytes told.1;
    }
