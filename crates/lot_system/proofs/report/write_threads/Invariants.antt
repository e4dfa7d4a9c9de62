use Rattle.lot_system.proofs.Common.{Appends, false, flat_map, option_map_or, range_with_len, thread_row, thread_text, [], ◌≡◌}
use Rattle.lot_system.proofs.report.write_threads.Given as goal

-- the lines of the threads passed so far are written
abbrev pub invariant-loop-place : goal.invariant-loop-place
invariant-loop-place g l = record {
  working : l.writer.failed ≡ false;
  bytes : Appends (g.W.Write.contents l.initial.writer.inner) (g.W.Write.contents l.writer.inner) (flat_map (λ n.
      option_map_or (thread_text l.layout n) (thread_row l.settled.kernel.now.state n) []) (range_with_len 1 l.place));
}
