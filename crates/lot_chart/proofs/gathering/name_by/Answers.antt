use Rattle.lot_chart.proofs.Common.{arith, length, length-range_with_len}
use Rattle.lot_chart.proofs.gathering.name_by.Goals as goal

pub thread_name-requires : goal.thread_name-requires
thread_name-requires c =
    let between = rw c.in-Thread.is at c.requires in
    let count = length-range_with_len 1 (length c.args.settled.kernel.now.state.records) in
    (omega (arith, between.0), omega (arith, between.1, count))
