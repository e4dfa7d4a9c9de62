-- the ports from this place on are left to do, and only servers have changed
use Rattle.lot_kernel.proofs.Lemmas.{AreGone, holders_from, left_by, length, ◌==◌, ◌≤◌}
use Rattle.lot_kernel.proofs.tables.Tables.leave_ports.Given as goal

abbrev pub invariant-loop-place : goal.invariant-loop-place
invariant-loop-place l = record {
  gone : AreGone (λ server. server == l.thread.number) l.fn.self l.self (left_by l.fn.self.state l.thread.number)
      (holders_from (length l.fn.self.state.mutexes) l.place);
  from : l.fn.self.state.limits.mutexes ≤ l.place;
}
