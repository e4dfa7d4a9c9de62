use Rattle.lot_kernel.proofs.Common.{AreDone, IsSound, List, Snapshot, drop, length, replies, state_after, take, ◌++◌, ◌≡◌}
use Rattle.lot_machine.specs.declared.reply.Reply.{Reply}
use Rattle.lot_kernel.proofs.kernel.Kernel.run.Given as goal

-- the replies so far and those to what is left are the replies to all, and what is done with what is left is done with all
abbrev pub invariant-loop-i : goal.invariant-loop-i
invariant-loop-i l = record {
  told : take l.i l.out ++ replies l.self.state (drop l.i l.events) ≡ replies l.fn.self.state l.events;
  state : state_after l.self.state (drop l.i l.events) ≡ state_after l.fn.self.state l.events;
  lengths : length l.events ≡ length l.out;
  sound : IsSound l.self.state;
  done : (rest : List Reply) (end : Snapshot) → AreDone (drop l.i l.events) rest l.self end
      → AreDone l.events (take l.i l.out ++ rest) l.fn.self end;
}
