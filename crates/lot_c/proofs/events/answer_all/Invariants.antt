use Rattle.lot_c.proofs.Common.{AreDone, Snapshot, events_meant, first_fault, length, replies, replies_written, state_after, take, ◌++◌, ◌+◌, ◌≡◌}
use Rattle.std.proofs.Common.{drop}
use Rattle.lot_c.proofs.events.answer_all.Given as goal

-- what was done so far and what is left to do come to the whole
abbrev pub invariant-loop-i : goal.invariant-loop-i
invariant-loop-i l = record {
  told : take l.i l.replies ++ replies_written l.kernel.state (drop l.i l.events) (drop l.i l.replies)
      ≡ replies_written l.fn.kernel.state l.events l.fn.replies;
  state : state_after l.kernel.state (events_meant l.fn.kernel.state.limits (drop l.i l.events))
      ≡ state_after l.fn.kernel.state (events_meant l.fn.kernel.state.limits l.events);
  fault : first_fault l.fn.kernel.state.limits (drop l.i l.events) ≡ first_fault l.fn.kernel.state.limits l.events;
  counted : l.i + length (events_meant l.fn.kernel.state.limits (drop l.i l.events))
      ≡ length (events_meant l.fn.kernel.state.limits l.events);
  done : l.done ≡ l.i;
  lengths : length l.events ≡ length l.replies;
  same : l.kernel.state.limits ≡ l.fn.kernel.state.limits;
  each : (end : Snapshot) → AreDone (events_meant l.fn.kernel.state.limits (drop l.i l.events))
      (replies l.kernel.state (events_meant l.fn.kernel.state.limits (drop l.i l.events))) l.kernel end
      → AreDone (events_meant l.fn.kernel.state.limits l.events)
      (replies l.fn.kernel.state (events_meant l.fn.kernel.state.limits l.events)) l.fn.kernel end;
}
