use Rattle.lot_queues.proofs.Common.{map, nodes_of, ◌++◌, ◌+◌, ◌≡◌}
use Rattle.lot_queues.proofs.queues.list_threads.Given as goal

-- the list is what was yielded and what is left, and `out` has the threads of what was yielded
abbrev pub invariant-loop-node : goal.invariant-loop-node
invariant-loop-node l = record {
  split : nodes_of l.lists l.list ≡ l.yielded ++ l.node-iterator;
  listed : l.out.items ≡ map (λ n. n + 1) l.yielded;
  room : l.out.room ≡ l.initial.out.room;
}
