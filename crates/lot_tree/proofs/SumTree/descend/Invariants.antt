use Rattle.lot_tree.proofs.Lemmas.{IsCounted, IsNarrowed, IsUncounted, ◌⊎◌}
use Rattle.lot_tree.proofs.SumTree.descend.Given as goal

abbrev pub invariant-loop-level : goal.invariant-loop-level
invariant-loop-level g l = record {
  narrowed : IsNarrowed l.self-inside.weights.items l.d l.initial.level l.level l.block l.rest;
  counted : IsUncounted l.initial.level l.level l.block l.reads ⊎ IsCounted l.initial.level l.level l.reads;
}
