use Rattle.std.proofs.Common.{◌≡◌}
use Rattle.lot_system.proofs.warnings.note_end.Given as goal

-- what was noted of commands and traps stays
abbrev pub invariant-loop-place : goal.invariant-loop-place
invariant-loop-place l = record {
  made : l.warnings.made ≡ l.initial.warnings.made;
  refused : l.warnings.refused ≡ l.initial.warnings.refused;
  refused_traps : l.warnings.refused_traps ≡ l.initial.warnings.refused_traps;
  stopped : l.warnings.stopped ≡ l.initial.warnings.stopped;
  unmade : l.warnings.unmade ≡ l.initial.warnings.unmade;
}
