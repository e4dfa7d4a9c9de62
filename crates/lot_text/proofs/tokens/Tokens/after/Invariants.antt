use Rattle.std.proofs.Common.{drop, length, ◌≡◌, ◌≤◌}
use Rattle.lot_text.proofs.tokens.Tokens.after.Given as goal

abbrev pub invariant-loop : goal.invariant-loop
invariant-loop l = record {
  rest : l.self ≡ drop l.counter l.initial.self;
  some : l.counter ≤ length l.initial.self;
}
